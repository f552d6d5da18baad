-- A located descriptor is one of a loop's items; a 0x13 that 33 lets pass has nine bytes, and all of them stand in the loop.
use Prim.Native.Nat.{ℕ, ◌+◌, ◌≤◌}
use native.Mathlib.Omega.{arith}
use mathlib.Core.Path.{◌≡◌, refl, ap, ◌∙◌}
use mathlib.Core.Bool.{Bool, true, false}
use mathlib.Core.Logic.{◌⊎◌, inl, inr}
use mathlib.Core.List.Memᴰ
use mathlib.Core.List.{List, [], ◌∷◌, ◌++◌, Memᴰ, flatten}
use lib.ListN.{length, length-append}
use lib.Dec.{eqb}
use borrow.Author.Tests.{eqb-true}
use Rattle.wire.specs.Choice.{pick}
use Rattle.wire.specs.Part.{Part, part}
use Rattle.notification_rules.specs.Cut.{cut_of, from_offset}
use Rattle.notification_rules.specs.Loop.{descriptor_size, tag, body_length, descriptor_items, Pair, pairs_of}
use Rattle.notification_rules.specs.Target.{stream_location, right_length, somewhere, located}
use Rattle.notification_rules.specs.Finding.{known}
use Rattle.notification_rules.proofs.Parts.{rejoined, descriptor_long, every_one, offset_member, offset_stands, Stands}

-- ---- where the located descriptor comes from
located_one : (ds : List Part) (d : Part) → located ds ≡ somewhere d → Memᴰ d ds × (tag d.bytes ≡ stream_location)
unfolding located pick
located_one [] d h = absurd cc
located_one (x ∷ xs) d h = go (eqb (tag x.bytes) stream_location) refl h (located_one xs d)
  where
    go : (b : Bool) → eqb (tag x.bytes) stream_location ≡ b → pick b (somewhere x) (located xs) ≡ somewhere d
        → (located xs ≡ somewhere d → Memᴰ d xs × (tag d.bytes ≡ stream_location))
        → Memᴰ d (x ∷ xs) × (tag d.bytes ≡ stream_location)
    go true e h ih =
        let q : d ≡ x = cc in
        (Memᴰ.head q, ap (λ (y : Part). tag y.bytes) q ∙ eqb-true (tag x.bytes) stream_location e)
    go false e h ih = let r = ih h in (Memᴰ.tail r.0, r.1)

pub operational_one : (ls : List Part) (x : Pair) → Memᴰ x (pairs_of ls) → Memᴰ x.operational ls
unfolding pairs_of
operational_one [] x m = absurd (Memᴰ.not-nil m)
operational_one (t ∷ []) x m = absurd (Memᴰ.not-nil m)
operational_one (t ∷ o ∷ ls) x m = go (Memᴰ.cases_cons m) (operational_one ls x)
  where
    go : (x ≡ record { target = t; operational = o }) ⊎ Memᴰ x (pairs_of ls)
        → (Memᴰ x (pairs_of ls) → Memᴰ x.operational ls) → Memᴰ x.operational (t ∷ o ∷ ls)
    go (inl e) ih = Memᴰ.tail (Memᴰ.head (ap (λ (y : Pair). y.operational) e))
    go (inr n) ih = Memᴰ.tail (Memᴰ.tail (ih n))

pub split_one : (xs ys : List Pair) (x : Pair) → Memᴰ x (xs ++ (x ∷ ys))
split_one [] ys x = Memᴰ.head refl
split_one (z ∷ xs) ys x = Memᴰ.tail (split_one xs ys x)

nine_long : (t n : ℕ) → t ≡ stream_location → right_length t n ≡ true → n ≡ 9
unfolding right_length pick
nine_long t n e h = eqb-true n 9 (rw e at h)

-- a located descriptor of what a loop holds: tag, length and nine bytes stand in it
pub nine_in : (b : List ℕ) (d : Part) → known b ≡ true → located (from_offset 0 (descriptor_items b)) ≡ somewhere d
    → d.offset + 11 ≤ length b
unfolding known descriptor_size
nine_in b d ok e =
    let o = located_one (from_offset 0 (descriptor_items b)) d e in
    let c = cut_of descriptor_size b in
    let u = offset_member 0 c.items d o.0 in
    let n = nine_long (tag d.bytes) (body_length d.bytes) o.1
    (every_one (λ y. right_length (tag y) (body_length y)) c.items d.bytes ok u) in
    let all : Stands b (part 0 (flatten c.items ++ c.left)) =
    rw (rejoined descriptor_size b) (record { front = []; back = []; is = nothing_more b; offset = refl }) in
    let t = offset_stands b 0 c.items c.left d all o.0 in
    omega (
      arith,
      n,
      descriptor_long b d.bytes u,
      t.offset,
      ap length t.is ∙ length-append t.front (d.bytes ++ t.back),
      length-append d.bytes t.back,
    )
  where
    nothing_more : (b : List ℕ) → b ≡ b ++ []
    nothing_more [] = refl
    nothing_more (x ∷ b) = ap (λ (d : List ℕ). x ∷ d) (nothing_more b)
