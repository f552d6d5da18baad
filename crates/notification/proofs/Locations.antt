-- The first 0x13 is the descriptor at the front, or that of the rest, which stands as many bytes later.
use Prim.Native.Nat.{ℕ, ◌+◌, ◌-◌, ◌≤◌, ◌<◌}
use Rattle.std.specs.Prelude.{Option, Some, None, is_some}
use denote.Ref.{Bor}
use native.Mathlib.Omega.{arith}
use mathlib.Core.Path.{◌≡◌, refl, ap, ap₂, ◌∙◌}
use mathlib.Core.Bool.{Bool, true, false}
use mathlib.Core.List.{List, [], ◌∷◌}
use lib.ListN.{length, take, drop, length-drop}
use lib.Seq.{drop-drop}
use lib.Dec.{eqb}
use borrow.Author.Tests.{eq-eqb, ne_eqb}
use Rattle.wire.specs.Choice.{pick}
use Rattle.wire.specs.Bytes.{byte_at}
use Rattle.wire.specs.Part.{part}
use Rattle.wire.proofs.Choice.{never}
use Rattle.notification_rules.specs.Answers.{Found}
use Rattle.notification_rules.specs.Cut.{from_offset}
use Rattle.notification_rules.specs.Loop.{descriptor_size, descriptor_items, tag}
use Rattle.notification_rules.specs.Target.{stream_location, Location, nowhere, somewhere, located, is_location, or_else}
use Rattle.notification_rules.specs.Finding.{found, known}
use Rattle.notification_rules.proofs.Items.{located_stop, located_more}
use Rattle.notification_rules.proofs.Located.{nine_in}
use Rattle.notification.specs.declared.location.Choice.TheVariants.{Own, Platform}
use Rattle.notification.specs.Readers.{From, Reaches, Has, choose, choice_of, told, Inside}

-- ---- a loop from its first 0x13 on
pub reaches_end : (s : List ℕ) (n : ℕ) → n ≡ descriptor_size s → length s < n → Reaches s None
reaches_end s n e h o = let l : length s < descriptor_size s = omega arith in located_stop o s l

pub reaches_here : (s : List ℕ) (r : Bor (List ℕ)) (n : ℕ) → r.now ≡ s → n ≡ descriptor_size s → n ≤ length s → byte_at s 0 ≡ stream_location
    → Reaches s (Some r)
unfolding pick
reaches_here s r n i e h q =
    let l : descriptor_size s ≤ length s = omega arith in
    record {
      passed = 0;
      inside = omega arith;
      bytes = i;
      first = λ o.
          let k : o ≡ 0 + o = omega arith in
          rw (located_more o s l, eq-eqb (byte_at s 0) stream_location q, i) (ap (λ (j : ℕ). somewhere (part j (take (descriptor_size s) s))) k);
    }

pub reaches_more : (s : List ℕ) (r : Option (Bor (List ℕ))) (n : ℕ) → n ≡ descriptor_size s → n ≤ length s
    → (byte_at s 0 ≡ stream_location → ⊥) → Reaches (drop n s) r → Reaches s r
unfolding pick
reaches_more s None n e h q c =
    λ o.
    let l : descriptor_size s ≤ length s = omega arith in
    rw (located_more o s l, ne_eqb (byte_at s 0) stream_location q, ← e) (c (o + n))
reaches_more s (Some r) n e h q c =
    let l : descriptor_size s ≤ length s = omega arith in
    record {
      passed = n + c.passed;
      inside = omega (arith, c.inside, length-drop n s);
      bytes = c.bytes ∙ drop-drop c.passed n s;
      first = λ o.
          let m : c.passed + (o + n) ≡ n + c.passed + o = omega arith in
          rw (located_more o s l, ne_eqb (byte_at s 0) stream_location q, ← e)
          (c.first (o + n) ∙ ap (λ (j : ℕ). somewhere (part j (take (descriptor_size r.now) r.now))) m);
    }

pub has_is : (s : List ℕ) (r : Option (Bor (List ℕ))) → Reaches s r → Has s (is_some r)
unfolding is_location
has_is s None c o = rw (c o)
has_is s (Some r) c o = rw (c.first o)

module _ (s r : List ℕ) (c : From s r) where
  pub rest_inside : length r ≤ length s
  rest_inside = omega (arith, ap length c.bytes ∙ length-drop c.passed s)

  -- where it stands, by what is left
  stands_at : c.passed + 0 + 2 ≡ length s - length r + 2
  stands_at = omega (arith, c.inside, ap length c.bytes ∙ length-drop c.passed s)

  -- ---- the choice, by what is left of each loop
  pub chosen_own : (t : List ℕ) → Some (Own (length s - length r + 2)) ≡ choice_of s t
  unfolding choice_of choose
  chosen_own t = rw (c.first 0, stands_at)

module _ (s t : List ℕ) (c : Reaches s None) where
  pub chosen_platform : (v : List ℕ) → From t v → Some (Platform (length t - length v + 2)) ≡ choice_of s t
  unfolding choice_of choose
  chosen_platform v d = rw (c 0, d.first 0, stands_at t v d)

  pub chosen_none : Reaches t None → None ≡ choice_of s t
  unfolding choice_of choose
  chosen_none d = rw (c 0, d 0)

-- ---- what the choice tells of two loops, wherever they stand
moved : ℕ → Location → Location
moved o nowhere = nowhere
moved o (somewhere d) = somewhere (part (o + d.offset) d.bytes)

located_moved : (o k : ℕ) (ds : List (List ℕ)) → located (from_offset (o + k) ds) ≡ moved o (located (from_offset k ds))
unfolding located from_offset moved pick
located_moved o k [] = refl
located_moved o k (d ∷ ds) =
    let m : o + k + length d ≡ o + (k + length d) = omega arith in
    go (eqb (tag d) stream_location) (ap (λ (j : ℕ). located (from_offset j ds)) m ∙ located_moved o (k + length d) ds)
  where
    go : (b : Bool) → located (from_offset (o + k + length d) ds) ≡ moved o (located (from_offset (k + length d) ds))
        → pick b (somewhere (part (o + k) d)) (located (from_offset (o + k + length d) ds))
        ≡ moved o (pick b (somewhere (part k d)) (located (from_offset (k + length d) ds)))
    go true e = refl
    go false e = e

from_zero : (o : ℕ) (s : List ℕ) → located (from_offset o (descriptor_items s)) ≡ moved o (located (from_offset 0 (descriptor_items s)))
from_zero o s =
    let m : o ≡ o + 0 = omega arith in
    ap (λ (j : ℕ). located (from_offset j (descriptor_items s))) m ∙ located_moved o 0 (descriptor_items s)

module _ (s t : List ℕ) (o p : ℕ) where
  abbrev pub here : Location
  here = or_else (located (from_offset o (descriptor_items s))) (located (from_offset p (descriptor_items t)))

  here_moved : here ≡ or_else (moved o (located (from_offset 0 (descriptor_items s)))) (moved p (located (from_offset 0 (descriptor_items t))))
  here_moved = ap₂ or_else (from_zero o s) (from_zero p t)

  tells : (a b : Location) → found (or_else (moved o a) (moved p b)) ≡ told o p (choose a b)
  unfolding found or_else moved choose
  tells nowhere nowhere = refl
  tells nowhere (somewhere d) = let e : p + d.offset + 2 ≡ p + (d.offset + 2) = omega arith in ap Found e
  tells (somewhere d) b = let e : o + d.offset + 2 ≡ o + (d.offset + 2) = omega arith in ap Found e

  pub choice_tells : found here ≡ told o p (choice_of s t)
  unfolding choice_of
  choice_tells = ap found here_moved ∙ tells (located (from_offset 0 (descriptor_items s))) (located (from_offset 0 (descriptor_items t)))

  module _ (ks : known s ≡ true) (kt : known t ≡ true) where
    within : (a b : Location) → located (from_offset 0 (descriptor_items s)) ≡ a → located (from_offset 0 (descriptor_items t)) ≡ b
        → is_location (or_else (moved o a) (moved p b)) ≡ true → Inside s t (choose a b)
    unfolding or_else moved choose is_location
    within nowhere nowhere ea eb h = never h
    within nowhere (somewhere d) ea eb h = omega (arith, nine_in t d kt eb)
    within (somewhere d) b ea eb h = omega (arith, nine_in s d ks ea)

    pub choice_inside : is_location here ≡ true → Inside s t (choice_of s t)
    unfolding choice_of
    choice_inside h = within _ _ refl refl (rw here_moved at h)
