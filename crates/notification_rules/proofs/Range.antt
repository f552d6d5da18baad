-- A byte that differs decides between two numbers, since all that stands after it is less than one of it.
use Prim.Native.Nat.{ℕ, zero, suc, ◌+◌, ◌*◌, ◌^◌, ◌<◌}
use native.Mathlib.Omega.{arith}
use mathlib.Core.Path.{◌≡◌, refl, sym, ap, ap₂, ◌∙◌}
use mathlib.Core.Bool.{Bool, true, false, not}
use mathlib.Core.List.{List}
use lib.Arith.{digits_lt}
use lib.Dec.{eqb, leb, ltb}
use borrow.Author.Tests.{eqb-true, eqb-false, leb-true, leb-false, le-leb, lt-leb, ltb-true, ltb-false}
use Rattle.wire.specs.Bytes.{byte_at, Bytes, number_at}
use Rattle.wire.specs.Choice.{pick, both}
use Rattle.wire.proofs.Bytes.{number_at_lt}
use Rattle.wire.proofs.Choice.{both_true}
use Rattle.rules.specs.declared.Address.{Address}
use Rattle.rules.specs.Address.{address_at, address_bytes}
use Rattle.notification_rules.specs.Range.{at_most, in_range, RangeMeans, unequal}

-- ---- numbers
same_front : (w u v : ℕ) → leb u v ≡ leb (w + u) (w + v)
same_front w u v = go (leb u v) refl
  where
    go : (t : Bool) → leb u v ≡ t → t ≡ leb (w + u) (w + v)
    go true e = sym (le-leb (w + u) (w + v) (omega (arith, leb-true u v e)))
    go false e = sym (lt-leb (w + u) (w + v) (omega (arith, leb-false u v e)))

-- two numbers of a digit and a rest each: the digits decide where they differ, else the rests
digit_leb : (c x y u v : ℕ) → u < c → v < c → pick (unequal x y) (ltb x y) (leb u v) ≡ leb (x * c + u) (y * c + v)
unfolding pick
digit_leb c x y u v h k = go (eqb x y) refl (ltb x y) refl
  where
    go : (p : Bool) → eqb x y ≡ p → (q : Bool) → ltb x y ≡ q → pick (not p) q (leb u v) ≡ leb (x * c + u) (y * c + v)
    go true e q f =
        same_front (x * c) u v ∙ ap (λ (z : ℕ). leb (x * c + u) (z * c + v)) (eqb-true x y e)
    go false e true f =
        sym (le-leb (x * c + u) (y * c + v) (omega (arith, digits_lt (ltb-true x y f) h)))
    go false e false f =
        let l : y < x = omega (arith, ltb-false x y f, eqb-false x y e) in
        sym (lt-leb (x * c + u) (y * c + v) (omega (arith, digits_lt l k)))

-- n bytes at i and n at j, compared from the top
unfoldable order : ℕ → List ℕ → ℕ → List ℕ → ℕ → Bool
order zero s i t j = true
order (suc n) s i t j = pick (unequal (byte_at s i) (byte_at t j)) (ltb (byte_at s i) (byte_at t j)) (order n s (i + 1) t (j + 1))

order_is : (n : ℕ) (s : List ℕ) (i : ℕ) (t : List ℕ) (j : ℕ) → Bytes s → Bytes t → order n s i t j ≡ leb (number_at n s i) (number_at n t j)
unfolding order number_at
order_is zero s i t j h k = refl
order_is (suc n) s i t j h k =
    ap (pick (unequal (byte_at s i) (byte_at t j)) (ltb (byte_at s i) (byte_at t j))) (order_is n s (i + 1) t (j + 1) h k)
    ∙ digit_leb (256 ^ n) (byte_at s i) (byte_at t j) _ _ (number_at_lt n s (i + 1) h) (number_at_lt n t (j + 1) k)

-- the test, and the same of numbers
module _ (device : Address) (e : List ℕ) (h : Bytes (address_bytes device)) (k : Bytes e) where
  abbrev own : ℕ
  own = number_at 6 (address_bytes device) 0

  pub in_range_is : in_range device e ≡ both (leb (number_at 6 e 0) own) (leb own (number_at 6 e 6))
  unfolding in_range at_most address_at order
  in_range_is = ap₂ both (order_is 6 e 0 (address_bytes device) 0 k h) (order_is 6 (address_bytes device) 0 e 6 h k)

pub range_means : RangeMeans
unfolding both
range_means device e h k = (
  λ p.
      let w = both_true _ _ (sym (in_range_is device e h k) ∙ p) in
      (leb-true _ _ w.0, leb-true _ _ w.1),
  λ w. in_range_is device e h k ∙ rw (le-leb _ _ w.0, le-leb _ _ w.1),
)
