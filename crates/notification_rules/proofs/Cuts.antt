-- A cut is a whole item and the rest's cut, or nothing: the bound on the number of items never ends it, since each takes a byte at least.
use Prim.Native.Nat.{ℕ, zero, suc, ◌≤◌, ◌<◌}
use mathlib.Core.Path.{◌≡◌, refl, sym, ap, ◌∙◌}
use mathlib.Core.Bool.{Bool, true, false}
use mathlib.Core.List.{List, [], ◌∷◌}
use lib.ListN.{length, take, drop, length-drop}
use lib.Dec.{leb, ltb}
use borrow.Author.Tests.{lt-ltb, le-leb, lt-leb, ltb-true, leb-true}
use native.Mathlib.Omega.{arith}
use Rattle.wire.specs.Choice.{pick, both}
use Rattle.wire.proofs.Choice.{both_true, never}
use Rattle.notification_rules.specs.Cut.{Size, stop, more, whole, cut_within, cut_of, is_nil}

pub nil_true : (s : List ℕ) → length s ≡ 0 → is_nil s ≡ true
nil_true [] h = refl
nil_true (x ∷ s) h = absurd (omega arith)

pub nil_false : (s : List ℕ) → 0 < length s → is_nil s ≡ false
nil_false [] h = absurd (omega arith)
nil_false (x ∷ s) h = refl

pub nil_length : (s : List ℕ) → is_nil s ≡ true → length s ≡ 0
nil_length [] h = refl
nil_length (x ∷ s) h = absurd (never h)

module _ (size : Size) where
  pub whole_yes : (s : List ℕ) → 0 < size s → size s ≤ length s → whole size s ≡ true
  unfolding whole both
  whole_yes s h g = rw (lt-ltb 0 (size s) h, le-leb (size s) (length s) g)

  pub whole_no : (s : List ℕ) → 0 < size s → length s < size s → whole size s ≡ false
  unfolding whole both
  whole_no s h g = rw (lt-ltb 0 (size s) h, lt-leb (size s) (length s) g)

  pub whole_true : (s : List ℕ) → whole size s ≡ true → (0 < size s) × (size s ≤ length s)
  unfolding whole
  whole_true s h =
      let p = both_true (ltb 0 (size s)) (leb (size s) (length s)) h in
      (ltb-true 0 (size s) p.0, leb-true (size s) (length s) p.1)

  within_stop : (k : ℕ) (s : List ℕ) → whole size s ≡ false → cut_within size k s ≡ stop s
  unfolding cut_within pick
  within_stop zero s h = refl
  within_stop (suc k) s h = rw h

  within_more : (k : ℕ) (s : List ℕ) → whole size s ≡ true → cut_within size (suc k) s ≡ more (take (size s) s) (cut_within size k (drop (size s) s))
  unfolding cut_within pick
  within_more k s h = rw h

  pub cut_stop : (s : List ℕ) → whole size s ≡ false → cut_of size s ≡ stop s
  unfolding cut_of
  cut_stop s h = within_stop (length s) s h

  within_fuel : (j k : ℕ) (s : List ℕ) → length s ≤ j → length s ≤ k → cut_within size j s ≡ cut_within size k s
  within_fuel zero zero s h g = refl
  within_fuel zero (suc k) s h g = go (whole size s) refl
    where
      go : (b : Bool) → whole size s ≡ b → cut_within size zero s ≡ cut_within size (suc k) s
      go true e = absurd (omega (arith, whole_true s e))
      go false e = within_stop zero s e ∙ sym (within_stop (suc k) s e)
  within_fuel (suc j) zero s h g = go (whole size s) refl
    where
      go : (b : Bool) → whole size s ≡ b → cut_within size (suc j) s ≡ cut_within size zero s
      go true e = absurd (omega (arith, whole_true s e))
      go false e = within_stop (suc j) s e ∙ sym (within_stop zero s e)
  within_fuel (suc j) (suc k) s h g = go (whole size s) refl (within_fuel j k (drop (size s) s))
    where
      go : (b : Bool) → whole size s ≡ b
          → (length (drop (size s) s) ≤ j → length (drop (size s) s) ≤ k
          → cut_within size j (drop (size s) s) ≡ cut_within size k (drop (size s) s))
          → cut_within size (suc j) s ≡ cut_within size (suc k) s
      go true e ih =
          within_more j s e
          ∙ ap (more (take (size s) s)) (ih (simp length-drop (omega (arith, whole_true s e)))
          (simp length-drop (omega (arith, whole_true s e))))
          ∙ sym (within_more k s e)
      go false e ih = within_stop (suc j) s e ∙ sym (within_stop (suc k) s e)

  pub cut_more : (s : List ℕ) → whole size s ≡ true → cut_of size s ≡ more (take (size s) s) (cut_of size (drop (size s) s))
  unfolding cut_of
  cut_more s h =
      within_fuel (length s) (suc (length s)) s (omega arith) (omega arith)
      ∙ within_more (length s) s h
      ∙ ap
      (more (take (size s) s))
      (within_fuel (length s) (length (drop (size s) s)) (drop (size s) s) (simp length-drop (omega arith)) (omega arith))
