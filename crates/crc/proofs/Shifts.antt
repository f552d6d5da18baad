-- A sum of shifts adds over xor because each shift does; so it is zero everywhere if it is zero at each single bit.
use mathlib.Core.Path.{◌≡◌, refl, sym, ap, ap₂, ◌∙◌}
use mathlib.Core.List.{List, [], ◌∷◌}
use Prim.Native.Nat.{ℕ, zero, suc, ◌+◌, ◌*◌, ◌/◌, ◌%◌, ◌^◌, ◌<◌}
use native.Mathlib.Nat.{mod-lt, one-mul, zero-mul, div-lt_iff_lt-mul}
use native.Mathlib.Nat.{eq-or-lt_of_le, le_of_suc-le-suc, not-suc-le-zero}
use mathlib.Core.Logic.{⊎_elim}
use native.Mathlib.Omega.{arith}
use lib.Bits.{bit_xor, xor_zero_r, xor_self, xor_shr, xor_mod, xor_shifted}
use lib.Pow.{pow_pos, split}
use Rattle.std.specs.Int.Bits.{xor_assoc}
use Rattle.rules.proofs.Crc.{bit_cases, xor_four, xor_shl}

-- a word of 64 bits where it is, moved up or moved down
pub data Shift : Type 0 where
  stay : Shift
  up : ℕ → Shift
  down : ℕ → Shift

unfoldable pub moved : Shift → ℕ → ℕ
moved stay v = v
moved (up k) v = v * 2 ^ k % 2 ^ 64
moved (down k) v = v / 2 ^ k

-- a with the shifts of v added
unfoldable pub added : ℕ → List Shift → ℕ → ℕ
added a [] v = a
added a (m ∷ ms) v = added (bit_xor a (moved m v)) ms v

-- v added to its own shifts, list after list
abbrev pub product : List (List Shift) → ℕ → ℕ
product [] v = v
product (ms ∷ mss) v = product mss (added v ms v)

-- ---- each adds over xor
abbrev pub Adds : (ℕ → ℕ) → Type 0
Adds f = (a b : ℕ) → f (bit_xor a b) ≡ bit_xor (f a) (f b)

pub moved_add : (m : Shift) → Adds (moved m)
unfolding moved
moved_add stay a b = refl
moved_add (up k) a b = ap (λ x. x % 2 ^ 64) (xor_shl k a b) ∙ xor_mod (a * 2 ^ k) (b * 2 ^ k) 64
moved_add (down k) a b = xor_shr a b k

pub added_add : (ms : List Shift) (a b u v : ℕ)
    → added (bit_xor a b) ms (bit_xor u v) ≡ bit_xor (added a ms u) (added b ms v)
unfolding added
added_add [] a b u v = refl
added_add (m ∷ ms) a b u v =
    ap (λ x. added (bit_xor (bit_xor a b) x) ms (bit_xor u v)) (moved_add m u v)
    ∙ ap (λ x. added x ms (bit_xor u v)) (xor_four a b (moved m u) (moved m v))
    ∙ added_add ms (bit_xor a (moved m u)) (bit_xor b (moved m v)) u v

pub added_apart : (ms : List Shift) (a b v : ℕ) → added (bit_xor a b) ms v ≡ bit_xor a (added b ms v)
unfolding added
added_apart [] a b v = refl
added_apart (m ∷ ms) a b v =
    ap (λ x. added x ms v) (xor_assoc a b (moved m v)) ∙ added_apart ms a (bit_xor b (moved m v)) v

pub product_add : (mss : List (List Shift)) → Adds (product mss)
product_add [] a b = refl
product_add (ms ∷ mss) a b = ap (product mss) (added_add ms a b a b) ∙ product_add mss (added a ms a) (added b ms b)

-- ---- zero at each bit, so zero everywhere; a sum of zeros is zero, so one computation covers all
unfoldable pub total : (ℕ → ℕ) → ℕ → ℕ
total f zero = 0
total f (suc k) = f k + total f k

pub total_at : (f : ℕ → ℕ) (n : ℕ) → total f n ≡ 0 → (k : ℕ) → k < n → f k ≡ 0
unfolding total
total_at f zero e k h = absurd (not-suc-le-zero h)
total_at f (suc n) e k h =
    let here : f n ≡ 0 = omega (arith, e) in
    let below : total f n ≡ 0 = omega (arith, e) in
    ⊎_elim (λ same. ap f same ∙ here) (λ less. total_at f n below k less) (eq-or-lt_of_le (le_of_suc-le-suc h))

abbrev pub at_bits : (ℕ → ℕ) → ℕ → ℕ
at_bits f = total (λ j. f (2 ^ j))

pub vanishes : (f : ℕ → ℕ) → Adds f → (k : ℕ) → at_bits f k ≡ 0 → (v : ℕ) → v < 2 ^ k → f v ≡ 0
unfolding total
vanishes f add zero e v h = let z : v ≡ 0 = omega (arith, h) in ap f z ∙ add 0 0 ∙ xor_self (f 0)
vanishes f add (suc k) e v h =
    let q : ℕ = v / 2 ^ k in
    let r : ℕ = v % 2 ^ k in
    let here : f (2 ^ k) ≡ 0 = omega (arith, e) in
    let below : at_bits f k ≡ 0 = omega (arith, e) in
    let high : f (q * 2 ^ k) ≡ 0 =
    bit_cases (λ x. f (x * 2 ^ k) ≡ 0) (ap f (zero-mul (2 ^ k)) ∙ add 0 0 ∙ xor_self (f 0))
    (ap f (one-mul (2 ^ k)) ∙ here) q ((div-lt_iff_lt-mul (pow_pos k)).1 (omega (arith, h))) in
    ap f (sym (xor_shifted q k r (mod-lt v (pow_pos k)) ∙ split v k)) ∙ add (q * 2 ^ k) r
    ∙ ap₂ bit_xor high (vanishes f add k below r (mod-lt v (pow_pos k)))

pub xor_eq : (a b : ℕ) → bit_xor a b ≡ 0 → a ≡ b
xor_eq a b e = sym (xor_zero_r a) ∙ ap (bit_xor a) (sym (xor_self b)) ∙ sym (xor_assoc a b b) ∙ ap (λ x. bit_xor x b) e
