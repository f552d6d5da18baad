-- Bytes may go in as numbers of many bits because the bits of a number are those of its bytes, the first byte's first.
use mathlib.Core.Path.{◌≡◌, refl, sym, ap, ap₂, ◌∙◌}
use mathlib.Core.List.{List, [], ◌∷◌}
use Prim.Native.Nat.{ℕ, zero, suc, ◌+◌, ◌*◌, ◌/◌, ◌%◌, ◌^◌, ◌-◌, ◌≤◌, ◌<◌}
use native.Mathlib.Nat.{lt_of_lt_of_le, mod-lt, mod-eq_of_lt, zero-add, suc-add, add_comm}
use native.Mathlib.Omega.{arith}
use native.Mathlib.Numerals.{add-one}
use lib.ListN.{length, get_or, take, drop, length-drop, take-append-drop}
use lib.Seq.{take-suc, take_all}
use lib.Bits.{bit_xor, xor_lt, xor_zero_r, xor_self}
use lib.Pow.{pow_mono, pow_pos, pow-add, field, mod-mod-pow, high, shr-shr}
use lib.Pow as pow
use Rattle.wire.proofs.Lists.{from}
use Rattle.rules.specs.Crc.{start, crc_bit, crc_bits, crc_byte, crc_from, crc32}
use Rattle.std.specs.Int.Bits.{xor_assoc}
use Rattle.rules.proofs.Crc.{crc_bits_lt, crc_bits_add, crc_from_append}
use Rattle.crc.specs.Words.{number, words, crc_words, crc_after}
use Rattle.crc.proofs.Shifts.{up, moved, total_at, xor_eq}
use Rattle.crc.proofs.Basis.{ones_before, ones_after, start_error, start_right}
use Rattle.crc.proofs.Clear.{none, bits_add, enter, first_word}

-- ---- only the k low bits of x go in
low_bits : (k c x y : ℕ) → x % 2 ^ k ≡ y % 2 ^ k → crc_bits k c x ≡ crc_bits k c y
unfolding crc_bits
low_bits zero c x y e = refl
low_bits (suc k) c x y e =
    let n : suc k ≡ 1 + k = omega arith in
    let bit : (z : ℕ) → z % 2 ^ suc k / 2 ^ k ≡ z / 2 ^ k % 2 = λ z. ap (λ m. z % 2 ^ m / 2 ^ k) n ∙ field z 1 k in
    let rest : (z : ℕ) → z % 2 ^ suc k % 2 ^ k ≡ z % 2 ^ k = λ z. ap (λ m. z % 2 ^ m % 2 ^ k) n ∙ mod-mod-pow z 1 k in
    ap (λ d. crc_bits k (crc_bit c d) x) (sym (bit x) ∙ ap (λ z. z / 2 ^ k) e ∙ bit y)
    ∙ low_bits k (crc_bit c (y / 2 ^ k % 2)) x y (sym (rest x) ∙ ap (λ z. z % 2 ^ k) e ∙ rest y)

parted : (j k c a b : ℕ) → b < 2 ^ k → crc_bits (j + k) c (a * 2 ^ k + b) ≡ crc_bits k (crc_bits j c a) b
unfolding crc_bits
parted zero k c a b h =
    ap (λ n. crc_bits n c (a * 2 ^ k + b)) (zero-add k)
    ∙ low_bits k c (a * 2 ^ k + b) b (pow.low a k h ∙ sym (mod-eq_of_lt h))
parted (suc j) k c a b h =
    ap (λ n. crc_bits n c (a * 2 ^ k + b)) (suc-add j k)
    ∙ ap (λ d. crc_bits (j + k) (crc_bit c (d % 2)) (a * 2 ^ k + b))
    (ap (λ n. (a * 2 ^ k + b) / 2 ^ n) (add_comm j k) ∙ sym (shr-shr (a * 2 ^ k + b) k j)
    ∙ ap (λ z. z / 2 ^ j) (high a k h))
    ∙ parted j k (crc_bit c (a / 2 ^ j % 2)) a b h

-- zeros before a number change nothing in a register of zeros
leading : (j k x : ℕ) → x < 2 ^ k → crc_bits (j + k) 0 x ≡ crc_bits k 0 x
leading j k x h =
    ap (crc_bits (j + k) 0) (omega arith) ∙ parted j k 0 0 x h
    ∙ ap (λ c. crc_bits k c x) (crc_bits_add j 0 0 0 0 none none ∙ xor_self (crc_bits j 0 0))

-- ---- the first k bytes
pub number_more : (k : ℕ) (s : List ℕ) {n : ℕ} → n ≡ number k s → get_or s k 0 < 256
    → n * 256 + get_or s k 0 ≡ number (k + 1) s
unfolding number
number_more k s e h =
    ap₂ (λ x y. x * 256 + y) e (sym (mod-eq_of_lt h)) ∙ ap (λ m. number m s) (sym (add-one k))

pub number_lt : (k : ℕ) (s : List ℕ) → number k s < 2 ^ (k * 8)
unfolding number
number_lt zero s = pow_pos 0
number_lt (suc k) s =
    let e : suc k * 8 ≡ k * 8 + 8 = omega arith in
    let p : 2 ^ (suc k * 8) ≡ 2 ^ (k * 8) * 256 = ap (λ n. 2 ^ n) e ∙ pow-add 2 (k * 8) 8 in
    omega (arith, p, number_lt k s, mod-lt (get_or s k 0) (pow_pos 8))

-- a word, with what is added to it, is a number of 64 bits
pub word_lt : (s : List ℕ) (z : ℕ) → z < 2 ^ 64 → bit_xor (number 8 s) z < 2 ^ 64
word_lt s z h = xor_lt 64 (number 8 s) z (number_lt 8 s) h

pub number_fits : (k : ℕ) (s : List ℕ) → k < 8 → number k s < 2 ^ 56
number_fits k s h = let m : k * 8 ≤ 56 = omega (arith, h) in lt_of_lt_of_le (number_lt k s) (pow_mono m)

number_law : (k c : ℕ) (s : List ℕ) → k ≤ length s → crc_bits (k * 8) c (number k s) ≡ crc_from c (take k s)
unfolding number crc_bits crc_from crc_byte
number_law zero c s h = refl
number_law (suc k) c s h =
    let b : ℕ = get_or s k 0 in
    let e : suc k * 8 ≡ k * 8 + 8 = omega arith in
    ap (λ n. crc_bits n c (number k s * 256 + b % 256)) e
    ∙ parted (k * 8) 8 c (number k s) (b % 256) (mod-lt b (pow_pos 8))
    ∙ low_bits 8 (crc_bits (k * 8) c (number k s)) (b % 256) b (mod-eq_of_lt (mod-lt b (pow_pos 8)))
    ∙ ap (λ x. crc_byte x b) (number_law k c s (omega (arith, h)))
    ∙ sym (ap (crc_from c) (take-suc s k 0 h) ∙ crc_from_append (take k s) (b ∷ []) c)

-- ---- whole words
whole_words : (n c : ℕ) (s : List ℕ) → length s ≡ n * 8 → crc_from c s ≡ crc_words c [] (words n s)
unfolding words crc_words crc_from
whole_words zero c [] h = refl
whole_words zero c (b ∷ s) h = absurd (omega (arith, h))
whole_words (suc n) c s h =
    ap (crc_from c) (sym (take-append-drop 8 s)) ∙ crc_from_append (take 8 s) (drop 8 s) c
    ∙ ap (λ x. crc_from x (drop 8 s)) (sym (number_law 8 c s (omega (arith, h))))
    ∙ whole_words n (crc_bits 64 c (number 8 s)) (drop 8 s) (omega (arith, h, length-drop 8 s))

-- ---- the start value, added to the first 32 bits
module _ (k : ℕ) (h : k < 8) where
  ones_before_is : crc_bits (k * 8) start 0 ≡ bit_xor (crc_bits 64 0 (ones_before k)) (ones_after k / 2 ^ 32)
  unfolding start_error
  ones_before_is = xor_eq _ _ (omega (arith, total_at start_error 8 start_right k h))

  ones_after_is : ones_after k ≡ moved (up 32) (ones_after k / 2 ^ 32)
  unfolding start_error
  ones_after_is = xor_eq _ _ (omega (arith, total_at start_error 8 start_right k h))

  ones_lt : ones_after k / 2 ^ 32 < 2 ^ 32
  unfolding ones_after
  ones_lt = omega (arith, mod-lt (start * 2 ^ 32 % 2 ^ 64 * 2 ^ (k * 8)) (pow_pos 64))

  -- the register after the first k bytes
  head_law : (s : List ℕ) {n : ℕ} → k ≤ length s → n ≡ number k s
      → bit_xor (crc_bits 64 0 (bit_xor n (ones_before k))) (ones_after k / 2 ^ 32) ≡ crc_from start (take k s)
  head_law s {n} hs e =
      let all : 64 ≡ (64 - k * 8) + k * 8 = omega (arith, h) in
      ap (λ x. bit_xor x (ones_after k / 2 ^ 32)) (bits_add 64 n (ones_before k))
      ∙ xor_assoc (crc_bits 64 0 n) (crc_bits 64 0 (ones_before k)) (ones_after k / 2 ^ 32)
      ∙ ap₂ bit_xor (ap (λ m. crc_bits m 0 n) all ∙ leading (64 - k * 8) (k * 8) n (omega (arith, e, number_lt k s)))
      (sym ones_before_is)
      ∙ sym (crc_bits_add (k * 8) 0 start n 0 none (omega arith))
      ∙ ap (crc_bits (k * 8) start) (xor_zero_r n ∙ e) ∙ number_law k start s hs

  pub short_law : (s : List ℕ) {n c : ℕ} → length s ≡ k → n ≡ number k s → c ≡ crc_bits 64 0 (bit_xor n (ones_before k))
      → bit_xor c (ones_after k / 2 ^ 32) ≡ crc32 s
  unfolding crc32
  short_law s l e ec =
      ap (λ x. bit_xor x (ones_after k / 2 ^ 32)) ec ∙ head_law s (omega (arith, l)) e
      ∙ ap (crc_from start) (take_all k s (omega (arith, l)))

  pub long_law : (s : List ℕ) {n r : ℕ} → 8 ≤ length s → length s % 8 ≡ k → n ≡ number k s
      → r ≡ crc_after (bit_xor n (ones_before k)) (ones_after k ∷ []) (drop k s) → r ≡ crc32 s
  unfolding crc_after crc_words crc32
  long_law s {n} h8 odd e er =
      let t : List ℕ = drop k s in
      let c : ℕ = crc_bits 64 0 (bit_xor n (ones_before k)) in
      let y : ℕ = ones_after k / 2 ^ 32 in
      let whole : length t ≡ length t / 8 * 8 = omega (arith, length-drop k s, odd, h8) in
      let some : 8 ≤ length t = omega (arith, length-drop k s, odd, h8) in
      er ∙ ap (crc_words c (ones_after k ∷ [])) (first_word t some)
      ∙ ap (λ x. crc_words x [] (words (length (drop 8 t) / 8) (drop 8 t)))
      (ap (λ z. crc_bits 64 c (bit_xor (number 8 t) z)) ones_after_is
      ∙ sym (enter c y (number 8 t) (crc_bits_lt 64 0 _ none) ones_lt))
      ∙ sym (whole_words (length t / 8) (bit_xor c y) t whole ∙ ap (crc_words (bit_xor c y) []) (first_word t some))
      ∙ ap (λ x. crc_from x t) (head_law s (omega (arith, odd, h8)) e)
      ∙ sym (crc_from_append (take k s) t start) ∙ ap (crc_from start) (take-append-drop k s)

-- what `register` rests on
pub ruleset register_laws = (short_law, long_law, from)
