-- CRC_32 adds over xor because each bit that goes in only shifts the register and adds the polynomial or not.
use Rattle.std.specs.Int.Bits.{xor_assoc}
use Rattle.std.proofs.lemmas.Nat.{xor_comm, xor_lt, xor_shr, xor_mod, xor_block}
use Rattle.std.proofs.Common.{◌≡◌, refl, sym, ap, ap₂, ◌∙◌, List, [], ◌∷◌, ◌++◌, ℕ, zero, suc, ◌*◌, ◌/◌, ◌%◌, ◌^◌, ◌<◌, mod-lt, le_of_suc-le-suc, not-suc-le-zero, add-zero, div-lt_iff_lt-mul, arith, bit_xor, pow_pos, lit<}
use Rattle.rules.specs.Crc.{polynomial, start, crc_bit, crc_bits, crc_byte, crc_from, crc32}

-- ---- published values
-- "123456789" gives 0x0376E6E7, the check value of CRC-32/MPEG-2
pub check_value : crc32 (49 ∷ 50 ∷ 51 ∷ 52 ∷ 53 ∷ 54 ∷ 55 ∷ 56 ∷ 57 ∷ []) ≡ 0x0376E6E7
unfolding crc32 crc_from crc_byte crc_bits crc_bit
check_value = refl

-- a program association section leaves zero, its own CRC_32 included (ISO/IEC 13818-1, 2.4.4.5)
pub association_section
    : crc32 (0 ∷ 0xB0 ∷ 13 ∷ 0 ∷ 1 ∷ 0xC1 ∷ 0 ∷ 0 ∷ 0 ∷ 1 ∷ 0xF0 ∷ 0 ∷ 0x2A ∷ 0xB1 ∷ 0x04 ∷ 0xB2 ∷ []) ≡ 0
unfolding crc32 crc_from crc_byte crc_bits crc_bit
association_section = refl

-- ---- xor
pub bit_cases : (P : ℕ → Type 0) → P 0 → P 1 → (x : ℕ) → x < 2 → P x
bit_cases P p q zero h = p
bit_cases P p q (suc zero) h = q
bit_cases P p q (suc (suc x)) h = absurd (not-suc-le-zero (le_of_suc-le-suc (le_of_suc-le-suc h)))

pub xor_four : (a b c d : ℕ) → bit_xor (bit_xor a b) (bit_xor c d) ≡ bit_xor (bit_xor a c) (bit_xor b d)
xor_four a b c d =
    xor_assoc a b (bit_xor c d)
    ∙ ap (bit_xor a) (sym (xor_assoc b c d) ∙ ap (λ x. bit_xor x d) (xor_comm b c) ∙ xor_assoc c b d)
    ∙ sym (xor_assoc a c (bit_xor b d))

pub xor_shl : (k a b : ℕ) → bit_xor a b * 2 ^ k ≡ bit_xor (a * 2 ^ k) (b * 2 ^ k)
xor_shl k a b =
    sym (add-zero (bit_xor a b * 2 ^ k)) ∙ sym (xor_block k a b 0 0 (pow_pos k) (pow_pos k))
    ∙ ap₂ bit_xor (add-zero (a * 2 ^ k)) (add-zero (b * 2 ^ k))

-- ---- one bit
top : (c : ℕ) → c < 2 ^ 32 → c / 2 ^ 31 < 2
top c h = (div-lt_iff_lt-mul (pow_pos 31)).1 h

scaled : (x y : ℕ) → x < 2 → y < 2 → bit_xor x y * polynomial ≡ bit_xor (x * polynomial) (y * polynomial)
scaled x y hx hy =
    bit_cases (λ x. bit_xor x y * polynomial ≡ bit_xor (x * polynomial) (y * polynomial)) refl
    (bit_cases (λ y. bit_xor 1 y * polynomial ≡ bit_xor polynomial (y * polynomial)) refl refl y hy) x hx

scaled_lt : (x : ℕ) → x < 2 → x * polynomial < 2 ^ 32
scaled_lt x h = omega arith

crc_bit_lt : (c d : ℕ) → c < 2 ^ 32 → d < 2 → crc_bit c d < 2 ^ 32
unfolding crc_bit
crc_bit_lt c d h hd = xor_lt 32 _ _ (scaled_lt _ (xor_lt 1 (c / 2 ^ 31) d (top c h) hd)) (mod-lt (c * 2) (pow_pos 32))

crc_bit_add : (a b d e : ℕ) → a < 2 ^ 32 → b < 2 ^ 32 → d < 2 → e < 2
    → crc_bit (bit_xor a b) (bit_xor d e) ≡ bit_xor (crc_bit a d) (crc_bit b e)
unfolding crc_bit
crc_bit_add a b d e ha hb hd he =
    ap₂ (λ x y. bit_xor (bit_xor x (bit_xor d e) * polynomial) (y % 2 ^ 32)) (xor_shr a b 31) (xor_shl 1 a b)
    ∙ ap₂ (λ x y. bit_xor (x * polynomial) y) (xor_four (a / 2 ^ 31) (b / 2 ^ 31) d e) (xor_mod (a * 2) (b * 2) 32)
    ∙ ap (λ x. bit_xor x (bit_xor (a * 2 % 2 ^ 32) (b * 2 % 2 ^ 32)))
    (scaled (bit_xor (a / 2 ^ 31) d) (bit_xor (b / 2 ^ 31) e) (xor_lt 1 _ _ (top a ha) hd) (xor_lt 1 _ _ (top b hb) he))
    ∙ xor_four (bit_xor (a / 2 ^ 31) d * polynomial) (bit_xor (b / 2 ^ 31) e * polynomial)
    (a * 2 % 2 ^ 32) (b * 2 % 2 ^ 32)

-- ---- any number of bits
bit_lt : (k x : ℕ) → x / 2 ^ k % 2 < 2
bit_lt k x = mod-lt (x / 2 ^ k) (lit< tt)

pub crc_bits_lt : (k c x : ℕ) → c < 2 ^ 32 → crc_bits k c x < 2 ^ 32
unfolding crc_bits
crc_bits_lt zero c x h = h
crc_bits_lt (suc k) c x h = crc_bits_lt k _ x (crc_bit_lt c (x / 2 ^ k % 2) h (bit_lt k x))

pub crc_bits_add : (k a b x y : ℕ) → a < 2 ^ 32 → b < 2 ^ 32
    → crc_bits k (bit_xor a b) (bit_xor x y) ≡ bit_xor (crc_bits k a x) (crc_bits k b y)
unfolding crc_bits
crc_bits_add zero a b x y ha hb = refl
crc_bits_add (suc k) a b x y ha hb =
    let d : ℕ = x / 2 ^ k % 2 in
    let e : ℕ = y / 2 ^ k % 2 in
    ap (λ z. crc_bits k (crc_bit (bit_xor a b) (z % 2)) (bit_xor x y)) (xor_shr x y k)
    ∙ ap (λ z. crc_bits k (crc_bit (bit_xor a b) z) (bit_xor x y)) (xor_mod (x / 2 ^ k) (y / 2 ^ k) 1)
    ∙ ap (λ c. crc_bits k c (bit_xor x y)) (crc_bit_add a b d e ha hb (bit_lt k x) (bit_lt k y))
    ∙ crc_bits_add k (crc_bit a d) (crc_bit b e) x y (crc_bit_lt a d ha (bit_lt k x)) (crc_bit_lt b e hb (bit_lt k y))

-- ---- bytes
pub crc_from_lt : (s : List ℕ) (c : ℕ) → c < 2 ^ 32 → crc_from c s < 2 ^ 32
unfolding crc_from crc_byte
crc_from_lt [] c h = h
crc_from_lt (b ∷ s) c h = crc_from_lt s _ (crc_bits_lt 8 c b h)

pub crc32_lt : (s : List ℕ) → crc32 s < 2 ^ 32
unfolding crc32
crc32_lt s = crc_from_lt s start (omega arith)

pub crc_from_append : (a b : List ℕ) (c : ℕ) → crc_from c (a ++ b) ≡ crc_from (crc_from c a) b
unfolding crc_from
crc_from_append [] b c = refl
crc_from_append (x ∷ a) b c = crc_from_append a b (crc_byte c x)
