-- The multiples of the polynomial and the reduction are right because computing says so at each single bit of a word.
use mathlib.Core.Path.{◌≡◌, refl}
use mathlib.Core.List.{List, [], ◌∷◌}
use Prim.Native.Nat.{ℕ, ◌+◌, ◌*◌, ◌/◌, ◌%◌, ◌^◌, ◌-◌}
use lib.Bits.{bit_xor}
use Rattle.rules.specs.Crc.{start, crc_bit, crc_bits}
use Rattle.crc.proofs.Shifts.{Shift, stay, up, down, moved, added, product, total, at_bits}

-- what a word that is taken away adds to each word after it
-- x^300 + x^155 + x^117 + x^89 + 1: itself 145, 183, 211 and 300 bits later
abbrev pub far : List (List Shift)
far = [] ∷ (down 17 ∷ down 55 ∷ []) ∷ (up 47 ∷ up 9 ∷ down 19 ∷ []) ∷ (up 45 ∷ down 44 ∷ []) ∷ (up 20 ∷ []) ∷ []

-- x^120 + x^56 + x^40 + x^33 + x^15 + x^9 + x^8 + x + 1: itself 64, 80, 87, 105, 111, 112, 119 and 120 bits later
abbrev pub near : List (List Shift)
near =
    (stay ∷ down 16 ∷ down 23 ∷ down 41 ∷ down 47 ∷ down 48 ∷ down 55 ∷ down 56 ∷ [])
    ∷ (up 48 ∷ up 41 ∷ up 23 ∷ up 17 ∷ up 16 ∷ up 9 ∷ up 8 ∷ []) ∷ []

-- from the register c on, a word v that is added to each of some words
unfoldable pub put : List (List Shift) → ℕ → ℕ → ℕ
put [] c v = c
put (ms ∷ mss) c v = put mss (crc_bits 64 c (added 0 ms v)) v

-- what a multiple of the polynomial leaves in the register, if it is one: zero
unfoldable pub leaves : List (List Shift) → ℕ → ℕ
leaves mss v = put mss (crc_bits 64 0 v) v

pub far_leaves : at_bits (leaves far) 64 ≡ 0
unfolding total leaves put added moved crc_bits crc_bit
far_leaves = refl

pub near_leaves : at_bits (leaves near) 64 ≡ 0
unfolding total leaves put added moved crc_bits crc_bit
near_leaves = refl

-- the quotient of v * x^32 by the polynomial is a sum of shifts down, its product with the polynomial one of shifts up
abbrev pub barrett : List (List Shift)
barrett =
    (down 9 ∷ down 10 ∷ down 22 ∷ down 26 ∷ down 43 ∷ down 54 ∷ [])
    ∷ (down 6 ∷ down 12 ∷ down 15 ∷ down 21 ∷ down 29 ∷ down 39 ∷ down 41 ∷ down 44 ∷ down 45 ∷ [])
    ∷ (up 1 ∷ up 2 ∷ up 16 ∷ []) ∷ (up 4 ∷ up 6 ∷ up 10 ∷ up 20 ∷ up 21 ∷ []) ∷ []

unfoldable pub barrett_error : ℕ → ℕ
barrett_error v = bit_xor (product barrett v % 2 ^ 32) (crc_bits 64 0 v)

pub barrett_right : at_bits barrett_error 64 ≡ 0
unfolding total barrett_error added moved crc_bits crc_bit
barrett_right = refl

-- a register goes in as the 32 high bits of a word
unfoldable pub enter_error : ℕ → ℕ
enter_error c = bit_xor (crc_bits 64 (c % 2 ^ 32) 0) (crc_bits 64 0 (moved (up 32) c))

pub enter_right : at_bits enter_error 32 ≡ 0
unfolding total enter_error moved crc_bits crc_bit
enter_right = refl

-- of the 32 ones that the register starts with, those that meet the k bytes before the whole words
unfoldable pub ones_before : ℕ → ℕ
ones_before k = start * 2 ^ 24 % 2 ^ 64 / 2 ^ (56 - k * 8)

-- and those that meet the first whole word, or what is left of the register where there is none
unfoldable pub ones_after : ℕ → ℕ
ones_after k = start * 2 ^ 32 % 2 ^ 64 * 2 ^ (k * 8) % 2 ^ 64

unfoldable pub start_error : ℕ → ℕ
start_error k =
    bit_xor (crc_bits (k * 8) start 0) (bit_xor (crc_bits 64 0 (ones_before k)) (ones_after k / 2 ^ 32))
    + bit_xor (ones_after k) (moved (up 32) (ones_after k / 2 ^ 32))

pub start_right : total start_error 8 ≡ 0
unfolding total start_error ones_before ones_after moved crc_bits crc_bit
start_right = refl
