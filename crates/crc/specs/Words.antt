-- The bytes of a slice as words of 64 bits, and the register after words to which something is still to be added.
use Rattle.std.specs.Prelude.{List, [], ◌∷◌, ℕ, zero, suc, ◌+◌, ◌*◌, ◌/◌, ◌%◌, length, get_or, drop}
use Rattle.std.specs.Int.Bits.{bit_xor}
use Rattle.rules.specs.Crc.{crc_bits}

-- the first k bytes as one number, the first the highest
unfoldable pub number : ℕ → List ℕ → ℕ
number zero s = 0
number (suc k) s = number k s * 256 + get_or s k 0 % 256

-- the first n words of eight bytes
unfoldable pub words : ℕ → List ℕ → List ℕ
words zero s = []
words (suc n) s = number 8 s ∷ words n (drop 8 s)

-- the register after the words, the first of which have the zs added; a z with no word is left out
unfoldable pub crc_words : ℕ → List ℕ → List ℕ → ℕ
crc_words c zs [] = c
crc_words c [] (w ∷ ws) = crc_words (crc_bits 64 c w) [] ws
crc_words c (z ∷ zs) (w ∷ ws) = crc_words (crc_bits 64 c (bit_xor w z)) zs ws

-- from a register of zeros, the register after the word v and the words of s, the first of which have the zs added
unfoldable pub crc_after : ℕ → List ℕ → List ℕ → ℕ
crc_after v zs s = crc_words (crc_bits 64 0 v) zs (words (length s / 8) s)
