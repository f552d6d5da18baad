-- CRC_32 of ISO/IEC 13818-1, annex A: a register of 32 bits, fed bit by bit, the high bit of each byte first.
use Rattle.std.specs.Prelude.{List, [], ◌∷◌, ℕ, zero, suc, ◌*◌, ◌/◌, ◌%◌, ◌^◌}
use Rattle.std.specs.Int.Bits.{bit_xor}

-- x^32 + x^26 + x^23 + x^22 + x^16 + x^12 + x^11 + x^10 + x^8 + x^7 + x^5 + x^4 + x^2 + x + 1, without its highest term
abbrev pub polynomial : ℕ
polynomial = 0x04C11DB7

-- all 32 bits are ones before the first byte
abbrev pub start : ℕ
start = 0xFFFFFFFF

-- one bit d goes in: the register moves up by one, and where the bit that leaves it differs from d, the polynomial is added
unfoldable pub crc_bit : ℕ → ℕ → ℕ
crc_bit c d = bit_xor (bit_xor (c / 2 ^ 31) d * polynomial) (c * 2 % 2 ^ 32)

-- the k low bits of b go in, the highest of them first
unfoldable pub crc_bits : ℕ → ℕ → ℕ → ℕ
crc_bits zero c b = c
crc_bits (suc k) c b = crc_bits k (crc_bit c (b / 2 ^ k % 2)) b

-- one byte goes in
unfoldable pub crc_byte : ℕ → ℕ → ℕ
crc_byte c b = crc_bits 8 c b

-- the bytes go in, first to last
unfoldable pub crc_from : ℕ → List ℕ → ℕ
crc_from c [] = c
crc_from c (b ∷ s) = crc_from (crc_byte c b) s

-- CRC_32 of the bytes, with no final inversion
unfoldable pub crc32 : List ℕ → ℕ
crc32 s = crc_from start s
