-- The datagram_section: EN 301 192 V1.3.1, clause 7.1, table 3; document 01, 'The datagram section'.
-- Bytes are counted from 0, and bit 7 of a byte is the highest.
use Rattle.std.specs.Prelude.{ℕ, ◌+◌, ◌-◌, ◌%◌, ◌^◌, List, [], ◌∷◌, ◌++◌, Bool, length, take, drop, eqb, ltb}
use Rattle.wire.specs.Bytes.{byte_at, bit, bits, number_at, bytes_of}
use Rattle.wire.specs.Choice.{pick}
use Rattle.wire.specs.Part.{Part, part}
use Rattle.rules.specs.declared.Address.{Address}
use Rattle.rules.specs.Crc.{crc32}

-- byte 0
unfoldable pub table_id : List ℕ → ℕ
table_id s = byte_at s 0

-- byte 1, bit 7
unfoldable pub section_syntax_indicator : List ℕ → ℕ
section_syntax_indicator s = bit 7 (byte_at s 1)

-- byte 1, bit 6
unfoldable pub private_indicator : List ℕ → ℕ
private_indicator s = bit 6 (byte_at s 1)

-- bytes 1 and 2, the low 12 bits: the bytes that follow, CRC_32 included
unfoldable pub section_length : List ℕ → ℕ
section_length s = number_at 2 s 1 % 2 ^ 12

-- bytes 3 and 4 are MAC_address_6 and 5, bytes 8 to 11 are MAC_address_4, 3, 2 and 1
unfoldable pub address : List ℕ → Address
address s =
    record { mac1 = byte_at s 11; mac2 = byte_at s 10; mac3 = byte_at s 9; mac4 = byte_at s 8; mac5 = byte_at s 4; mac6 = byte_at s 3 }

-- byte 5, bits 5-4
unfoldable pub payload_scrambling_control : List ℕ → ℕ
payload_scrambling_control s = bits 5 4 (byte_at s 5)

-- byte 5, bits 3-2
unfoldable pub address_scrambling_control : List ℕ → ℕ
address_scrambling_control s = bits 3 2 (byte_at s 5)

-- byte 5, bit 1
unfoldable pub llc_snap_flag : List ℕ → Bool
llc_snap_flag s = eqb (bit 1 (byte_at s 5)) 1

-- byte 5, bit 0
unfoldable pub current_next_indicator : List ℕ → ℕ
current_next_indicator s = bit 0 (byte_at s 5)

-- byte 6
unfoldable pub section_number : List ℕ → ℕ
section_number s = byte_at s 6

-- byte 7
unfoldable pub last_section_number : List ℕ → ℕ
last_section_number s = byte_at s 7

-- from byte 12 up to the last four bytes
unfoldable pub payload : List ℕ → List ℕ
payload s = take (length s - 4 - 12) (drop 12 s)

-- the payload as a part of the section; a slice that is too short for header and CRC_32 has none
abbrev pub payload_part : List ℕ → Part
payload_part s = part (pick (ltb (length s) 16) 0 12) (payload s)

-- where the last four bytes begin
abbrev pub crc_offset : List ℕ → ℕ
crc_offset s = length s - 4

-- what the CRC_32 is of: all bytes before it
abbrev pub checked : List ℕ → List ℕ
checked s = take (crc_offset s) s

-- the last four bytes, high byte first
unfoldable pub crc_field : List ℕ → ℕ
crc_field s = number_at 4 s (crc_offset s)

-- the twelve bytes that a sender writes: reserved bits and current_next_indicator are ones, private_indicator and both
-- scrambling controls zeros
unfoldable pub header : Address → Bool → ℕ → ℕ → ℕ → List ℕ
header a llc_snap number last section_length =
    0x3E
    ∷ (0xB0 + bits 11 8 section_length)
    ∷ bits 7 0 section_length
    ∷ a.mac6
    ∷ a.mac5
    ∷ pick llc_snap 0xC3 0xC1
    ∷ number
    ∷ last
    ∷ a.mac4
    ∷ a.mac3
    ∷ a.mac2
    ∷ a.mac1
    ∷ []

-- bytes with their CRC_32 after them
unfoldable pub sealed : List ℕ → List ℕ
sealed s = s ++ bytes_of 4 (crc32 s)

-- a whole section: header, payload, CRC_32
unfoldable pub section_of : Address → Bool → ℕ → ℕ → List ℕ → List ℕ
section_of a llc_snap number last p = sealed (header a llc_snap number last (length p + 13) ++ p)
