-- The PES_data_packet: EN 301 192 V1.3.1, clause 6.1, table 1; document 01, 'The PES data packet'.
-- Bytes are counted from 0, and bit 7 of a byte is the highest. Reserved bits are not looked at.
use Rattle.std.specs.Prelude.{ℕ, ◌+◌, ◌%◌, ◌^◌, List, [], ◌∷◌, Bool, false, not, length, eqb, ltb}
use Rattle.std.proofs.Math.Seq.{slice}
use Rattle.wire.specs.Bytes.{byte_at, bit, number_at}
use Rattle.wire.specs.Choice.{pick, both, either, Line, line, first_of}
use Rattle.wire.specs.Part.{Part, part}
use Rattle.pes_rules.specs.Reading.{Reading}

-- byte 0
abbrev pub data_identifier : List ℕ → ℕ
data_identifier s = byte_at s 0

-- byte 1: "its use is user private"
abbrev pub sub_stream_id : List ℕ → ℕ
sub_stream_id s = byte_at s 1

-- byte 2, bit 7
abbrev pub pts_extension_flag : List ℕ → Bool
pts_extension_flag s = eqb (bit 7 (byte_at s 2)) 1

-- byte 2, bit 6
abbrev pub output_data_rate_flag : List ℕ → Bool
output_data_rate_flag s = eqb (bit 6 (byte_at s 2)) 1

-- byte 2, bits 3-0: H, "the length of the optional fields in the packet header including the PES_data_private_data_bytes"
abbrev pub pes_data_packet_header_length : List ℕ → ℕ
pes_data_packet_header_length s = byte_at s 2 % 2 ^ 4

-- n where flagged, else 0: a field that is not flagged has no bytes, and its value is 0
unfoldable pub flagged : Bool → ℕ → ℕ
flagged flag n = pick flag n 0

-- two bytes after byte 2 where flagged, the low 9 bits
abbrev pub pts_extension : List ℕ → ℕ
pts_extension s = flagged (pts_extension_flag s) (number_at 2 s 3 % 2 ^ 9)

-- where output_data_rate stands: after PTS_extension
abbrev pub rate_offset : List ℕ → ℕ
rate_offset s = 3 + flagged (pts_extension_flag s) 2

-- four bytes where flagged, the low 28 bits
abbrev pub output_data_rate : List ℕ → ℕ
output_data_rate s = flagged (output_data_rate_flag s) (number_at 4 s (rate_offset s) % 2 ^ 28)

-- where the private bytes begin: after the flagged fields
abbrev pub private_offset : List ℕ → ℕ
private_offset s = rate_offset s + flagged (output_data_rate_flag s) 4

-- where the private bytes end and the data begins
abbrev pub data_offset : List ℕ → ℕ
data_offset s = 3 + pes_data_packet_header_length s

-- 40: "fewer than 3 or more than 65,535 bytes"
abbrev pub wrong_size : List ℕ → Bool
wrong_size s = either (ltb (length s) 3) (ltb 65535 (length s))

-- 41: "identifier neither 0x21 (synchronous) nor 0x22 (synchronized)"
abbrev pub other_identifier : List ℕ → Bool
other_identifier s = both (not (eqb (data_identifier s) 0x21)) (not (eqb (data_identifier s) 0x22))

-- 42: "for 0x21 no extension flag, for 0x22 a rate flag"
abbrev pub wrong_flags : List ℕ → Bool
wrong_flags s =
    either (both (eqb (data_identifier s) 0x21) (not (pts_extension_flag s)))
    (both (eqb (data_identifier s) 0x22) (output_data_rate_flag s))

-- 43: "H below the flagged fields or 3 + H beyond the packet": the data would begin inside the fields, or after the packet
abbrev pub wrong_header_length : List ℕ → Bool
wrong_header_length s = either (ltb (data_offset s) (private_offset s)) (ltb (length s) (data_offset s))

-- the refusals in their order
abbrev pub refusal_lines : List ℕ → List Line
refusal_lines s =
    line 40 (wrong_size s) ∷ line 41 (other_identifier s) ∷ line 42 (wrong_flags s) ∷ line 43 (wrong_header_length s) ∷ []

-- the first of 40 to 43 that applies, else 0
abbrev pub refusal : List ℕ → ℕ
refusal s = first_of (refusal_lines s)

-- "a refusal gives zeros and an empty part"
abbrev pub refused : ℕ → Reading
refused number = record { answer = number; extended = false; rated = false; extension = 0; rate = 0; offset = 0; end = 0 }

-- "5 with both flags, the extension and rate values (0 where unflagged) and the data part", which goes to the packet's end
abbrev pub taken : List ℕ → Reading
taken s =
    record {
      answer = 5;
      extended = pts_extension_flag s;
      rated = output_data_rate_flag s;
      extension = pts_extension s;
      rate = output_data_rate s;
      offset = data_offset s;
      end = length s;
    }

-- what is read of a packet
unfoldable pub read_of : List ℕ → Reading
read_of s = pick (eqb (refusal s) 0) (taken s) (refused (refusal s))

-- the data
abbrev pub data_of : List ℕ → List ℕ
data_of s = slice (read_of s).offset (read_of s).end s

-- the data part: the data, and where in the packet it stands
abbrev pub data_part : List ℕ → Part
data_part s = part (read_of s).offset (data_of s)
