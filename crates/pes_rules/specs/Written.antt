-- The PES data packet as a format: what it holds, what table 1 writes for it, and what is read of it. Nothing here looks into a packet.
-- EN 301 192 V1.3.1, clause 6.1, table 1; document 01, 'The PES data packet'. What is stated is shown in proofs/.
use Rattle.std.specs.Prelude.{ℕ, ◌+◌, ◌*◌, ◌^◌, ◌≤◌, ◌<◌, ◌≡◌, ◌↔◌, ◌⊎◌, ◌≢◌, List, [], ◌∷◌, ◌++◌, Bool, true, false, cond, length}
use Rattle.wire.specs.Bytes.{Bytes, bytes_of}
use Rattle.wire.specs.Part.{Part, part}
use Rattle.pes_rules.specs.Reading.{Reading}
use Rattle.pes_rules.specs.Packet.{read_of, data_part}

-- ---- what a packet holds
-- the values of table 1 in its order, reserved bits too; PES_data_packet_header_length follows from the others
pub record Values : Type 0 where
  pub data_identifier : ℕ
  pub sub_stream_id : ℕ
  pub pts_extension_flag : Bool
  pub output_data_rate_flag : Bool
  pub reserved2 : ℕ
  pub reserved7 : ℕ
  pub pts_extension : ℕ
  pub reserved4 : ℕ
  pub output_data_rate : ℕ
  pub private_bytes : List ℕ
  pub data_bytes : List ℕ

-- ---- what is written
-- "if (PTS_extension_flag=="1")": 7 reserved bits and the 9 of PTS_extension
unfoldable pub extension_field : Values → List ℕ
extension_field v = cond v.pts_extension_flag (bytes_of 2 (v.reserved7 * 2 ^ 9 + v.pts_extension)) []

-- "if (output_data_rate_flag=="1")": 4 reserved bits and the 28 of output_data_rate
unfoldable pub rate_field : Values → List ℕ
rate_field v = cond v.output_data_rate_flag (bytes_of 4 (v.reserved4 * 2 ^ 28 + v.output_data_rate)) []

-- the optional fields, "including the PES_data_private_data_bytes"
unfoldable pub optional_fields : Values → List ℕ
optional_fields v = extension_field v ++ (rate_field v ++ v.private_bytes)

-- both flags, 2 reserved bits, and PES_data_packet_header_length
unfoldable pub flags_byte : Values → ℕ
flags_byte v =
    cond v.pts_extension_flag (2 ^ 7) 0 + cond v.output_data_rate_flag (2 ^ 6) 0 + v.reserved2 * 2 ^ 4 + length (optional_fields v)

-- the packet that table 1 writes
unfoldable pub packet_of : Values → List ℕ
packet_of v = v.data_identifier ∷ v.sub_stream_id ∷ flags_byte v ∷ (optional_fields v ++ v.data_bytes)

-- ---- what can be written
-- a synchronous packet has a PTS_extension, a synchronized one no output_data_rate
abbrev pub Stream : ℕ → Bool → Bool → Type 0
Stream identifier extended rated = ((identifier ≡ 0x21) × (extended ≡ true)) ⊎ ((identifier ≡ 0x22) × (rated ≡ false))

-- each value fits its bits, of which a field that is not flagged has none, so that it is 0; the header's length fits its four, and the
-- packet has 65,535 bytes at most
pub record Conforms (v : Values) : Type 0 where
  pub stream : Stream v.data_identifier v.pts_extension_flag v.output_data_rate_flag
  pub sub_stream : v.sub_stream_id < 2 ^ 8
  pub before_length : v.reserved2 < 2 ^ 2
  pub header : length (optional_fields v) < 2 ^ 4
  pub before_extension : v.reserved7 < 2 ^ cond v.pts_extension_flag 7 0
  pub extension : v.pts_extension < 2 ^ cond v.pts_extension_flag 9 0
  pub before_rate : v.reserved4 < 2 ^ cond v.output_data_rate_flag 4 0
  pub rate : v.output_data_rate < 2 ^ cond v.output_data_rate_flag 28 0
  pub skipped : Bytes v.private_bytes
  pub carried : Bytes v.data_bytes
  pub size : length (packet_of v) ≤ 65535

-- table 1 writes s for some values
pub record Written (s : List ℕ) : Type 0 where
  pub values : Values
  pub conforms : Conforms values
  pub is : packet_of values ≡ s

-- ---- what is read: a reading, and the data as a part of the packet
-- "5 with both flags, the extension and rate values (0 where unflagged) and the data part", which goes from after the optional fields to
-- the end
abbrev pub reading_of : Values → Reading
reading_of v =
    record {
      answer = 5;
      extended = v.pts_extension_flag;
      rated = v.output_data_rate_flag;
      extension = v.pts_extension;
      rate = v.output_data_rate;
      offset = 3 + length (optional_fields v);
      end = length (packet_of v);
    }

abbrev pub data_part_of : Values → Part
data_part_of v = part (3 + length (optional_fields v)) v.data_bytes

-- "a refusal gives zeros and an empty part"
abbrev pub zeros : ℕ → Reading
zeros k = record { answer = k; extended = false; rated = false; extension = 0; rate = 0; offset = 0; end = 0 }

-- ---- theorems
-- what the reader has for a packet is this reading and this part
pub record Gives (s : List ℕ) (r : Reading) (p : Part) : Type 0 where
  pub reading : read_of s ≡ r
  pub given : data_part s ≡ p

-- what is written is read as its values say
abbrev pub WrittenIsRead : Type 0
WrittenIsRead = (v : Values) → Conforms v → Gives (packet_of v) (reading_of v) (data_part_of v)

-- and is a list of bytes
abbrev pub PacketIsBytes : Type 0
PacketIsBytes = (v : Values) → Conforms v → Bytes (packet_of v)

-- what table 1 writes is taken, and only that
abbrev pub TakenExactly : Type 0
TakenExactly = (s : List ℕ) → Bytes s → ((read_of s).answer ≡ 5) ↔ Written s

-- any number but 5 gives nothing
abbrev pub OthersGiveNothing : Type 0
OthersGiveNothing = (s : List ℕ) → (read_of s).answer ≢ 5 → Gives s (zeros (read_of s).answer) (part 0 [])

-- ---- and none of this is empty: document 01's packet of the bench, 21 05 F6 FF 2B F0 1F 40 00 AA BB
abbrev pub sample : Values
sample =
    record {
      data_identifier = 0x21;
      sub_stream_id = 0x05;
      pts_extension_flag = true;
      output_data_rate_flag = true;
      reserved2 = 3;
      reserved7 = 127;
      pts_extension = 299;
      reserved4 = 15;
      output_data_rate = 2048000;
      private_bytes = [];
      data_bytes = 0xAA ∷ 0xBB ∷ [];
    }

abbrev pub SampleIsWritten : Type 0
SampleIsWritten =
    Conforms sample
    × (packet_of sample ≡ 0x21 ∷ 0x05 ∷ 0xF6 ∷ 0xFF ∷ 0x2B ∷ 0xF0 ∷ 0x1F ∷ 0x40 ∷ 0x00 ∷ 0xAA ∷ 0xBB ∷ [])
