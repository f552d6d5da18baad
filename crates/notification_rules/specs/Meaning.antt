-- What each number means, in document 01's order and words: 'The INT section'. By bytes, bits, lengths and what table 13 writes, with none
-- of the reader's own tests. A theorem, shown in proofs/Meaning.antt.
use Rattle.std.specs.Prelude.{ℕ, ◌+◌, ◌*◌, ◌-◌, ◌^◌, ◌<◌, ◌≡◌, ◌↔◌, ◌≢◌, ◌⊎◌, length, take, drop}
use mathlib.Core.List.{List, [], ◌∷◌, ◌++◌, Memᴰ}
use Rattle.std.specs.Int.Bits.{bit_xor}
use Rattle.wire.specs.Bytes.{bit, byte_at, Bytes}
use Rattle.wire.specs.Meaning.{FirstThat, otherwise, Row, ◌means◌}
use Rattle.rules.specs.declared.Address.{Address}
use Rattle.rules.specs.Address.{address_bytes}
use Rattle.rules.specs.Meaning.{rows12to14, rows16to18}
use Rattle.notification_rules.specs.Format.{answer_to, body_written, content_written, Descriptor, Loop, loops_written, tag_of, Written}
use Rattle.notification_rules.specs.Finding.{finding_number, finding_of}

-- ---- 32: the bytes from 12 up to the CRC_32 are loops by turns, which descriptors of any length fill
-- its length fits 12 bits
abbrev pub Short : Loop → Type 0
Short l = length (content_written l.descriptors) < 2 ^ 12

pub record Filled (s : List ℕ) : Type 0 where
  pub platform : Loop
  pub pairs : List (Loop × Loop)
  pub short : Short platform
  pub shorts : (p : Loop × Loop) → Memᴰ p pairs → Short p.0 × Short p.1
  pub is : loops_written platform pairs ≡ drop 12 (take (length s - 4) s)

-- ---- 33: of these descriptors a known one has another length
-- 0x07 has 6 bytes and 6 for each address, 0x0E 12 for each pair, 0x13 has 9
abbrev pub OtherLength : ℕ → ℕ → Type 0
OtherLength tag n =
    ((tag ≡ 0x07) × (¬ ((k : ℕ) × (n ≡ 6 + 6 * k)))) ⊎ ((tag ≡ 0x0E) × (¬ ((k : ℕ) × (n ≡ 12 * k)))) ⊎ ((tag ≡ 0x13) × (n ≢ 9))

-- the loops of these pairs, one after the other
unfoldable pub by_turns : List (Loop × Loop) → List Loop
by_turns [] = []
by_turns (p ∷ ps) = p.0 ∷ p.1 ∷ by_turns ps

pub record HoldsOther (s : List ℕ) : Type 0 where
  pub filled : Filled s
  pub loop : Loop
  pub inside : Memᴰ loop (filled.platform ∷ by_turns filled.pairs)
  pub descriptor : Descriptor
  pub there : Memᴰ descriptor loop.descriptors
  pub other : OtherLength (tag_of descriptor) (length (body_written descriptor))

-- ---- 3: table 13 writes the section for a value in which the device is found
pub record Finds (device : Address) (s : List ℕ) : Type 0 where
  pub written : Written s
  pub found : (answer_to device written.value).number ≡ 3

-- ---- 12 to 18 as for the datagram section, but 15 is of section_syntax_indicator alone; byte 3 is action_type, byte 4 platform_id_hash,
-- bytes 8 to 10 are platform_id; 4 is nobody
abbrev pub notification_rows : Address → List ℕ → List Row
notification_rows device s =
    rows12to14 18 0x4C s
    ++ (15 means (bit 7 (byte_at s 1) ≢ 1)
    ∷ (rows16to18 s
    ++ (30 means (byte_at s 3 ≢ 0x01)
    ∷ 31 means (byte_at s 4 ≢ bit_xor (bit_xor (byte_at s 8) (byte_at s 9)) (byte_at s 10))
    ∷ 32 means (¬ Filled s)
    ∷ 33 means (HoldsOther s)
    ∷ 3 means (Finds device s)
    ∷ 4 means otherwise
    ∷ [])))

abbrev pub NotificationMeans : Type 0
NotificationMeans =
    (device : Address) (s : List ℕ) → Bytes (address_bytes device) → Bytes s
    → (n : ℕ) → (finding_number (finding_of device s) ≡ n) ↔ FirstThat n (notification_rows device s)
