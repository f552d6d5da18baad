-- The INT section as a format: what it holds, what table 13 writes for it, and what a device is answered. Nothing here cuts bytes apart.
-- EN 301 192 V1.3.1, clause 7.6, tables 13, 16 to 18, 24, 25 and 32; document 01, 'The INT section'. What is stated is shown in proofs/.
use Rattle.std.specs.Prelude.{ℕ, zero, suc, ◌+◌, ◌*◌, ◌^◌, ◌≤◌, ◌<◌, ◌≡◌, Bool, true, false, cond, ◌&&◌, ◌||◌, ◌↔◌, ◌⊎◌, ◌≢◌, length, eqb, leb}
use mathlib.Core.List.{List, [], ◌∷◌, ◌++◌, Memᴰ, flatten, map}
use Rattle.std.proofs.Math.Option.{Option, none, some, or_else, Option-elim}
use Rattle.std.specs.Int.Bits.{bit_xor}
use Rattle.wire.specs.Bytes.{Bytes, bytes_of, bit, bits}
use Rattle.wire.specs.Part.{Part, part}
use Rattle.rules.specs.declared.Address.{Address}
use Rattle.rules.specs.Address.{address_bytes}
use Rattle.rules.specs.Section.{sealed}
use Rattle.notification_rules.specs.Answers.{Finding, Found, Nobody, Refused}
use Rattle.notification_rules.specs.Finding.{finding_number, finding_of, finding_offset, part_of}

-- ---- what a section holds
-- table 32
pub record StreamLocation : Type 0 where
  pub network_id : ℕ
  pub original_network_id : ℕ
  pub transport_stream_id : ℕ
  pub service_id : ℕ
  pub component_tag : ℕ

-- 0x07, table 24: MAC_addr_mask, and MAC_addr any number of times; 0x0E, table 25: MAC_addr_low with MAC_addr_high any number of times;
-- 0x13, table 32; any other tag, and bytes. An address is a number of 48 bits
pub data Descriptor : Type 0 where
  masked : ℕ → List ℕ → Descriptor
  ranges : List (ℕ × ℕ) → Descriptor
  location : StreamLocation → Descriptor
  other : ℕ → List ℕ → Descriptor

-- tables 16 to 18: four reserved bits, and descriptors
pub record Loop : Type 0 where
  pub reserved4 : ℕ
  pub descriptors : List Descriptor

-- the values that table 13 leaves open, in its order: the three bits of byte 1 after section_syntax_indicator and two of byte 5 are any;
-- a pair is a target loop and its operational loop
pub record Notification : Type 0 where
  pub reserved3 : ℕ
  pub reserved2 : ℕ
  pub version_number : ℕ
  pub section_number : ℕ
  pub last_section_number : ℕ
  pub platform_id : ℕ
  pub processing_order : ℕ
  pub platform : Loop
  pub pairs : List (Loop × Loop)

-- ---- what is written
abbrev pub tag_of : Descriptor → ℕ
tag_of (masked mask xs) = 0x07
tag_of (ranges rs) = 0x0E
tag_of (location l) = 0x13
tag_of (other t b) = t

abbrev pub range_written : ℕ × ℕ → List ℕ
range_written r = bytes_of 6 r.0 ++ bytes_of 6 r.1

abbrev pub nine_written : StreamLocation → List ℕ
nine_written l =
    bytes_of 2 l.network_id
    ++ (bytes_of 2 l.original_network_id ++ (bytes_of 2 l.transport_stream_id ++ (bytes_of 2 l.service_id ++ bytes_of 1 l.component_tag)))

unfoldable pub body_written : Descriptor → List ℕ
body_written (masked mask xs) = bytes_of 6 mask ++ flatten (map (bytes_of 6) xs)
body_written (ranges rs) = flatten (map range_written rs)
body_written (location l) = nine_written l
body_written (other t b) = b

-- descriptor_tag, descriptor_length, bytes
abbrev pub descriptor_written : Descriptor → List ℕ
descriptor_written d = tag_of d ∷ length (body_written d) ∷ body_written d

abbrev pub content_written : List Descriptor → List ℕ
content_written ds = flatten (map descriptor_written ds)

-- 4 bits reserved, 12 of length, descriptors
abbrev pub loop_written : Loop → List ℕ
loop_written l = bytes_of 2 (2 ^ 12 * l.reserved4 + length (content_written l.descriptors)) ++ content_written l.descriptors

abbrev pub pair_written : Loop × Loop → List ℕ
pair_written p = loop_written p.0 ++ loop_written p.1

-- the platform loop; then target and operational loop by turns
abbrev pub loops_written : Loop → List (Loop × Loop) → List ℕ
loops_written platform pairs = loop_written platform ++ flatten (map pair_written pairs)

-- the first 12 bytes: section_syntax_indicator and current_next_indicator are ones, action_type is 0x01, and platform_id_hash is the XOR of
-- platform_id's bytes
unfoldable pub head_written : Notification → ℕ → List ℕ
head_written n section_length =
    0x4C
    ∷ (2 ^ 7 + 2 ^ 4 * n.reserved3 + bits 11 8 section_length)
    ∷ bits 7 0 section_length
    ∷ 0x01
    ∷ bit_xor (bit_xor (bits 23 16 n.platform_id) (bits 15 8 n.platform_id)) (bits 7 0 n.platform_id)
    ∷ (2 ^ 6 * n.reserved2 + 2 * n.version_number + 1)
    ∷ n.section_number
    ∷ n.last_section_number
    ∷ bits 23 16 n.platform_id
    ∷ bits 15 8 n.platform_id
    ∷ bits 7 0 n.platform_id
    ∷ n.processing_order
    ∷ []

-- section_length counts what follows it: nine bytes more of the head, the loops, and the CRC_32
unfoldable pub notification_written : Notification → List ℕ
notification_written n =
    let loops : List ℕ = loops_written n.platform n.pairs in
    sealed (head_written n (length loops + 13) ++ loops)

-- ---- what can be written: each value fits its bits, and `other` has none of the three tags
abbrev pub Held : Descriptor → Type 0
Held (masked mask xs) = (mask < 2 ^ 48) × ((a : ℕ) → Memᴰ a xs → a < 2 ^ 48)
Held (ranges rs) = (r : ℕ × ℕ) → Memᴰ r rs → (r.0 < 2 ^ 48) × (r.1 < 2 ^ 48)
Held (location l) =
    (l.network_id < 2 ^ 16) × (l.original_network_id < 2 ^ 16) × (l.transport_stream_id < 2 ^ 16) × (l.service_id < 2 ^ 16)
    × (l.component_tag < 2 ^ 8)
Held (other t b) = (t < 2 ^ 8) × ((t ≢ 0x07) × (t ≢ 0x0E) × (t ≢ 0x13)) × Bytes b

pub record Fits (d : Descriptor) : Type 0 where
  pub held : Held d
  pub counted : length (body_written d) < 2 ^ 8

pub record FitsLoop (l : Loop) : Type 0 where
  pub reserved : l.reserved4 < 2 ^ 4
  pub descriptors : (d : Descriptor) → Memᴰ d l.descriptors → Fits d

-- and the section number is no higher than the last, and the whole has 4,096 bytes at most
pub record Conforms (n : Notification) : Type 0 where
  pub reserved3 : n.reserved3 < 2 ^ 3
  pub reserved2 : n.reserved2 < 2 ^ 2
  pub version : n.version_number < 2 ^ 5
  pub order : n.processing_order < 2 ^ 8
  pub platform_id : n.platform_id < 2 ^ 24
  pub highest : n.last_section_number < 2 ^ 8
  pub number : n.section_number ≤ n.last_section_number
  pub platform : FitsLoop n.platform
  pub pairs : (p : Loop × Loop) → Memᴰ p n.pairs → FitsLoop p.0 × FitsLoop p.1
  pub size : length (notification_written n) ≤ 4096

-- table 13 writes s for some value
pub record Written (s : List ℕ) : Type 0 where
  pub value : Notification
  pub conforms : Conforms value
  pub is : notification_written value ≡ s

-- ---- whom a pair covers
-- MAC_address_1 is the most significant byte
abbrev pub device_number : Address → ℕ
device_number a =
    a.mac1 * 2 ^ 40 + a.mac2 * 2 ^ 32 + a.mac3 * 2 ^ 24 + a.mac4 * 2 ^ 16 + a.mac5 * 2 ^ 8 + a.mac6

-- in each of the low k bits the mask has a zero, or x and y have the same
unfoldable pub same_where : ℕ → ℕ → ℕ → ℕ → Bool
same_where zero mask x y = true
same_where (suc k) mask x y = (eqb (bit k mask) 0 || eqb (bit k x) (bit k y)) && same_where k mask x y

-- one of them passes the test
unfoldable pub one : {A : Type 0} → (A → Bool) → List A → Bool
one test [] = false
one test (x ∷ xs) = test x || one test xs

-- an address is the device's under the mask's one bits; lowest ≤ device ≤ highest
unfoldable pub targets : ℕ → Descriptor → Bool
targets device (masked mask xs) = one (λ a. same_where 48 mask a device) xs
targets device (ranges rs) = one (λ r. leb r.0 device && leb device r.1) rs
targets device (location l) = false
targets device (other t b) = false

-- a target loop covers a device if it is empty, or one of its descriptors targets it
unfoldable pub covered : ℕ → List Descriptor → Bool
covered device [] = true
covered device (d ∷ ds) = one (targets device) (d ∷ ds)

-- ---- where a pair's location is
-- the first 0x13 of descriptors that stand from o on: its nine bytes stand after tag and length
unfoldable pub location_in : ℕ → List Descriptor → Option Part
location_in o [] = none
location_in o (d ∷ ds) = cond (eqb (tag_of d) 0x13) (some (part (o + 2) (body_written d))) (location_in (o + length (descriptor_written d)) ds)

-- of pairs that stand from o on, the first that covers the device and has a location, in its operational loop, else in the platform loop
unfoldable pub location_to : ℕ → Option Part → ℕ → List (Loop × Loop) → Option Part
location_to device platform o [] = none
location_to device platform o (p ∷ ps) =
    or_else
    (cond (covered device p.0.descriptors)
    (or_else (location_in (o + length (loop_written p.0) + 2) p.1.descriptors) platform) none)
    (location_to device platform (o + length (pair_written p)) ps)

-- ---- what a device is answered: a finding, its number, and a part of the section
pub record Answer : Type 0 where
  pub finding : Finding
  pub number : ℕ
  pub given : Part

-- "3 found, with the nine bytes, or 4 nobody. All but 3 hand back an empty part"
abbrev pub found_at : Part → Answer
found_at p = record { finding = Found p.offset; number = 3; given = p }

abbrev pub found_nobody : Answer
found_nobody = record { finding = Nobody; number = 4; given = part 0 [] }

abbrev pub refused_with : ℕ → Answer
refused_with k = record { finding = Refused k; number = k; given = part 0 [] }

-- the platform loop stands at 12, after it the pairs
unfoldable pub answer_to : Address → Notification → Answer
answer_to device n =
    Option-elim
    (location_to (device_number device) (location_in 14 n.platform.descriptors) (12 + length (loop_written n.platform)) n.pairs)
    found_nobody found_at

-- ---- theorems
-- what the reader has for a section is this answer
pub record Gives (device : Address) (s : List ℕ) (x : Answer) : Type 0 where
  pub finding : finding_of device s ≡ x.finding
  pub number : finding_number (finding_of device s) ≡ x.number
  pub offset : finding_offset (finding_of device s) ≡ x.given.offset
  pub given : part_of s (finding_of device s) ≡ x.given

-- what is written is answered as its pairs say
abbrev pub WrittenIsFound : Type 0
WrittenIsFound =
    (device : Address) (n : Notification) → Bytes (address_bytes device) → Conforms n → Gives device (notification_written n) (answer_to device n)

-- and is a list of bytes
abbrev pub SectionIsBytes : Type 0
SectionIsBytes = (n : Notification) → Conforms n → Bytes (notification_written n)

-- what table 13 writes is taken, and only that
abbrev pub TakenExactly : Type 0
TakenExactly =
    (device : Address) (s : List ℕ) → Bytes s
    → ((finding_number (finding_of device s) ≡ 3) ⊎ (finding_number (finding_of device s) ≡ 4)) ↔ Written s

-- any number but 3 hands back nothing
pub record Nothing (device : Address) (s : List ℕ) (k : ℕ) : Type 0 where
  pub nobody : k ≡ 4 → Gives device s found_nobody
  pub refused : k ≢ 3 → k ≢ 4 → Gives device s (refused_with k)

abbrev pub OthersGiveNothing : Type 0
OthersGiveNothing = (device : Address) (s : List ℕ) → Nothing device s (finding_number (finding_of device s))

-- ---- and none of this is empty: one pair, this target loop and an operational loop with a location, for the device 02:00:5E:10:20:30
abbrev pub sample : List Descriptor → Notification
sample target =
    record {
      reserved3 = 7;
      reserved2 = 3;
      version_number = 0;
      section_number = 0;
      last_section_number = 0;
      platform_id = 0x010204;
      processing_order = 0;
      platform = record { reserved4 = 15; descriptors = [] };
      pairs = (
        record { reserved4 = 15; descriptors = target },
        record {
          reserved4 = 15;
          descriptors = location (record { network_id = 1; original_network_id = 2; transport_stream_id = 3; service_id = 4; component_tag = 5 }) ∷ [];
        },
      )
          ∷ [];
    }

abbrev pub sample_device : Address
sample_device = record { mac1 = 0x02; mac2 = 0x00; mac3 = 0x5E; mac4 = 0x10; mac5 = 0x20; mac6 = 0x30 }

abbrev pub Reached : List Descriptor → Finding → Type 0
Reached target x = Conforms (sample target) × (finding_of sample_device (notification_written (sample target)) ≡ x)

pub record BothReached : Type 0 where
  pub empty : Reached [] (Found 20)
  pub mask : Reached (masked 0xFFFFFF000000 (0x02005E000000 ∷ []) ∷ []) (Found 34)
  pub other_mask : Reached (masked 0xFFFFFF000000 (0x02005F102030 ∷ []) ∷ []) Nobody
  pub range : Reached (ranges ((0x02005E102000, 0x02005E102030) ∷ []) ∷ []) (Found 34)
  pub other_range : Reached (ranges ((0x02005E102031, 0x02005E1020FF) ∷ []) ∷ []) Nobody
  pub other_tag : Reached (other 0x09 [] ∷ []) Nobody
