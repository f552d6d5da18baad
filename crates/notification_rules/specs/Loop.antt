-- The IP/MAC_notification_section: EN 301 192 V1.3.1, clause 7.6, tables 13 and 16 to 18. Bytes are counted from 0.
use Rattle.std.specs.Prelude.{ℕ, ◌+◌, ◌%◌, ◌^◌, Bool, List, [], ◌∷◌, drop}
use Rattle.wire.specs.Bytes.{byte_at, number_at}
use Rattle.rules.specs.Section.{checked}
use Rattle.wire.specs.Part.{Part}
use Rattle.notification_rules.specs.Cut.{Size, Cut, cut_of, from_offset, is_nil}

-- byte 3
unfoldable pub action_type : List ℕ → ℕ
action_type s = byte_at s 3

-- byte 4
unfoldable pub platform_id_hash : List ℕ → ℕ
platform_id_hash s = byte_at s 4

-- a loop: two bytes, whose low 12 bits are its length, and that many bytes
unfoldable pub loop_size : Size
loop_size s = 2 + number_at 2 s 0 % 2 ^ 12

-- a descriptor: tag, length, that many bytes
unfoldable pub descriptor_size : Size
descriptor_size s = 2 + byte_at s 1

-- where the platform loop begins
abbrev pub platform_offset : ℕ
platform_offset = 12

-- from the platform loop up to the CRC_32, cut into loops
unfoldable pub loop_cut : List ℕ → Cut
loop_cut s = cut_of loop_size (drop platform_offset (checked s))

-- the loops, each at its offset
unfoldable pub loops_of : List ℕ → List Part
loops_of s = from_offset platform_offset (loop_cut s).items

-- what a loop holds
abbrev pub content : List ℕ → List ℕ
content l = drop 2 l

-- the descriptors of a loop, one by one
abbrev pub descriptor_items : List ℕ → List (List ℕ)
descriptor_items b = (cut_of descriptor_size b).items

-- its descriptors fill a loop exactly
unfoldable pub filled : List ℕ → Bool
filled b = is_nil (cut_of descriptor_size b).left

-- the descriptors of a loop, each at its offset
unfoldable pub descriptors_of : Part → List Part
descriptors_of l = from_offset (l.offset + 2) (descriptor_items (content l.bytes))

abbrev pub tag : List ℕ → ℕ
tag d = byte_at d 0

-- descriptor_length
abbrev pub body_length : List ℕ → ℕ
body_length d = byte_at d 1

abbrev pub body : List ℕ → List ℕ
body d = drop 2 d

-- a target loop and its operational loop
pub record Pair : Type 0 where
  pub target : Part
  pub operational : Part

-- after the platform loop, target and operational loop by turns
unfoldable pub pairs_of : List Part → List Pair
pairs_of [] = []
pairs_of (t ∷ []) = []
pairs_of (t ∷ o ∷ ls) = record { target = t; operational = o } ∷ pairs_of ls
