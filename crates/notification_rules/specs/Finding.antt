-- What a device finds in an INT section: document 01, 'The INT section'.
use Rattle.std.specs.Prelude.{ℕ, ◌+◌, Bool, false, not, List, [], ◌∷◌, ◌++◌, take, drop, eqb}
use Rattle.std.proofs.Math.Option.{Option, none, some}
use Rattle.std.specs.Int.Bits.{bit_xor}
use Rattle.wire.specs.Bytes.{byte_at}
use Rattle.wire.specs.Choice.{pick, both, Line, line, first_of}
use Rattle.rules.specs.declared.Address.{Address}
use Rattle.rules.specs.declared.Form.{Form}
use Rattle.rules.specs.Check.{shared_lines}
use Rattle.notification_rules.specs.Answers.{Finding, Found, Nobody, Refused}
use Rattle.wire.specs.Part.{Part, part}
use Rattle.notification_rules.specs.Cut.{Cut, is_nil, every, odd}
use Rattle.notification_rules.specs.Loop.{action_type, platform_id_hash, loop_cut, loops_of, content, descriptor_items, filled, tag, body_length, Pair, pairs_of}
use Rattle.notification_rules.specs.Target.{right_length, location_of, Location, nowhere, somewhere, answers, first_pair}

-- 12 to 18 as for every table; bit 6 of byte 1 is not looked at, so 24 never applies
abbrev pub notification_form : Form
notification_form = record { fewest = 18; table = 0x4C; private = false }

-- 30: action_type is not 0x01, location of IP/MAC streams in DVB networks
unfoldable pub other_action : List ℕ → Bool
other_action s = not (eqb (action_type s) 0x01)

-- 31: platform_id_hash is not the XOR of the three bytes of platform_id
unfoldable pub wrong_hash : List ℕ → Bool
wrong_hash s = not (eqb (platform_id_hash s) (bit_xor (bit_xor (byte_at s 8) (byte_at s 9)) (byte_at s 10)))

-- nothing is left, a platform loop and pairs are an odd number of loops, and its descriptors fill each loop
unfoldable pub fits : Cut → Bool
fits c = both (is_nil c.left) (both (odd c.items) (every (λ l. filled (content l)) c.items))

-- 32: loops or descriptors do not fill exactly
unfoldable pub misfit : List ℕ → Bool
misfit s = not (fits (loop_cut s))

-- every known descriptor of a loop has a right length
unfoldable pub known : List ℕ → Bool
known b = every (λ d. right_length (tag d) (body_length d)) (descriptor_items b)

-- 33: a known descriptor has another length, in any loop
unfoldable pub other_length : List ℕ → Bool
other_length s = not (every (λ l. known (content l)) (loop_cut s).items)

-- what is seen without the loops
unfoldable pub platform_lines : List ℕ → List Line
platform_lines s = line 30 (other_action s) ∷ line 31 (wrong_hash s) ∷ []

-- 32 is decided over the whole section first
unfoldable pub loop_lines : List ℕ → List Line
loop_lines s = line 32 (misfit s) ∷ line 33 (other_length s) ∷ []

-- the first of 12 to 18 and 30 to 33 that applies, else 0
unfoldable pub refusal : List ℕ → ℕ
refusal s = first_of (shared_lines notification_form s ++ (platform_lines s ++ loop_lines s))

-- ---- found, with the offset of the nine bytes after tag and length, or nobody
unfoldable pub found : Location → Finding
found nowhere = Nobody
found (somewhere d) = Found (d.offset + 2)

unfoldable pub chosen : Part → Option Pair → Finding
chosen platform none = Nobody
chosen platform (some x) = found (location_of platform x)

-- the search over the pairs stops at the first that covers the device and has a location
unfoldable pub searched : Address → List Part → Finding
searched device [] = Nobody
searched device (platform ∷ loops) = chosen platform (first_pair (answers device platform) (pairs_of loops))

-- the one answer
unfoldable pub finding_of : Address → List ℕ → Finding
finding_of device s = pick (eqb (refusal s) 0) (searched device (loops_of s)) (Refused (refusal s))

-- ---- the paper's number of each answer, and the part that goes with it: empty, at offset 0, for all but 3
abbrev pub finding_number : Finding → ℕ
finding_number (Found p) = 3
finding_number Nobody = 4
finding_number (Refused n) = n

-- the offset of the nine bytes, and 0 for all but 3
abbrev pub finding_offset : Finding → ℕ
finding_offset (Found p) = p
finding_offset Nobody = 0
finding_offset (Refused n) = 0

abbrev pub part_of : List ℕ → Finding → Part
part_of s (Found p) = part p (take 9 (drop p s))
part_of s Nobody = part 0 []
part_of s (Refused n) = part 0 []
