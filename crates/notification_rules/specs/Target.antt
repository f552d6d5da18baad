-- Whom a target loop covers, and where its streams are: EN 301 192 V1.3.1, tables 24, 25 and 32; document 01, 'The INT section'.
use Rattle.std.specs.Prelude.{ℕ, ◌%◌, Bool, true, false, List, [], ◌∷◌, drop, leb, eqb}
use Rattle.std.proofs.Math.Option.{Option, none, some}
use Rattle.std.specs.Int.Bits.{bit_and}
use Rattle.wire.specs.Bytes.{number_at}
use Rattle.wire.specs.Choice.{pick, both}
use Rattle.rules.specs.declared.Address.{Address}
use Rattle.rules.specs.Address.{address_bytes}
use Rattle.wire.specs.Part.{Part}
use Rattle.notification_rules.specs.Cut.{cut_of, is_nil, any}
use Rattle.notification_rules.specs.Loop.{tag, body, content, descriptors_of, Pair}
use Rattle.notification_rules.specs.Range.{in_range}

-- target_MAC_address_descriptor, target_MAC_address_range_descriptor, IP/MAC_stream_location_descriptor
abbrev pub mac_address : ℕ
mac_address = 0x07

abbrev pub mac_address_range : ℕ
mac_address_range = 0x0E

abbrev pub stream_location : ℕ
stream_location = 0x13

-- a mask of 6 bytes and then addresses of 6; pairs of addresses; 9 bytes; any length where the tag is not known
unfoldable pub right_length : ℕ → ℕ → Bool
right_length t n =
    pick (eqb t mac_address) (both (leb 6 n) (eqb (n % 6) 0))
    (pick (eqb t mac_address_range) (eqb (n % 12) 0) (pick (eqb t stream_location) (eqb n 9) true))

-- ---- addresses, as 48 bits; here MAC_address_1 stands first
unfoldable pub address_number : Address → ℕ
address_number a = number_at 6 (address_bytes a) 0

-- the address at the front is the device's under the mask's one bits
unfoldable pub same_under : Address → List ℕ → List ℕ → Bool
same_under device mask e =
    eqb (bit_and (number_at 6 e 0) (number_at 6 mask 0)) (bit_and (address_number device) (number_at 6 mask 0))

-- ---- the entries of a descriptor that targets: addresses after the mask, or pairs of addresses; other tags have none
unfoldable pub entry_size : ℕ → ℕ
entry_size t = pick (eqb t mac_address) 6 12

unfoldable pub entry_bytes : List ℕ → List ℕ
entry_bytes d = pick (eqb (tag d) mac_address) (drop 8 d) (pick (eqb (tag d) mac_address_range) (drop 2 d) [])

abbrev pub entry_items : List ℕ → List (List ℕ)
entry_items d = (cut_of (λ _. entry_size (tag d)) (entry_bytes d)).items

-- an entry of a descriptor covers the device
unfoldable pub hit : Address → List ℕ → List ℕ → Bool
hit device d e = pick (eqb (tag d) mac_address) (same_under device (body d) e) (in_range device e)

-- ---- a descriptor covers the device
unfoldable pub covers : Address → List ℕ → Bool
covers device d = any (hit device d) (entry_items d)

-- nobody, or the offset of the tag of the first descriptor that covers the device; 0 where the loop is empty and covers all
pub data Cover : Type 0 where
  nobody : Cover
  by : ℕ → Cover

unfoldable pub cover_from : Address → List Part → Cover
cover_from device [] = nobody
cover_from device (d ∷ ds) = pick (covers device d.bytes) (by d.offset) (cover_from device ds)

unfoldable pub cover_of : Address → Part → Cover
cover_of device target = pick (is_nil (content target.bytes)) (by 0) (cover_from device (descriptors_of target))

unfoldable pub is_cover : Cover → Bool
is_cover nobody = false
is_cover (by o) = true

-- ---- nowhere, or the first stream location descriptor of a loop
pub data Location : Type 0 where
  nowhere : Location
  somewhere : Part → Location

unfoldable pub located : List Part → Location
located [] = nowhere
located (d ∷ ds) = pick (eqb (tag d.bytes) stream_location) (somewhere d) (located ds)

unfoldable pub is_location : Location → Bool
is_location nowhere = false
is_location (somewhere d) = true

unfoldable pub or_else : Location → Location → Location
or_else nowhere l = l
or_else (somewhere d) l = somewhere d

-- a pair's location: the first of its operational loop, else the first of the platform loop
unfoldable pub location_of : Part → Pair → Location
location_of platform x = or_else (located (descriptors_of x.operational)) (located (descriptors_of platform))

-- ---- the search
-- the pair covers the device and has a location
unfoldable pub answers : Address → Part → Pair → Bool
answers device platform x = both (is_cover (cover_of device x.target)) (is_location (location_of platform x))

-- the first pair that passes a test
unfoldable pub first_pair : (Pair → Bool) → List Pair → Option Pair
first_pair f [] = none
first_pair f (x ∷ xs) = pick (f x) (some x) (first_pair f xs)
