-- What a sound datagram section is, by what table 3 writes: EN 301 192 V1.3.1, clause 7.1; document 01, 'The datagram section'.
use Rattle.std.specs.Prelude.{ℕ, ◌+◌, ◌*◌, ◌^◌, ◌≤◌, ◌<◌, ◌≡◌, ◌↔◌, List, ◌∷◌, Bool, length}
use Rattle.wire.specs.Bytes.{Bytes, bits}
use Rattle.wire.specs.Choice.{pick}
use Rattle.rules.specs.declared.Address.{Address}
use Rattle.rules.specs.Check.{check}
use Rattle.rules.specs.Section.{sealed}

-- the values that table 3 leaves open, the reserved bits of bytes 1 and 5 among them
pub record Values : Type 0 where
  pub address : Address
  pub scrambling : ℕ
  pub llc_snap : Bool
  pub number : ℕ
  pub last : ℕ
  pub payload : List ℕ
  pub reserved1 : ℕ
  pub reserved5 : ℕ

-- section_length: nine bytes, the payload and the CRC_32
abbrev pub following : Values → ℕ
following v = length v.payload + 13

-- the bytes: section_syntax_indicator 1, private_indicator 0, address_scrambling_control 00, current_next_indicator 1
unfoldable pub table3 : Values → List ℕ
table3 v =
    sealed
    (0x3E
    ∷ (2 ^ 7 + 2 ^ 4 * v.reserved1 + bits 11 8 (following v))
    ∷ bits 7 0 (following v)
    ∷ v.address.mac6
    ∷ v.address.mac5
    ∷ (2 ^ 6 * v.reserved5 + 2 ^ 4 * v.scrambling + pick v.llc_snap (2 ^ 1) 0 + 1)
    ∷ v.number
    ∷ v.last
    ∷ v.address.mac4
    ∷ v.address.mac3
    ∷ v.address.mac2
    ∷ v.address.mac1
    ∷ v.payload)

-- two bits each; the number up to the last; 16 to 4,096 bytes
pub record Limits (v : Values) : Type 0 where
  pub scrambling : v.scrambling < 2 ^ 2
  pub reserved1 : v.reserved1 < 2 ^ 2
  pub reserved5 : v.reserved5 < 2 ^ 2
  pub order : v.number ≤ v.last
  pub size : length v.payload ≤ 4080

-- what table 3 writes for some values within these limits
pub record Sound (s : List ℕ) : Type 0 where
  pub values : Values
  pub limits : Limits values
  pub is : s ≡ table3 values

-- none of 12 to 19 and 24 applies exactly to a sound section: a theorem, shown in proofs/Exactly.antt
abbrev pub SoundExactly : Type 0
SoundExactly = (s : List ℕ) → Bytes s → (check s ≡ 0) ↔ Sound s
