-- Whether a device's address is in a range: EN 301 192 V1.3.1, clause 7.6.5.7, table 25, the target_MAC_address_range_descriptor; document 01,
-- 'The INT section'; document 02, request 6. Here MAC_address_1 stands first.
use Rattle.std.specs.Prelude.{ℕ, ◌≤◌, ◌≡◌, Bool, true, not, List, ◌↔◌, eqb, ltb}
use Rattle.wire.specs.Bytes.{Bytes, number_at}
use Rattle.wire.specs.Choice.{pick, both}
use Rattle.rules.specs.declared.Address.{Address}
use Rattle.rules.specs.Address.{address_at, address_bytes}

abbrev pub unequal : ℕ → ℕ → Bool
unequal x y = not (eqb x y)

-- a is at most b, compared byte by byte from the top: the first byte that differs decides, and where none does, they are equal
unfoldable pub at_most : Address → Address → Bool
at_most a b =
    pick (unequal a.mac1 b.mac1) (ltb a.mac1 b.mac1)
    (pick (unequal a.mac2 b.mac2) (ltb a.mac2 b.mac2)
    (pick (unequal a.mac3 b.mac3) (ltb a.mac3 b.mac3)
    (pick (unequal a.mac4 b.mac4) (ltb a.mac4 b.mac4)
    (pick (unequal a.mac5 b.mac5) (ltb a.mac5 b.mac5)
    (pick (unequal a.mac6 b.mac6) (ltb a.mac6 b.mac6) true)))))

-- "from MAC_addr_low up to and including MAC_addr_high", which stand one after the other: lowest ≤ device ≤ highest
unfoldable pub in_range : Address → List ℕ → Bool
in_range device e = both (at_most (address_at e 0) device) (at_most device (address_at e 6))

-- ---- a theorem, shown in proofs/Range.antt: of bytes, this is the order of the three as numbers of 48 bits
abbrev pub RangeMeans : Type 0
RangeMeans =
    (device : Address) (e : List ℕ) → Bytes (address_bytes device) → Bytes e
    → (in_range device e ≡ true)
    ↔ ((number_at 6 e 0 ≤ number_at 6 (address_bytes device) 0) × (number_at 6 (address_bytes device) 0 ≤ number_at 6 e 6))
