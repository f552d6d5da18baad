-- Which bytes of two addresses are compared: EN 301 192 V1.3.1, table 7; document 01, 'Settings'.
use Rattle.std.specs.Prelude.{ℕ, ◌+◌, ◌-◌, ◌≤◌, ◌≡◌, List, [], ◌∷◌, Bool, eqb, ltb}
use Rattle.wire.specs.Bytes.{byte_at}
use Rattle.wire.specs.Choice.{both, either}
use Rattle.rules.specs.declared.Address.{Address}

-- two bytes that are compared from a MAC_address_range of k on: they are equal, or the range is below k
unfoldable pub agree : ℕ → ℕ → ℕ → ℕ → Bool
agree k range x y = either (ltb range k) (eqb x y)

-- range 1 compares MAC_address_6, range 2 also MAC_address_5, and so on up to all six
unfoldable pub same_address : ℕ → Address → Address → Bool
same_address range a b =
    both (agree 1 range a.mac6 b.mac6)
    (both (agree 2 range a.mac5 b.mac5)
    (both (agree 3 range a.mac4 b.mac4)
    (both (agree 4 range a.mac3 b.mac3) (both (agree 5 range a.mac2 b.mac2) (agree 6 range a.mac1 b.mac1)))))

-- in printed order, MAC_address_1 first
abbrev pub address_bytes : Address → List ℕ
address_bytes a = a.mac1 ∷ a.mac2 ∷ a.mac3 ∷ a.mac4 ∷ a.mac5 ∷ a.mac6 ∷ []

-- the address that stands at i in printed order
unfoldable pub address_at : List ℕ → ℕ → Address
address_at s i =
    record {
      mac1 = byte_at s i;
      mac2 = byte_at s (i + 1);
      mac3 = byte_at s (i + 2);
      mac4 = byte_at s (i + 3);
      mac5 = byte_at s (i + 4);
      mac6 = byte_at s (i + 5);
    }

-- of two addresses, as they are printed, the last n bytes are equal: what a MAC_address_range of n compares
abbrev pub LastEqual : ℕ → List ℕ → List ℕ → Type 0
LastEqual n a b = (i : ℕ) → 6 - n ≤ i → byte_at a i ≡ byte_at b i
