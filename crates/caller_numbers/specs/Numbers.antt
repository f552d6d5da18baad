-- Settings as numbers and a receiver's state as bytes, for callers that have neither structs nor enums.
use Rattle.std.specs.Prelude.{ℕ, ◌≡◌, List, ◌∷◌, ◌++◌, Bool, not, replicate, eqb}
use Rattle.wire.specs.Bytes.{byte_at, bytes_of, number_at}
use Rattle.wire.specs.Choice.{pick}
use Rattle.rules.specs.declared.Address.{Address}
use Rattle.rules.specs.declared.Settings.{Settings}
use Rattle.rules.specs.declared.State.{State}
use Rattle.rules.specs.declared.State.TheVariants.{Idle, Open}
use Rattle.rules.specs.Address.{address_at, address_bytes}
use Rattle.rules.specs.Meaning.{GoodState}

-- an address in printed order, MAC_address_1 first
abbrev pub address_of : ℕ → ℕ → ℕ → ℕ → ℕ → ℕ → Address
address_of m1 m2 m3 m4 m5 m6 = record { mac1 = m1; mac2 = m2; mac3 = m3; mac4 = m4; mac5 = m5; mac6 = m6 }

abbrev pub settings_of : ℕ → ℕ → ℕ → ℕ → ℕ → ℕ → ℕ → ℕ → Settings
settings_of m1 m2 m3 m4 m5 m6 range limit = record { address = address_of m1 m2 m3 m4 m5 m6; range = range; limit = limit }

-- a flag: any number but 0 is 1
abbrev pub flag_of : ℕ → Bool
flag_of llc_snap = not (eqb llc_snap 0)

-- the number of a flag
unfoldable pub flag_number : Bool → ℕ
flag_number llc_snap = pick llc_snap 1 0

-- ---- states
-- what sixteen bytes mean: 0 is the run, 1 the LLC_SNAP_flag, 2 and 3 the next number, 4 and 5 the last number, 6 to 9 the filled length,
-- and 10 to 15 the address of the run's number 0. Run 0 is idle, whatever the others are, and any other value an open run
unfoldable pub state_of : List ℕ → State
state_of x =
    pick (eqb (byte_at x 0) 0) Idle
    (Open (number_at 2 x 2) (number_at 4 x 6) (record { address = address_at x 10; last = number_at 2 x 4; llc_snap = flag_of (byte_at x 1) }))

-- the bytes of a state; an idle one has zeros
unfoldable pub state_bytes : State → List ℕ
state_bytes Idle = replicate 16 0
state_bytes (Open next filled key) =
    1
    ∷ flag_number key.llc_snap
    ∷ (bytes_of 2 next ++ (bytes_of 2 key.last ++ (bytes_of 4 filled ++ address_bytes key.address)))

-- the bytes of a good state mean that state: a caller who hands them on hands on the state
abbrev pub HandedOn : Type 0
HandedOn = (c : Settings) (σ : State) → GoodState c σ → state_of (state_bytes σ) ≡ σ
