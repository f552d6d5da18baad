-- The bytes of a state mean that state, by its cases: a good one has numbers that fit their bytes.
use native.Mathlib.Omega.{arith}
use mathlib.Core.Path.{◌≡◌, refl}
use mathlib.Core.Bool.{Bool, true, false, not}
use lib.Dec.{eqb}
use mir.Val.{bool_byte}
use Rattle.wire.specs.Bytes.{bytes_of, number_at}
use Rattle.wire.specs.Choice.{pick}
use Rattle.rules.specs.declared.State.TheVariants.{Idle, Open}
use Rattle.rules.specs.Address.{address_at}
use Rattle.rules.specs.Meaning.{GoodState}
use Rattle.caller_numbers.specs.Numbers.{flag_number, HandedOn, state_bytes, state_of}

-- a flag as a number, as the code casts it
pub flag_byte : (b : Bool) → bool_byte b ≡ flag_number b
unfolding flag_number pick
flag_byte true = refl
flag_byte false = refl

flag_back : (b : Bool) → not (eqb (flag_number b) 0) ≡ b
unfolding flag_number pick
flag_back true = refl
flag_back false = refl

pub handed_on : HandedOn
unfolding state_of state_bytes flag_number pick number_at bytes_of address_at GoodState
handed_on c Idle good = refl
handed_on c (Open next filled key) good =
    let e : number_at 2 (state_bytes (Open next filled key)) 2 ≡ next = omega (arith, good.1, good.2) in
    let l : number_at 2 (state_bytes (Open next filled key)) 4 ≡ key.last = omega (arith, good.2) in
    let f : number_at 4 (state_bytes (Open next filled key)) 6 ≡ filled = omega (arith, good.3) in
    λ i. Open (e i) (f i) (record { address = key.address; last = l i; llc_snap = flag_back key.llc_snap i })
