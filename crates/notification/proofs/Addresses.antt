-- An address as a number of 48 bits.
use Prim.Native.Nat.{ℕ}
use mathlib.Core.Path.{◌≡◌, refl}
use mathlib.Core.List.{List}
use Rattle.wire.specs.Bytes.{number_at}
use Rattle.rules.specs.Address.{address_at}
use Rattle.notification_rules.specs.Target.{address_number}

-- of the address at the front
pub number_front : (s : List ℕ) → address_number (address_at s 0) ≡ number_at 6 s 0
unfolding number_at address_number address_at
number_front s = refl
