-- Two results that are read as the same numbers are the same: each is found again from its numbers. And a packet's data is where the result says.
use Prim.Native.Nat.{ℕ}
use mathlib.Core.Path.{◌≡◌, refl, sym, ap, ◌∙◌}
use mathlib.Core.Bool.{Bool, cond}
use mathlib.Core.List.{List}
use lib.Dec.{eqb}
use Rattle.std.proofs.Common.{Option, Some, None, is_some, unwrap_or, Result, Ok, Err}
use Rattle.pes_rules.specs.Packet.{read_of}
use Rattle.pes_rules.specs.Reading.{Reading}
use Rattle.pes_rules.specs.Told.{told, ToldNames}
use Rattle.pes_rules.proofs.Answer.{data_within, Within}
use Rattle.pes_rules.specs.declared.Packet.{Packet}
use Rattle.pes_rules.specs.declared.Refusal.{Refusal}
use Rattle.pes_rules.specs.declared.Refusal.TheVariants.{Length, DataIdentifier, Flags, HeaderLength}

-- the value that a flag announces
abbrev value : Bool → ℕ → Option ℕ
value flag n = cond flag (Some n) None

value_is : (o : Option ℕ) → value (is_some o) (unwrap_or o 0) ≡ o
value_is None = refl
value_is (Some n) = refl

abbrev result_of : Reading → Result Packet Refusal
result_of r =
    cond (eqb r.answer 40) (Err Length)
    (cond (eqb r.answer 41) (Err DataIdentifier)
    (cond (eqb r.answer 42) (Err Flags)
    (cond (eqb r.answer 43) (Err HeaderLength)
    (Ok (record { extension = value r.extended r.extension; rate = value r.rated r.rate; offset = r.offset; end = r.end })))))

found_again : (x : Result Packet Refusal) → result_of (told x) ≡ x
found_again (Err Length) = refl
found_again (Err DataIdentifier) = refl
found_again (Err Flags) = refl
found_again (Err HeaderLength) = refl
found_again (Ok p) = rw (value_is p.extension, value_is p.rate)

pub told_injective : ToldNames
told_injective x y e = sym (found_again x) ∙ ap result_of e ∙ found_again y

-- ---- where the data of a packet is
pub packet_within : (s : List ℕ) (p : Packet) → told (Ok p) ≡ read_of s → Within p.offset p.end s
packet_within s p e = data_within s (told (Ok p)) e
