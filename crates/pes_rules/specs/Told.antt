-- How what the code gives is read in document 01's numbers.
use Rattle.std.specs.Prelude.{ℕ, ◌≡◌, false, is_some, Result, Ok, Err}
use Rattle.std.specs.Option.{unwrap_or}
use Rattle.pes_rules.specs.Reading.{Reading}
use Rattle.pes_rules.specs.declared.Packet.{Packet}
use Rattle.pes_rules.specs.declared.Refusal.{Refusal}
use Rattle.pes_rules.specs.declared.Refusal.TheVariants.{Length, DataIdentifier, Flags, HeaderLength}

abbrev pub number : Refusal → ℕ
number Length = 40
number DataIdentifier = 41
number Flags = 42
number HeaderLength = 43

-- a refusal is its number and zeros, a packet 5, a flag for each value that is there, and the values, 0 where there is none
abbrev pub told : Result Packet Refusal → Reading
told (Err r) = record { answer = number r; extended = false; rated = false; extension = 0; rate = 0; offset = 0; end = 0 }
told (Ok p) =
    record {
      answer = 5;
      extended = is_some p.extension;
      rated = is_some p.rate;
      extension = unwrap_or p.extension 0;
      rate = unwrap_or p.rate 0;
      offset = p.offset;
      end = p.end;
    }

-- the number of a refusal, 0 where there is none
abbrev pub told_refusal : {T : Type 0} → Result T Refusal → ℕ
told_refusal (Err r) = number r
told_refusal (Ok x) = 0

-- what is told names the answer: two of which the same is told are equal. A theorem, shown in proofs/Told.antt
abbrev pub ToldNames : Type 0
ToldNames = (x y : Result Packet Refusal) → told x ≡ told y → x ≡ y
