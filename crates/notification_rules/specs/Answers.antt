-- What the INT reader answers, in the papers' words: refusals by number. How the code's answers are read so is in specs/Told.antt.
use Rattle.std.specs.Prelude.{ℕ}

-- the offset of the nine bytes in the section, nobody, or the number of the first refusal that applies
pub data Finding : Type 0 where
  Found : ℕ → Finding
  Nobody : Finding
  Refused : ℕ → Finding
