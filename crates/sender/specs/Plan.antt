-- What the sender decides before it writes.
use Rattle.std.specs.Prelude.{ℕ, ◌≡◌, Bool, List, Result, Ok, Err}
use Rattle.wire.specs.Choice.{first_of}
use Rattle.rules.specs.declared.Refusal.{Refusal}
use Rattle.rules.specs.declared.Settings.{Settings}
use Rattle.rules.specs.Send.{section_count, send_lines}
use Rattle.rules.specs.Told.{number}

-- the number of the sections where no line applies, or the refusal of the first line that does
abbrev pub Planned : Settings → Bool → ℕ → List ℕ → List ℕ → Result ℕ Refusal → Type 0
Planned c llc_snap n u out (Ok count) = (count ≡ section_count n u) × (first_of (send_lines c llc_snap n u out) ≡ 0)
Planned c llc_snap n u out (Err r) = number r ≡ first_of (send_lines c llc_snap n u out)
