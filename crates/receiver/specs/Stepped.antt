-- What the receiver's inner functions give, in the papers' words.
use Rattle.std.specs.Prelude.{ℕ, Option, Some, None, Result, Ok, Err}
use Rattle.rules.specs.declared.Reception.{Reception}
use Rattle.rules.specs.declared.Refusal.{Refusal}
use Rattle.rules.specs.declared.State.{State}
use Rattle.rules.specs.declared.State.TheVariants.{Idle}
use Rattle.rules.specs.declared.Step.{Step}
use Rattle.rules.specs.Step.{Fill, Nowhere, From}

-- the step that has this reception and the state after it; a refusal drops the run
abbrev pub stepped : Result (Reception × State) Refusal → Step
stepped (Ok t) = record { answer = Ok t.0; state = t.1 }
stepped (Err r) = record { answer = Err r; state = Idle }

-- where a payload goes
abbrev pub fill_told : Option ℕ → Fill
fill_told None = Nowhere
fill_told (Some f) = From f
