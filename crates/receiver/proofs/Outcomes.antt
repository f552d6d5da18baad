-- What a test gives decides the next choice of the outcome.
use Rattle.std.proofs.Common.{◌≡◌, List, ℕ}
use borrow.Author.Tests.{ne_eqb}
use Rattle.wire.specs.Choice.{pick, Line, first_of}
use Rattle.rules.specs.declared.Refusal.{Refusal}
use Rattle.rules.specs.Told.{number}
use Rattle.rules.proofs.Told.{numbered}
use Rattle.rules.specs.Step.{Outcome, refuse, refuse_first}

-- no line applies
pub past : (lines : List Line) (b : List ℕ) (o : Outcome) → 0 ≡ first_of lines → refuse_first lines b o ≡ o
unfolding refuse_first pick
past lines b o e = rw (← e)

-- the refusal is that of the first line that applies
pub refused : (lines : List Line) (b : List ℕ) (o : Outcome) (r : Refusal)
    → number r ≡ first_of lines → refuse_first lines b o ≡ refuse (number r) b
unfolding refuse_first pick
refused lines b o r e = rw (← e, ne_eqb _ _ (numbered r))
