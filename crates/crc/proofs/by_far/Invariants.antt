-- `crc::by_far` meets its contract: each turn takes two words away by the far multiple, and the near one does the rest.
use mathlib.Core.List.{[], ◌∷◌}
use lib.ListN.{length}
use Rattle.crc.specs.Words.{crc_after}
use Rattle.crc.proofs.Clear.{Stands}
use Rattle.crc.proofs.by_far.Given as goal

abbrev pub invariant-loop-rest : goal.invariant-loop-rest
invariant-loop-rest l =
    Stands l.v (l.z1 ∷ l.z2 ∷ l.z3 ∷ l.z4 ∷ []) l.rest (crc_after l.first (l.a1 ∷ []) l.s)

abbrev pub decreases-loop-rest : goal.decreases-loop-rest
decreases-loop-rest l = length l.rest
