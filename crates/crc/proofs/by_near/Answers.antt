-- `crc::by_near` meets its contract: each turn takes a word away by the near multiple, and the last two go in.
use mathlib.Core.Path.{refl}
use mathlib.Core.List.{[], ◌∷◌}
use native.Mathlib.Omega.{arith}
use Rattle.crc.proofs.Shifts.{added, moved}
use Rattle.crc.proofs.Basis.{near, near_leaves}
use Rattle.crc.proofs.Clear.{spread, turn, one_more}
use Rattle.crc.proofs.by_near.Goals as goal

pub loop-rest-preserved : goal.loop-rest-preserved
unfolding spread added moved
loop-rest-preserved c =
    let l = c.loop-rest in
    let enough = c.loop-rest-test.true in
    one_more _ _ _
    (turn near near_leaves l.v (l.z1 ∷ l.z2 ∷ l.z3 ∷ l.z4 ∷ []) _ l.rest.now l.invariant (omega (arith, enough))
    (omega (arith, enough)) refl c.next-v.ensures)
