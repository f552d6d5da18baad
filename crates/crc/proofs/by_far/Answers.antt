-- `crc::by_far` meets its contract: each turn takes two words away by the far multiple, and the near one does the rest.
use mathlib.Core.Path.{◌≡◌, refl, ap}
use mathlib.Core.List.{[], ◌∷◌}
use Prim.Native.Nat.{◌-◌, ◌≤◌}
use native.Mathlib.Omega.{arith}
use borrow.Author.Rules.{rules}
use lib.ListN.{length, take, drop, length-drop}
use Rattle.wire.proofs.Lists.{from}
use Rattle.crc.proofs.Shifts.{added, moved}
use Rattle.crc.proofs.Basis.{far, far_leaves}
use Rattle.crc.proofs.Clear.{spread, turn, one_more}
use Rattle.crc.proofs.by_far.Goals as goal

pub loop-rest-init : goal.loop-rest-init
loop-rest-init c =
    let a = c.args.a1 in
    one_more _ (a ∷ 0 ∷ 0 ∷ []) _ (one_more _ (a ∷ 0 ∷ []) _ (one_more _ (a ∷ []) _ (search rules, search rules, refl)))

pub loop-rest-preserved : goal.loop-rest-preserved
unfolding spread added moved
loop-rest-preserved c =
    let l = c.loop-rest in
    let s = l.rest.now in
    let enough = c.loop-rest-test.true in
    let after : length (take (length s - 8) (drop 8 s)) ≡ length (drop 8 s) = ap length (from 8 s) in
    let left : 40 ≤ length (take (length s - 8) (drop 8 s)) = omega (arith, enough, after, length-drop 8 s) in
    turn far far_leaves _ _ _ _
    (turn far far_leaves l.v (l.z1 ∷ l.z2 ∷ l.z3 ∷ l.z4 ∷ []) _ s l.invariant (omega (arith, enough))
    (omega (arith, enough)) refl c.next-w1.ensures)
    (omega (arith, left)) left refl c.next-w2.ensures
