-- The turns end where all is offered, or with one that failed.
use Rattle.std.proofs.Common.{arith}
use Rattle.listing.proofs.Turns.{ended_offered, ended_failed}
use Rattle.listing.proofs.Walk.walk_on.Goals as goal

pub returns-then-is_offered : goal.returns-then-is_offered
returns-then-is_offered g c = ended_offered c.loop.invariant (c.is_offered.ensures.0 c.if-is_offered.true)

pub returns-in_err-turn : goal.returns-in_err-turn
returns-in_err-turn g c = ended_failed c.loop.invariant c.turn.ensures c.in_err-turn.was c.from_residual.ensures.1 (omega (arith, c.loop-test.true))
