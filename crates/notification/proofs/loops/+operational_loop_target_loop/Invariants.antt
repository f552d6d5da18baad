-- The bytes left fall at each call.
use Rattle.std.proofs.Common.{length}
use Rattle.notification.proofs.loops.+operational_loop_target_loop.Given as goal

abbrev pub decreases-operational_loop : goal.decreases-operational_loop
decreases-operational_loop l = length l.s.now

abbrev pub decreases-target_loop : goal.decreases-target_loop
decreases-target_loop l = length l.s.now
