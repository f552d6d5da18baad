-- The rest is shorter by at least two bytes.
use Rattle.std.proofs.Common.{length}
use Rattle.notification.proofs.loops.+descriptor_loop.Given as goal

abbrev pub decreases-descriptor_loop : goal.decreases-descriptor_loop
decreases-descriptor_loop l = length l.s.now
