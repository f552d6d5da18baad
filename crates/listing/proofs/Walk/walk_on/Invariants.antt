-- One turn more has been made.
use Rattle.std.proofs.Common.{Ok, ◌-◌, ◌^◌}
use Rattle.listing.specs.Turns.{Walked}
use Rattle.listing.proofs.Walk.walk_on.Given as goal

abbrev pub invariant-loop : goal.invariant-loop
invariant-loop g l = Walked l.settings l.initial.self (2 ^ 64 - 1 - l.counter) (Ok tt) l.self
