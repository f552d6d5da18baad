-- What the rest reaches, the whole loop reaches; the rest is shorter by at least two bytes.
use Rattle.std.specs.Prelude.{Option, length, List, ℕ}
use Rattle.std.specs.Borrow.{Bor}
use Rattle.notification.specs.Readers.{Reaches}
use Rattle.notification.proofs.location.from_location.Given as goal

abbrev pub invariant-loop-next : goal.invariant-loop-next
invariant-loop-next l = (r : Option (Bor (List ℕ))) → Reaches l.rest r → Reaches l.s r

abbrev pub decreases-loop-next : goal.decreases-loop-next
decreases-loop-next l = length l.rest
