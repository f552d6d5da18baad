-- Nothing is offered and nothing is put yet.
use Rattle.std.proofs.Common.{refl}
use Rattle.listing.proofs.Owed.{owed_fresh}
use Rattle.listing.proofs.Walk.new.Goals as goal

pub returns-clause-owes : goal.returns-clause-owes
returns-clause-owes c = λ recording. owed_fresh _ recording c.new.ensures refl refl refl
