-- A read leaves the bytes at hand the same; so does a move, as the check finds.
use Rattle.std.proofs.Common.{refl}
use Rattle.listing.proofs.Read.{kept_read}
use Rattle.listing.proofs.Window.refill.Goals as goal

pub returns : goal.returns
returns g c = kept_read c.args.self.now _ c.requires refl refl refl refl c.came.ensures
