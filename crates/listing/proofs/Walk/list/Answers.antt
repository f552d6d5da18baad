-- A fresh walk owes the listing; the turns and the last write give all of it that is offered.
use Rattle.listing.proofs.Turns.{listed}
use Rattle.listing.proofs.Walk.list.Goals as goal

pub returns : goal.returns
returns g c =
    listed c.flush-last.result c.listing_settings.ensures c.requires.fresh c.requires.owes c.walk_on-walked.ensures c.flush-last.ensures.gave
    c.flush-last.ensures.failed c.and.ensures
