-- Each way through is one of the laws of what is owed.
use Rattle.std.proofs.Common.{refl}
use Rattle.wire.proofs.Choice.{was}
use Rattle.listing.proofs.Owed.{turned_kept, turned_flush, turned_serve, unended, roomy}
use Rattle.listing.proofs.Walk.turn.Goals as goal

pub returns-then-due : goal.returns-then-due
returns-then-due g c =
    let is-due = was (rw c.ready-ready.ensures at c.due.ensures.is) c.if-due.true in
    turned_flush c.args.settings c.args.self.now is-due c.flush.ensures.gave c.flush.ensures.failed

pub refill-requires : goal.refill-requires
refill-requires g c = unended _ (was c.ready-ready.ensures c.if-not-ready.true)

pub returns-then-not-ready : goal.returns-then-not-ready
returns-then-not-ready g c =
    let quiet = was (rw c.ready-ready.ensures at c.due.ensures.is) c.if-due.false in
    let unready = was c.ready-ready.ensures c.if-not-ready.true in
    turned_kept c.args.settings c.args.self.now quiet unready c.refill.ensures refl refl refl refl

pub serve-requires-clause-room : goal.serve-requires-clause-room
serve-requires-clause-room g c =
    let quiet = was (rw c.ready-ready.ensures at c.due.ensures.is) c.if-due.false in
    roomy c.args.self.now _ quiet c.due.ensures.fits

pub returns : goal.returns
returns g c =
    let quiet = was (rw c.ready-ready.ensures at c.due.ensures.is) c.if-due.false in
    let is-ready = was c.ready-ready.ensures c.if-not-ready.false in
    turned_serve c.args.settings c.args.self.now c.serve.ensures is-ready c.requires quiet
