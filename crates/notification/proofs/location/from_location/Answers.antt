-- What the rest reaches, the whole loop reaches: nothing where no descriptor is left, the descriptor at its front where that is a 0x13.
use Rattle.std.proofs.Common.{rules, ◌≡◌, refl}
use Rattle.std.specs.Prelude.{Some, None}
use Rattle.wire.specs.Bytes.{byte_at}
use Rattle.notification_rules.specs.Target.{stream_location}
use Rattle.notification.proofs.Locations.{reaches_end, reaches_here}
use Rattle.notification.proofs.location.from_location.Goals as goal

pub returns-then-eq : goal.returns-then-eq
returns-then-eq c =
    let t : byte_at c.loop-next.rest.now 0 ≡ stream_location = search rules in
    c.loop-next.invariant (Some c.loop-next.rest) (reaches_here _ c.loop-next.rest _ refl c.descriptor_size.ensures.is c.in-Some.ensures.cases.0 t)

pub returns : goal.returns
returns c = c.loop-next.invariant None (reaches_end _ _ c.descriptor_size.ensures.is c.in_default.ensures.cases)
