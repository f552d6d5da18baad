-- Each turn puts the next section after the others, and cuts its piece off what is left.
use native.Mathlib.Omega.{arith}
use Rattle.rules.proofs.Send.{accepted}
use Rattle.sender.proofs.Stage.{stage_room, stage_next, stage_start, stage_end}
use Rattle.sender.proofs.Sender.put_sections.Goals as goal

pub loop-number-init : goal.loop-number-init
loop-number-init c = stage_start _ _ _ _ _

pub put_section-at-requires : goal.put_section-at-requires
put_section-at-requires c =
    stage_room _ _ _ _ _ c.loop-number.invariant (accepted _ _ _ _ _ c.requires.out_value) (omega (arith, c.requires.count_value))
    c.min.ensures c.split_at.ensures.front

pub loop-number-preserved : goal.loop-number-preserved
loop-number-preserved c =
    stage_next _ _ _ _ _ c.loop-number.invariant c.min.ensures c.split_at.ensures.front c.split_at.ensures.back
    (omega (arith, c.requires.count_value)) c.put_section-at.ensures

pub returns : goal.returns
returns c = stage_end _ _ _ _ _ c.loop-number.invariant (omega (arith, c.requires.count_value))
