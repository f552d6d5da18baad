-- Each turn puts the next section after the others, and cuts its piece off what is left.
use Rattle.sender.proofs.Stage.{Stage}
use Rattle.sender.proofs.Sender.put_sections.Given as goal

abbrev pub invariant-loop-number : goal.invariant-loop-number
invariant-loop-number l =
    Stage l.self.settings l.self.llc_snap l.self.size l.unit l.initial.out l.number l.rest l.at l.out
