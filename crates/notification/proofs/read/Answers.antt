-- The nine bytes that were picked stand in the section.
use Rattle.notification.proofs.Answers.{pair_answers, part_in, found_given, answered}
use Rattle.notification.proofs.read.Goals as goal

pub returns-in-Some : goal.returns-in-Some
returns-in-Some c = let A = c.args in
    let H = c.checked-head in
    let a = pair_answers A.device A.s.now H.result.now _ (rw c.in-Some.is at c.in_ok-find.ensures) H.ensures.bytes in
    answered A.device A.s _ (found_given A.s.now H.result.now H.ensures.bytes A.s.ref_ptr A.device _ a _ _ _
    (part_in H.ensures c.loop_at-operational.ensures.is) (part_in H.ensures c.loop_at.ensures.is) c.pick.ensures)
