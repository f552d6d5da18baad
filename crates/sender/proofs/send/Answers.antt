-- The outcome is the one that was decided.
use Rattle.std.proofs.lemmas.Result.{err_from_is_err_and}
use Rattle.sender.proofs.Sent.{refused, sent}
use Rattle.sender.proofs.send.Goals as goal

pub returns-in_err-count : goal.returns-in_err-count
returns-in_err-count c =
    let a = c.args in
    let p = err_from_is_err_and c.from_residual.result c.from_residual.ensures.1 in
    rw (p.1, p.2) (refused a.settings a.llc_snap a.size a.unit.now a.out.now c.in_err-count.ensures)

pub returns : goal.returns
returns c =
    let a = c.args in
    sent a.settings a.llc_snap a.size a.unit.now a.out.now c.in_ok-count.ensures.1 c.put_sections.ensures
