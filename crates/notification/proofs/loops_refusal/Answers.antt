-- Each case of what the readers of the loops give has its number in the table's last two lines.
use Rattle.notification.proofs.Fits.{loops_told}
use Rattle.rules.specs.Told.{number, refusal_number}
use lib.ListN.{drop}
use mathlib.Core.List.{List}
use mathlib.Core.Path.{ap, ◌∙◌}
use Prim.Native.Nat.{ℕ}
use Rattle.notification.proofs.loops_refusal.Goals as goal

pub returns-in-Misfit : goal.returns-in-Misfit
unfolding refusal_number number
returns-in-Misfit c = loops_told c.args.s.now _ _ _
    (c.after.ensures.bytes ∙ ap (λ (l : List ℕ). drop 12 l) c.checked.ensures.bytes)
    c.operational_loop.ensures c.in-Misfit.is

pub returns-in-OtherLength : goal.returns-in-OtherLength
unfolding refusal_number number
returns-in-OtherLength c = loops_told c.args.s.now _ _ _
    (c.after.ensures.bytes ∙ ap (λ (l : List ℕ). drop 12 l) c.checked.ensures.bytes)
    c.operational_loop.ensures c.in-OtherLength.is

pub returns-in-Exact : goal.returns-in-Exact
unfolding refusal_number
returns-in-Exact c = loops_told c.args.s.now _ _ _
    (c.after.ensures.bytes ∙ ap (λ (l : List ℕ). drop 12 l) c.checked.ensures.bytes)
    c.operational_loop.ensures c.in-Exact.is
