use Rattle.std.proofs.Common.{length, ◌≤◌}
use Rattle.stream.proofs.write_whole.Given as goal

-- What is left is no longer than the text, so it is empty where the text is.
abbrev pub invariant-loop-rest : goal.invariant-loop-rest
invariant-loop-rest g l = length l.rest ≤ length l.text

-- Each turn but the last leaves fewer bytes.
abbrev pub decreases-loop-rest : goal.decreases-loop-rest
decreases-loop-rest g l = length l.rest
