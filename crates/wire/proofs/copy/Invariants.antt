-- After i turns the first i bytes are those of src, and the rest is as it was.
use Rattle.std.proofs.Common.{◌≡◌, ◌++◌, ◌≤◌, length, take, drop, min}
use Rattle.wire.proofs.copy.Given as goal

abbrev pub invariant-loop-i : goal.invariant-loop-i
invariant-loop-i l =
    (l.i ≤ l.i-end) × (l.i-end ≡ min (length l.src) (length l.initial.dst)) × (length l.dst ≡ length l.initial.dst) × (l.dst ≡ take l.i l.src ++ drop l.i l.initial.dst)
