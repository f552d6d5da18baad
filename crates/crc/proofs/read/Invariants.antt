-- `crc::read` meets its contract: at each turn what is joined is the number that the bytes so far make.
use mathlib.Core.Path.{◌≡◌}
use Rattle.crc.specs.Words.{number}
use Rattle.crc.proofs.read.Given as goal

abbrev pub invariant-loop-byte : goal.invariant-loop-byte
invariant-loop-byte l = l.joined ≡ number l.byte-index l.s
