-- Three puts in a row, and the CRC_32 of what the first two wrote.
use native.Mathlib.Omega.{arith}
use Rattle.rules.specs.Section.{section_of}
use Rattle.sender.proofs.Sealed.{be_bytes, puts_sealed}
use Rattle.sender.proofs.Sender.put_section.Goals as goal

pub returns : goal.returns
unfolding section_of
returns c =
    rw (← c.header-header.ensures)
    (puts_sealed (omega (arith, c.requires)) c.put-body.ensures c.put-end.ensures
    (rw (c.to_be_bytes-sum.ensures, c.crc_32.ensures) (be_bytes _)) c.put.ensures)
