-- Header and piece are put one after the other, and their CRC_32 after them.
use Prim.Native.Nat.{ℕ, ◌+◌, ◌-◌, ◌≤◌}
use native.Mathlib.Nat.{div-one}
use native.Mathlib.Omega.{arith}
use mathlib.Core.Path.{◌≡◌}
use mathlib.Core.List.{List, ◌++◌}
use lib.ListN.{length, take, drop, length-append}
use Rattle.std.specs.Int.{to_be_bytes, w32}
use Rattle.wire.specs.Bytes.{bytes_of}
use Rattle.wire.specs.Puts.{Puts, PutsIfRoom}
use Rattle.wire.proofs.Bytes.{length_bytes_of}
use Rattle.wire.proofs.Puts.{puts_length, puts_read, puts_then}
use Rattle.rules.specs.Crc.{crc32}
use Rattle.rules.specs.Section.{sealed}

-- the library's bytes of a number are the papers'
pub be_bytes : (x : ℕ) → to_be_bytes w32 x ≡ bytes_of 4 x
unfolding bytes_of
be_bytes x = rw div-one

pub puts_sealed : {h p q b b' b'' b''' : List ℕ} {at e f r : ℕ} → at + (length h + length p + 4) ≤ length b
    → PutsIfRoom b at h e b' → PutsIfRoom b' e p f b'' → q ≡ bytes_of 4 (crc32 (take (f - at) (drop at b''))) → PutsIfRoom b'' f q r b'''
    → Puts b at (sealed (h ++ p)) r b'''
unfolding sealed
puts_sealed {h} {p} {q} room first second sum third =
    let header = first.fits (omega arith) in
    let both = puts_then header (second.fits (omega (arith, header.end, puts_length header))) in
    let is : q ≡ bytes_of 4 (crc32 (h ++ p)) = rw (puts_read both) at sum in
    let four : length q ≡ 4 = rw is (length_bytes_of 4 (crc32 (h ++ p))) in
    rw (← is) (puts_then both (third.fits (omega (arith, both.end, puts_length both, length-append h p))))
