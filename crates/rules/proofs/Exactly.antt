-- What is sound is what table 3 writes for the values read, and what table 3 writes is sound and read back as it was written.
use Rattle.std.proofs.Common.{◌≡◌, ap, sym, ◌∙◌}
use Rattle.wire.specs.Bytes.{bits, byte_at}
use Rattle.rules.specs.Check.{check}
use Rattle.rules.specs.Section.{address, last_section_number, llc_snap_flag, payload, payload_scrambling_control, section_number}
use Rattle.rules.specs.Sound.{Limits, SoundExactly, table3, Values}
use Rattle.rules.proofs.Read.{read, read_is, read_limits}
use Rattle.rules.proofs.Written.{b5, bits_1, carried, clear_back, flagged_back, last_back, number_back, address_back, written_sound}

pub read_back : (v : Values) → Limits v → read (table3 v) ≡ v
unfolding read
read_back v l =
    let addressed : address (table3 v) ≡ v.address = address_back v in
    let scrambling : payload_scrambling_control (table3 v) ≡ v.scrambling = clear_back v l in
    let llc_snap : llc_snap_flag (table3 v) ≡ v.llc_snap = flagged_back v l in
    let number : section_number (table3 v) ≡ v.number = number_back v in
    let last : last_section_number (table3 v) ≡ v.last = last_back v in
    let carries : payload (table3 v) ≡ v.payload = carried v in
    let reserved1 : bits 5 4 (byte_at (table3 v) 1) ≡ v.reserved1 = bits_1 v l in
    let reserved5 : bits 7 6 (byte_at (table3 v) 5) ≡ v.reserved5 = (b5 v l).reserved in
    λ i.
    record {
      address = addressed i;
      scrambling = scrambling i;
      llc_snap = llc_snap i;
      number = number i;
      last = last i;
      payload = carries i;
      reserved1 = reserved1 i;
      reserved5 = reserved5 i;
    }

pub sound_exactly : SoundExactly
sound_exactly s b = (
  λ p. record { values = read s; limits = read_limits s b p; is = sym (read_is s b p) },
  λ q. ap check q.is ∙ written_sound q.values q.limits,
)
