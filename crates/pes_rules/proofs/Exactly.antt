-- A packet is answered 5 exactly where no line applies, which is where table 1 writes it; and what a line refuses is given nothing of.
use Prim.Native.Nat.{ℕ}
use native.Mathlib.Decide.{ℕ_discrete}
use mathlib.Core.Path.{◌≡◌, refl, sym, ap, ◌∙◌}
use mathlib.Core.List.{List, [], ◌∷◌}
use lib.Dec.{lit<, lit≤}
use lib.Seq.{slice}
use mathlib.Core.Logic.{inl}
use Rattle.wire.specs.Bytes.{bytes_of}
use Rattle.wire.specs.Part.{part}
use Rattle.pes_rules.specs.Reading.{Reading}
use Rattle.pes_rules.specs.Packet.{refusal, read_of, refused}
use Rattle.pes_rules.specs.Written.{extension_field, flags_byte, Gives, optional_fields, OthersGiveNothing, packet_of, rate_field, SampleIsWritten, TakenExactly, zeros}
use Rattle.pes_rules.proofs.Answer.{read_refused, read_taken}
use Rattle.wire.proofs.Bytes.{cons_bytes, nil_bytes}
use Rattle.pes_rules.proofs.Read.{taken_is_written}
use Rattle.pes_rules.proofs.Written.{written_is_read}

pub taken_exactly : TakenExactly
taken_exactly s h = (
  taken_is_written s h,
  λ w. ap (λ (x : List ℕ). (read_of x).answer) (sym w.is) ∙ ap (λ (r : Reading). r.answer) (written_is_read w.values w.conforms).reading,
)

pub others_give_nothing : OthersGiveNothing
others_give_nothing s h = go (ℕ_discrete (refusal s) 0)
  where
    go : Dec (refusal s ≡ 0) → Gives s (zeros (read_of s).answer) (part 0 [])
    go (yes e) = absurd (h (ap (λ (r : Reading). r.answer) (read_taken s e)))
    go (no e) =
        let r : read_of s ≡ refused (refusal s) = read_refused s e in
        let z : zeros (refusal s) ≡ zeros (read_of s).answer = ap (λ (x : Reading). zeros x.answer) (sym r) in
        record { reading = r ∙ z; given = ap (λ (x : Reading). part x.offset (slice x.offset x.end s)) r }

pub sample_is_written : SampleIsWritten
unfolding packet_of flags_byte optional_fields extension_field rate_field bytes_of
sample_is_written = (
  record {
    stream = inl (refl, refl);
    sub_stream = lit< tt;
    before_length = lit< tt;
    header = lit< tt;
    before_extension = lit< tt;
    extension = lit< tt;
    before_rate = lit< tt;
    rate = lit< tt;
    skipped = nil_bytes;
    carried = cons_bytes 0xAA (0xBB ∷ []) (lit< tt) (cons_bytes 0xBB [] (lit< tt) nil_bytes);
    size = lit≤ tt;
  },
  refl,
)
