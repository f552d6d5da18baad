-- Each part of a packet that is answered 5 is the next stretch of its bytes: put side by side they are the packet.
use Prim.Native.Nat.{ℕ, zero, suc, ◌+◌, ◌*◌, ◌-◌, ◌/◌, ◌%◌, ◌^◌, ◌≤◌, ◌<◌}
use native.Mathlib.Nat.{mod-eq_of_lt}
use lib.Arith.{mod-mul}
use native.Mathlib.Omega.{arith}
use mathlib.Core.Path.{◌≡◌, refl, sym, ap, ◌∙◌}
use mathlib.Core.Logic.{inl, inr}
use mathlib.Core.List.{List, [], ◌∷◌, ◌++◌}
use mathlib.Core.Bool.{Bool, true, false, cond, not}
use lib.ListN.{length, take, drop, length-drop, take-append-drop}
use lib.Seq.{drop-drop, length-take-le, slice, take-add, take-length}
use lib.Dec.{eqb, lit<}
use borrow.Author.Tests.{eqb-true, ltb-false}
use Rattle.wire.specs.Bytes.{Bytes, byte_at, bits, number_at, bytes_of}
use Rattle.wire.proofs.Bytes.{bytes_of_number_at, number_at_lt}
use Rattle.wire.specs.Choice.{pick, both, either}
use Rattle.wire.proofs.Choice.{either_false, never}
use Rattle.pes_rules.specs.Packet.{data_identifier, sub_stream_id, pts_extension_flag, output_data_rate_flag, pes_data_packet_header_length, flagged, pts_extension, rate_offset, output_data_rate, private_offset, data_offset, read_of}
use Rattle.pes_rules.specs.Written.{Conforms, extension_field, flags_byte, optional_fields, packet_of, rate_field, Stream, Values, Written}
use Rattle.pes_rules.proofs.Answer.{answered, no_refusal, None, within}
use Rattle.pes_rules.proofs.Bytes.{slice_bytes, slice_is}

-- the values of a packet that no line applies to
abbrev taken_values : List ℕ → Values
taken_values s =
    record {
      data_identifier = data_identifier s;
      sub_stream_id = sub_stream_id s;
      pts_extension_flag = pts_extension_flag s;
      output_data_rate_flag = output_data_rate_flag s;
      reserved2 = bits 5 4 (byte_at s 2);
      reserved7 = flagged (pts_extension_flag s) (bits 15 9 (number_at 2 s 3));
      pts_extension = pts_extension s;
      reserved4 = flagged (output_data_rate_flag s) (bits 31 28 (number_at 4 s (rate_offset s)));
      output_data_rate = output_data_rate s;
      private_bytes = slice (private_offset s) (data_offset s) s;
      data_bytes = slice (data_offset s) (length s) s;
    }

-- ---- identifier and flags
stream_of : (n : ℕ) (e w : Bool) → both (not (eqb n 0x21)) (not (eqb n 0x22)) ≡ false
    → either (both (eqb n 0x21) (not e)) (both (eqb n 0x22) w) ≡ false
    → Stream n e w
unfolding both either
stream_of n e w = go (eqb n 0x21) (eqb n 0x22) e w refl refl
  where
    go : (t u e w : Bool) → eqb n 0x21 ≡ t → eqb n 0x22 ≡ u → both (not t) (not u) ≡ false
        → either (both t (not e)) (both u w) ≡ false → Stream n e w
    go true u true w a b h k = inl (eqb-true n 0x21 a, refl)
    go true u false w a b h k = absurd (never (sym k))
    go false true e true a b h k = absurd (never (sym k))
    go false true e false a b h k = inr (eqb-true n 0x22 b, refl)
    go false false e w a b h k = absurd (never (sym h))

-- ---- flagged numbers
flagged_lt : (flag : Bool) (x k : ℕ) → x < 2 ^ k → flagged flag x < 2 ^ cond flag k 0
unfolding flagged pick
flagged_lt true x k h = h
flagged_lt false x k h = lit< tt

-- a flag's bit
flag_bit : (x n : ℕ) → x < 2 → cond (eqb x 1) n 0 ≡ x * n
flag_bit zero n h = omega arith
flag_bit (suc zero) n h = omega arith
flag_bit (suc (suc x)) n h = absurd (omega arith)

-- the parts of byte 2
byte_parts : (b : ℕ) → b < 256 → b / 128 % 2 * 128 + b / 64 % 2 * 64 + b / 16 % 4 * 16 + b % 16 ≡ b
byte_parts b h =
    let p : b % 256 ≡ b / 128 % 2 * 128 + b % 128 = mod-mul b (lit< tt) (lit< tt) in
    let q : b % 128 ≡ b / 64 % 2 * 64 + b % 64 = mod-mul b (lit< tt) (lit< tt) in
    let r : b % 64 ≡ b / 16 % 4 * 16 + b % 16 = mod-mul b (lit< tt) (lit< tt) in
    omega (arith, mod-eq_of_lt h, p, q, r)

-- a field of n bytes at i, its k low bits and those above them put together again
field_is : (flag : Bool) (n i k high : ℕ) (s : List ℕ) → Bytes s → i + flagged flag n ≤ length s
    → high * 2 ^ k + number_at n s i % 2 ^ k ≡ number_at n s i
    → cond flag (bytes_of n (flagged flag high * 2 ^ k + flagged flag (number_at n s i % 2 ^ k))) []
    ≡ take (flagged flag n) (drop i s)
unfolding flagged pick
field_is true n i k high s h l e = ap (bytes_of n) e ∙ bytes_of_number_at n s i h l
field_is false n i k high s h l e = refl

-- three stretches side by side
stretches : (s : List ℕ) (a b c : ℕ)
    → take a (drop 3 s) ++ (take b (drop (3 + a) s) ++ take c (drop (3 + a + b) s)) ≡ take (a + (b + c)) (drop 3 s)
stretches s a b c =
    let d : drop (3 + a) s ≡ drop a (drop 3 s) = sym (drop-drop a 3 s) in
    let f : drop (3 + a + b) s ≡ drop b (drop a (drop 3 s)) = sym (drop-drop b (3 + a) s) ∙ ap (drop b) d in
    rw (d, f, take-add a (b + c) (drop 3 s), take-add b c (drop a (drop 3 s)))

three : (s : List ℕ) → 3 ≤ length s → byte_at s 0 ∷ byte_at s 1 ∷ byte_at s 2 ∷ drop 3 s ≡ s
three [] h = absurd (omega arith)
three (a ∷ []) h = absurd (omega arith)
three (a ∷ b ∷ []) h = absurd (omega arith)
three (a ∷ b ∷ c ∷ s) h = refl

-- ---- the packet
module _ (s : List ℕ) (h : Bytes s) (n : None s) where
  long : 3 ≤ length s
  long = ltb-false (length s) 3 (either_false _ _ n.no40).0

  short : length s ≤ 65535
  short = ltb-false 65535 (length s) (either_false _ _ n.no40).1

  order : private_offset s ≤ data_offset s
  order = ltb-false (data_offset s) (private_offset s) (either_false _ _ n.no43).0

  extension_is : extension_field (taken_values s) ≡ take (flagged (pts_extension_flag s) 2) (drop 3 s)
  unfolding extension_field
  extension_is =
      let l : 3 + flagged (pts_extension_flag s) 2 ≤ length s = omega (arith, order, within s n) in
      field_is (pts_extension_flag s) 2 3 9 (bits 15 9 (number_at 2 s 3)) s h l (omega (arith, number_at_lt 2 s 3 h))

  rate_is : rate_field (taken_values s) ≡ take (flagged (output_data_rate_flag s) 4) (drop (rate_offset s) s)
  unfolding rate_field
  rate_is =
      let x : ℕ = number_at 4 s (rate_offset s) in
      let l : rate_offset s + flagged (output_data_rate_flag s) 4 ≤ length s = omega (arith, order, within s n) in
      field_is (output_data_rate_flag s) 4 (rate_offset s) 28 (bits 31 28 x) s h l (omega (arith, number_at_lt 4 s (rate_offset s) h))

  optional_is : optional_fields (taken_values s) ≡ take (pes_data_packet_header_length s) (drop 3 s)
  unfolding optional_fields
  optional_is =
      let a : ℕ = flagged (pts_extension_flag s) 2 in
      let b : ℕ = flagged (output_data_rate_flag s) 4 in
      let k : a + (b + (data_offset s - private_offset s)) ≡ pes_data_packet_header_length s = omega (arith, order) in
      rw (extension_is, rate_is, slice_is (private_offset s) (data_offset s) s)
      (stretches s a b (data_offset s - private_offset s) ∙ ap (λ (m : ℕ). take m (drop 3 s)) k)

  header_is : length (optional_fields (taken_values s)) ≡ pes_data_packet_header_length s
  header_is =
      let l : pes_data_packet_header_length s ≤ length (drop 3 s) = omega (arith, within s n, length-drop 3 s) in
      ap length optional_is ∙ length-take-le (pes_data_packet_header_length s) (drop 3 s) l

  flags_is : flags_byte (taken_values s) ≡ byte_at s 2
  unfolding flags_byte
  flags_is =
      let b : ℕ = byte_at s 2 in
      let f7 : cond (pts_extension_flag s) 128 0 ≡ b / 128 % 2 * 128 = flag_bit (b / 128 % 2) 128 (omega arith) in
      let f6 : cond (output_data_rate_flag s) 64 0 ≡ b / 64 % 2 * 64 = flag_bit (b / 64 % 2) 64 (omega arith) in
      rw (f7, f6, header_is) (byte_parts b (h 2))

  data_is : slice (data_offset s) (length s) s ≡ drop (pes_data_packet_header_length s) (drop 3 s)
  data_is = ap (drop (data_offset s)) (take-length s) ∙ sym (drop-drop (pes_data_packet_header_length s) 3 s)

  written_is : packet_of (taken_values s) ≡ s
  unfolding packet_of
  written_is =
      rw (flags_is, optional_is, data_is, take-append-drop (pes_data_packet_header_length s) (drop 3 s)) (three s long)

  conforms : Conforms (taken_values s)
  conforms =
      record {
        stream = stream_of (data_identifier s) (pts_extension_flag s) (output_data_rate_flag s) n.no41 n.no42;
        sub_stream = h 1;
        before_length = omega arith;
        header = omega (arith, header_is);
        before_extension = flagged_lt (pts_extension_flag s) (bits 15 9 (number_at 2 s 3)) 7 (omega arith);
        extension = flagged_lt (pts_extension_flag s) (number_at 2 s 3 % 2 ^ 9) 9 (omega arith);
        before_rate = flagged_lt (output_data_rate_flag s) (bits 31 28 (number_at 4 s (rate_offset s))) 4 (omega arith);
        rate = flagged_lt (output_data_rate_flag s) (number_at 4 s (rate_offset s) % 2 ^ 28) 28 (omega arith);
        skipped = slice_bytes (private_offset s) (data_offset s) s h;
        carried = slice_bytes (data_offset s) (length s) s h;
        size = rw written_is short;
      }

pub taken_is_written : (s : List ℕ) → Bytes s → (read_of s).answer ≡ 5 → Written s
taken_is_written s h a =
    let n = no_refusal s (answered s a) in
    record { values = taken_values s; conforms = conforms s h n; is = written_is s h n }
