-- The bytes stand where table 1 puts them, so each field reads what was written there, and the lengths say where the parts end.
use Prim.Native.Nat.{ℕ, ◌+◌, ◌*◌, ◌/◌, ◌%◌, ◌^◌, ◌≤◌, ◌<◌}
use native.Mathlib.Nat.{mod-eq_of_lt}
use native.Mathlib.Omega.{arith}
use mathlib.Core.Path.{◌≡◌, refl, sym, ap, ap₂, ◌∙◌}
use mathlib.Core.Logic.{inl, inr}
use mathlib.Core.List.{List, [], ◌∷◌, ◌++◌, append_assoc}
use mathlib.Core.Bool.{Bool, true, false, cond, not}
use lib.Arith.{digits_lt, digits_mod, lt-one}
use lib.ListN.{length, drop, length-append}
use lib.Seq.{drop_at, slice, take-length}
use lib.Dec.{eqb}
use borrow.Author.Tests.{le-ltb}
use Rattle.wire.specs.Bytes.{Bytes, number_at, bytes_of}
use Rattle.wire.specs.Choice.{pick, both, either}
use Rattle.wire.specs.Part.{part}
use Rattle.wire.proofs.Bytes.{append_bytes, bytes_of_bytes, cons_bytes, length_bytes_of, nil_bytes, number_at_bytes_of}
use Rattle.wire.proofs.Choice.{not_either}
use Rattle.pes_rules.specs.Packet.{pts_extension_flag, output_data_rate_flag, pes_data_packet_header_length, flagged, pts_extension, rate_offset, output_data_rate, private_offset, data_offset, wrong_size, other_identifier, wrong_flags, wrong_header_length, taken, read_of}
use Rattle.pes_rules.specs.Reading.{Reading}
use Rattle.pes_rules.specs.Written.{Conforms, extension_field, flags_byte, optional_fields, packet_of, PacketIsBytes, rate_field, reading_of, Stream, Values, WrittenIsRead}
use Rattle.pes_rules.proofs.Answer.{refusal_none, None, read_taken}

-- ---- byte 2
bit_flag : (x : ℕ) (flag : Bool) → x ≡ cond flag 1 0 → eqb x 1 ≡ flag
bit_flag x true e = rw e refl
bit_flag x false e = rw e refl

record Parts (b : ℕ) (e w : Bool) (r l : ℕ) : Type 0 where
  seven : b / 128 % 2 ≡ cond e 1 0
  six : b / 64 % 2 ≡ cond w 1 0
  between : b / 16 % 4 ≡ r
  low : b % 16 ≡ l
  fits : b < 256

parts : (e w : Bool) (r l : ℕ) → r < 4 → l < 16 → Parts (cond e 128 0 + cond w 64 0 + r * 16 + l) e w r l
parts true true r l h k =
    record { seven = omega arith; six = omega arith; between = omega arith; low = omega arith; fits = omega arith }
parts true false r l h k =
    record { seven = omega arith; six = omega arith; between = omega arith; low = omega arith; fits = omega arith }
parts false true r l h k =
    record { seven = omega arith; six = omega arith; between = omega arith; low = omega arith; fits = omega arith }
parts false false r l h k =
    record { seven = omega arith; six = omega arith; between = omega arith; low = omega arith; fits = omega arith }

-- ---- a field of n bytes after p: j high bits and k low bits
length_field : (flag : Bool) (n x : ℕ) → length (cond flag (bytes_of n x) []) ≡ flagged flag n
unfolding flagged pick
length_field true n x = length_bytes_of n x
length_field false n x = refl

field_bytes : (flag : Bool) (n x : ℕ) → Bytes (cond flag (bytes_of n x) [])
field_bytes true n x = bytes_of_bytes n x
field_bytes false n x = nil_bytes

module _ (n j k high low : ℕ) (p q : List ℕ) (w : 2 ^ j * 2 ^ k ≡ 256 ^ n) where
  abbrev joined : Bool → List ℕ
  joined flag = p ++ (cond flag (bytes_of n (high * 2 ^ k + low)) [] ++ q)

  whole : high < 2 ^ j → low < 2 ^ k
      → number_at n (p ++ (bytes_of n (high * 2 ^ k + low) ++ q)) (length p) ≡ high * 2 ^ k + low
  whole h l = number_at_bytes_of n (high * 2 ^ k + low) p q ∙ mod-eq_of_lt (rw (← w) (digits_lt h l))

  low_read : (flag : Bool) → high < 2 ^ cond flag j 0 → low < 2 ^ cond flag k 0
      → flagged flag (number_at n (joined flag) (length p) % 2 ^ k) ≡ low
  unfolding flagged pick
  low_read true h l = ap (λ (x : ℕ). x % 2 ^ k) (whole h l) ∙ digits_mod high l
  low_read false h l = sym (lt-one l)

-- ---- the packet
module _ (v : Values) (k : Conforms v) where
  abbrev s : List ℕ
  s = packet_of v

  abbrev front : List ℕ → List ℕ
  front l = v.data_identifier ∷ v.sub_stream_id ∷ flags_byte v ∷ l

  byte2 : Parts (flags_byte v) v.pts_extension_flag v.output_data_rate_flag v.reserved2 (length (optional_fields v))
  unfolding flags_byte
  byte2 =
      parts v.pts_extension_flag v.output_data_rate_flag v.reserved2 (length (optional_fields v)) k.before_length
      k.header

  extended : pts_extension_flag s ≡ v.pts_extension_flag
  unfolding packet_of
  extended = bit_flag _ v.pts_extension_flag byte2.seven

  rated : output_data_rate_flag s ≡ v.output_data_rate_flag
  unfolding packet_of
  rated = bit_flag _ v.output_data_rate_flag byte2.six

  header : pes_data_packet_header_length s ≡ length (optional_fields v)
  unfolding packet_of
  header = byte2.low

  -- ---- lengths
  length_extension : length (extension_field v) ≡ flagged v.pts_extension_flag 2
  unfolding extension_field
  length_extension = length_field v.pts_extension_flag 2 _

  length_rate : length (rate_field v) ≡ flagged v.output_data_rate_flag 4
  unfolding rate_field
  length_rate = length_field v.output_data_rate_flag 4 _

  offset_rate : rate_offset s ≡ length (front (extension_field v))
  offset_rate = rw extended (omega (arith, length_extension))

  offset_private : private_offset s ≡ length (front (extension_field v ++ rate_field v))
  offset_private = rw rated (omega (arith, offset_rate, length_rate, length-append (extension_field v) (rate_field v)))

  offset_data : data_offset s ≡ length (front (optional_fields v))
  offset_data = omega (arith, header)

  length_packet : length s ≡ length (front (optional_fields v)) + length v.data_bytes
  unfolding packet_of
  length_packet = omega (arith, length-append (optional_fields v) v.data_bytes)

  -- ---- parts
  body : s ≡ front (extension_field v ++ (rate_field v ++ (v.private_bytes ++ v.data_bytes)))
  unfolding packet_of optional_fields
  body =
      ap front
      (append_assoc (extension_field v) (rate_field v ++ v.private_bytes) v.data_bytes
      ∙ ap (λ (l : List ℕ). extension_field v ++ l) (append_assoc (rate_field v) v.private_bytes v.data_bytes))

  carried : slice (data_offset s) (length s) s ≡ v.data_bytes
  unfolding packet_of
  carried =
      ap (drop (data_offset s)) (take-length s)
      ∙ drop_at (front (optional_fields v)) v.data_bytes (data_offset s) (sym offset_data)

  -- ---- flagged fields
  abbrev after_extension : List ℕ
  after_extension = rate_field v ++ (v.private_bytes ++ v.data_bytes)

  abbrev after_rate : List ℕ
  after_rate = v.private_bytes ++ v.data_bytes

  extension_low : pts_extension s ≡ v.pts_extension
  unfolding extension_field
  extension_low =
      rw (extended, body)
      (low_read 2 7 9 v.reserved7 v.pts_extension (front []) after_extension refl
      v.pts_extension_flag k.before_extension k.extension)

  rate_low : output_data_rate s ≡ v.output_data_rate
  unfolding rate_field
  rate_low =
      rw (rated, offset_rate, body)
      (low_read 4 4 28 v.reserved4 v.output_data_rate (front (extension_field v)) after_rate refl
      v.output_data_rate_flag k.before_rate k.rate)

  -- ---- no line applies
  no40 : wrong_size s ≡ false
  no40 =
      let l : 3 ≤ length s = omega (arith, length_packet) in
      sym (not_either _ (le-ltb (length s) 3 l) (sym (le-ltb 65535 (length s) k.size)))

  no41 : other_identifier s ≡ false
  unfolding packet_of both
  no41 = go v.data_identifier k.stream
    where
      go : (n : ℕ) → Stream n v.pts_extension_flag v.output_data_rate_flag
          → both (not (eqb n 0x21)) (not (eqb n 0x22)) ≡ false
      go n (inl p) = rw p.0 refl
      go n (inr p) = rw p.0 refl

  no42 : wrong_flags s ≡ false
  unfolding packet_of both either
  no42 = rw (extended, rated) (go v.data_identifier v.pts_extension_flag v.output_data_rate_flag k.stream)
    where
      go : (n : ℕ) (e w : Bool) → Stream n e w
          → either (both (eqb n 0x21) (not e)) (both (eqb n 0x22) w) ≡ false
      go n e w (inl p) = rw (p.0, p.1) refl
      go n e w (inr p) = rw (p.0, p.1) refl

  no43 : wrong_header_length s ≡ false
  unfolding optional_fields
  no43 =
      let l = length-append (extension_field v) (rate_field v ++ v.private_bytes) in
      let m = length-append (rate_field v) v.private_bytes in
      let o = length-append (extension_field v) (rate_field v) in
      let a : private_offset s ≤ data_offset s = omega (arith, offset_private, offset_data, l, m, o) in
      let b : data_offset s ≤ length s = omega (arith, offset_data, length_packet) in
      sym (not_either _ (le-ltb (data_offset s) (private_offset s) a) (sym (le-ltb (length s) (data_offset s) b)))

  none : None s
  none = record { no40 = no40; no41 = no41; no42 = no42; no43 = no43 }

  -- ---- the packet is bytes
  identifier_lt : v.data_identifier < 256
  identifier_lt = go v.data_identifier k.stream
    where
      go : (n : ℕ) → Stream n v.pts_extension_flag v.output_data_rate_flag → n < 256
      go n (inl p) = omega (arith, p.0)
      go n (inr p) = omega (arith, p.0)

  bytes : Bytes s
  unfolding packet_of optional_fields extension_field rate_field
  bytes =
      let x = field_bytes v.pts_extension_flag 2 (v.reserved7 * 2 ^ 9 + v.pts_extension) in
      let y = field_bytes v.output_data_rate_flag 4 (v.reserved4 * 2 ^ 28 + v.output_data_rate) in
      let o = append_bytes (extension_field v) _ x (append_bytes (rate_field v) v.private_bytes y k.skipped) in
      let b = append_bytes (optional_fields v) v.data_bytes o k.carried in
      let l : List ℕ = optional_fields v ++ v.data_bytes in
      let c = cons_bytes v.sub_stream_id (flags_byte v ∷ l) k.sub_stream (cons_bytes (flags_byte v) l byte2.fits b) in
      cons_bytes v.data_identifier (v.sub_stream_id ∷ flags_byte v ∷ l) identifier_lt c

  -- ---- what is read
  reading : taken s ≡ reading_of v
  reading = rw (extension_low, rate_low) (rw (extended, rated, header) refl)

pub written_is_read : WrittenIsRead
written_is_read v k =
    let e : read_of (packet_of v) ≡ taken (packet_of v) = read_taken (packet_of v) (refusal_none (packet_of v) (none v k)) in
    record {
      reading = e ∙ reading v k;
      given = ap (λ (r : Reading). part r.offset (slice r.offset r.end (packet_of v))) e
          ∙ ap₂ (λ (n : ℕ) (l : List ℕ). part n l) (ap (λ (r : Reading). r.offset) (reading v k)) (carried v k);
    }

pub packet_is_bytes : PacketIsBytes
packet_is_bytes v k = bytes v k
