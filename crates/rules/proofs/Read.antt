-- Of a sound section each test says its fact: what the bits of a byte are, so what the byte is; and where the CRC_32 stands, what it is.
use Rattle.std.proofs.Math.Nat.{div-div-eq-div-mul}
use Rattle.std.proofs.lemmas.Bool.{eqb-false}
use Rattle.std.proofs.Common.{ℕ, ◌+◌, ◌-◌, ◌*◌, ◌/◌, ◌%◌, ◌≤◌, ◌<◌, arith, ◌≡◌, refl, sym, ap, ◌∙◌, Bool, true, false, List, ◌∷◌, ◌++◌, length, take, drop, length-drop, take-append-drop, eqb, take-add, take_all, eqb-true}
use Rattle.wire.specs.Bytes.{Bytes, bits, byte_at, bytes_of, number_at}
use Rattle.wire.specs.Choice.{pick}
use Rattle.wire.proofs.Bytes.{bytes_from, bytes_of_number_at, take_bytes}
use Rattle.rules.specs.Check.{check}
use Rattle.rules.specs.Crc.{crc32}
use Rattle.rules.specs.Section.{address, address_scrambling_control, crc_field, current_next_indicator, last_section_number, llc_snap_flag, payload, payload_scrambling_control, private_indicator, sealed, section_length, section_number, section_syntax_indicator, table_id}
use Rattle.rules.specs.Sound.{Limits, table3, Values}
use Rattle.rules.proofs.Sound.{payload_length, payload_small, Sound, sound}

-- ---- the values, read
unfoldable pub read : List ℕ → Values
read s =
    record {
      address = address s;
      scrambling = payload_scrambling_control s;
      llc_snap = llc_snap_flag s;
      number = section_number s;
      last = last_section_number s;
      payload = payload s;
      reserved1 = bits 5 4 (byte_at s 1);
      reserved5 = bits 7 6 (byte_at s 5);
    }

-- ---- the CRC_32 after what it is of
pub sealed_is : (s : List ℕ) → Bytes s → 4 ≤ length s → crc_field s ≡ crc32 (take (length s - 4) s) → sealed (take (length s - 4) s) ≡ s
unfolding sealed crc_field
sealed_is s b h e =
    let n : length (drop (length s - 4) s) ≤ 4 = omega (arith, length-drop (length s - 4) s) in
    ap (λ (x : ℕ). take (length s - 4) s ++ bytes_of 4 x) (sym e)
    ∙ ap (λ (l : List ℕ). take (length s - 4) s ++ l)
    (bytes_of_number_at 4 s (length s - 4) b (omega arith) ∙ take_all 4 (drop (length s - 4) s) n)
    ∙ take-append-drop (length s - 4) s

-- ---- a byte, by its bits
-- bits 7-6 are 10; x with y after it gives section_length
length_byte : (x y : ℕ) → x < 256 → y < 256 → x / 128 % 2 ≡ 1 → x / 64 % 2 ≡ 0 → 0x80 + 0x10 * (x / 16 % 4) + (x * 256 + y) % 4096 / 256 % 16 ≡ x
length_byte x y hx hy h7 h6 =
    let q7 : x / 128 ≡ 1 = omega arith in
    let q6 : x / 64 ≡ 2 = omega arith in
    let q4 : x / 16 % 4 + 8 ≡ x / 16 = omega arith in
    let low : (x * 256 + y) % 4096 ≡ x % 16 * 256 + y = omega arith in
    let high : (x % 16 * 256 + y) / 256 ≡ x % 16 = omega arith in
    let same : x % 16 % 16 ≡ x % 16 = omega arith in
    rw (low, high, same) (omega arith)

-- bits 3-2 are 00 and bit 0 is 1
flag_byte : (x k : ℕ) → x < 256 → x / 4 % 4 ≡ 0 → (x / 1 % 2 ≡ 0 → ⊥) → x / 2 % 2 ≡ k → 0x40 * (x / 64 % 4) + 0x10 * (x / 16 % 4) + 2 * k + 1 ≡ x
flag_byte x k hx h3 h0 h1 =
    let one : x % 2 ≡ 1 = omega arith in
    let by4 : x / 2 / 2 ≡ x / 4 = div-div-eq-div-mul x 2 2 in
    let by16 : x / 4 / 4 ≡ x / 16 = div-div-eq-div-mul x 4 4 in
    let by64 : x / 16 / 4 ≡ x / 64 = div-div-eq-div-mul x 16 4 in
    let low : x % 4 ≡ 2 * k + 1 = omega arith in
    let top : x / 64 % 4 ≡ x / 64 = omega arith in
    rw top (omega arith)

-- ---- the bytes of which not every bit is a field's
module _ (s : List ℕ) (b : Bytes s) (p : check s ≡ 0) where
  f : Sound s
  f = sound s p

  -- section_length, by the bytes that it counts
  counted : (byte_at s 1 * 256 + byte_at s 2) % 4096 ≡ length (payload s) + 13
  unfolding section_length number_at
  counted =
      let two : number_at 2 s 1 ≡ byte_at s 1 * 256 + byte_at s 2 = omega arith in
      ap (λ (n : ℕ). n % 4096) (sym two) ∙ omega (arith, f.shared.whole, f.shared.long, payload_length s f.shared.long)

  byte_1 : 0x80 + 0x10 * bits 5 4 (byte_at s 1) + bits 11 8 (length (payload s) + 13) ≡ byte_at s 1
  unfolding section_syntax_indicator private_indicator
  byte_1 = rw (← counted) (length_byte (byte_at s 1) (byte_at s 2) (b 1) (b 2) f.shared.syntax f.private)

  byte_2 : bits 7 0 (length (payload s) + 13) ≡ byte_at s 2
  byte_2 = rw (← counted) (omega (arith, b 1, b 2))

  byte_5 : 0x40 * bits 7 6 (byte_at s 5) + 0x10 * payload_scrambling_control s + pick (llc_snap_flag s) 2 0 + 1 ≡ byte_at s 5
  unfolding payload_scrambling_control address_scrambling_control current_next_indicator llc_snap_flag pick
  byte_5 = go (eqb (byte_at s 5 / 2 % 2) 1) refl
    where
      go : (t : Bool) → eqb (byte_at s 5 / 2 % 2) 1 ≡ t
          → 0x40 * bits 7 6 (byte_at s 5) + 0x10 * (byte_at s 5 / 16 % 4) + pick t 2 0 + 1 ≡ byte_at s 5
      go true e = flag_byte (byte_at s 5) 1 (b 5) f.clear f.shared.current (eqb-true _ _ e)
      go false e =
          let other : byte_at s 5 / 2 % 2 ≡ 1 → ⊥ = eqb-false _ _ e in
          flag_byte (byte_at s 5) 0 (b 5) f.clear f.shared.current (omega arith)

  -- ---- the section
  -- from byte 1 up to the CRC_32
  tail : List ℕ
  tail =
      byte_at s 1 ∷ byte_at s 2 ∷ byte_at s 3 ∷ byte_at s 4 ∷ byte_at s 5 ∷ byte_at s 6 ∷ byte_at s 7 ∷ byte_at s 8 ∷ byte_at s 9 ∷ byte_at s 10
      ∷ byte_at s 11 ∷ payload s

  front_is : byte_at s 0 ∷ tail ≡ take (length s - 4) s
  unfolding tail payload bytes_from
  front_is =
      let e : 12 + (length s - 4 - 12) ≡ length s - 4 = omega (arith, f.shared.long) in
      ap (λ (l : List ℕ). l ++ take (length s - 4 - 12) (drop 12 s)) (sym (take_bytes 12 0 s (omega (arith, f.shared.long))))
      ∙ sym (take-add 12 (length s - 4 - 12) s)
      ∙ ap (λ (k : ℕ). take k s) e

  -- table 3 writes it for the values read
  pub read_is : table3 (read s) ≡ s
  unfolding table3 read tail address section_number last_section_number table_id
  read_is =
      rw (byte_1, byte_2, byte_5)
      (ap (λ (x : ℕ). sealed (x ∷ tail)) (sym f.shared.table) ∙ ap sealed front_is ∙ sealed_is s b (omega (arith, f.shared.long)) f.shared.crc)

  pub read_limits : Limits (read s)
  unfolding read payload_scrambling_control
  read_limits =
      record { scrambling = omega arith; reserved1 = omega arith; reserved5 = omega arith; order = f.shared.order; size = payload_small s p }
