-- The twelve header bytes stand where table 3 puts them, so each field computes; the CRC_32 is written where it is read.
use Rattle.std.proofs.Common.{ℕ, ◌+◌, ◌-◌, ◌*◌, ◌/◌, ◌%◌, ◌≤◌, ◌<◌, arith, mod-eq_of_lt, ◌≡◌, refl, sym, ap, ◌∙◌, List, [], ◌∷◌, ◌++◌, append-nil, Bool, true, false, not, length, take, length-append, eqb, take_at, eq-eqb, le-ltb}
use Rattle.wire.specs.Bytes.{bits, byte_at, bytes_of, number_at}
use Rattle.wire.specs.Choice.{pick, both, either, first_of}
use Rattle.wire.proofs.Bytes.{length_bytes_of, number_at_bytes_of}
use Rattle.wire.proofs.Choice.{not_either, not_first}
use Rattle.rules.specs.declared.Address.{Address}
use Rattle.rules.specs.Check.{address_scrambled, check, check_lines, checksum_form, datagram_form, shared_lines, form_lines, not_current, order_lines, other_table, out_of_order, too_short, wrong_crc, wrong_length, wrong_syntax}
use Rattle.rules.specs.Crc.{crc32}
use Rattle.rules.specs.Section.{address, address_scrambling_control, crc_field, current_next_indicator, header, last_section_number, llc_snap_flag, payload, payload_scrambling_control, private_indicator, sealed, section_length, section_number, section_of, section_syntax_indicator, table_id}
use Rattle.rules.specs.Sound.{Limits, table3, Values}
use Rattle.rules.proofs.Crc.{crc32_lt}

-- ---- bytes with their CRC_32 after them
pub sealed_length : (s : List ℕ) → length (sealed s) ≡ length s + 4
unfolding sealed
sealed_length s = length-append s (bytes_of 4 (crc32 s)) ∙ rw (length_bytes_of 4 (crc32 s))

pub sealed_right : (s : List ℕ) → wrong_crc (sealed s) ≡ false
unfolding wrong_crc crc_field sealed
sealed_right s =
    let c : List ℕ = bytes_of 4 (crc32 s) in
    let index : length (s ++ c) - 4 ≡ length s = omega (arith, sealed_length s) in
    let field : number_at 4 (s ++ c) (length s) ≡ crc32 s =
    ap (λ (t : List ℕ). number_at 4 (s ++ t) (length s)) (sym (append-nil c)) ∙ number_at_bytes_of 4 (crc32 s) s [] ∙ mod-eq_of_lt (crc32_lt s) in
    rw (index, field, take_at s c (length s) refl, eq-eqb (crc32 s) (crc32 s) refl)

-- ---- byte 5, by its bits
-- bits 7-6, 5-4, 3-2, 1 and 0 of a byte that is written by them
pub record Byte5 (r p f x : ℕ) : Type 0 where
  pub reserved : x / 64 % 4 ≡ r
  pub scrambling : x / 16 % 4 ≡ p
  pub addressed : x / 4 % 4 ≡ 0
  pub llc_snap : x / 2 % 2 ≡ f
  pub current : x / 1 % 2 ≡ 1

byte5 : (r p f : ℕ) → r < 4 → p < 4 → f < 2 → Byte5 r p f (64 * r + 16 * p + 2 * f + 1)
byte5 r p f hr hp hf =
    record { reserved = omega arith; scrambling = omega arith; addressed = omega arith; llc_snap = omega arith; current = omega arith }

byte_5 : (r p : ℕ) (t : Bool) → r < 4 → p < 4 → Byte5 r p (pick t 1 0) (64 * r + 16 * p + pick t 2 0 + 1)
unfolding pick
byte_5 r p true hr hp = byte5 r p 1 hr hp (omega arith)
byte_5 r p false hr hp = byte5 r p 0 hr hp (omega arith)

flag_back : (t : Bool) → eqb (pick t 1 0) 1 ≡ t
unfolding pick
flag_back true = refl
flag_back false = refl

module _ (v : Values) where
  abbrev front : List ℕ
  front =
      0x3E ∷ (128 + 16 * v.reserved1 + bits 11 8 (length v.payload + 13)) ∷ bits 7 0 (length v.payload + 13)
      ∷ v.address.mac6 ∷ v.address.mac5 ∷ (64 * v.reserved5 + 16 * v.scrambling + pick v.llc_snap 2 0 + 1)
      ∷ v.number ∷ v.last ∷ v.address.mac4 ∷ v.address.mac3 ∷ v.address.mac2 ∷ v.address.mac1 ∷ v.payload

  size : length (table3 v) ≡ length v.payload + 16
  unfolding table3
  size = sealed_length front ∙ omega arith

  pub carried : payload (table3 v) ≡ v.payload
  unfolding payload table3 sealed
  carried =
      let e : length (table3 v) - 4 - 12 ≡ length v.payload = omega (arith, size) in
      ap (λ (n : ℕ). take n (v.payload ++ bytes_of 4 (crc32 front))) e ∙ take_at v.payload (bytes_of 4 (crc32 front)) (length v.payload) refl

  pub address_back : address (table3 v) ≡ v.address
  unfolding address table3 sealed
  address_back = refl

  pub number_back : section_number (table3 v) ≡ v.number
  unfolding section_number table3 sealed
  number_back = refl

  pub last_back : last_section_number (table3 v) ≡ v.last
  unfolding last_section_number table3 sealed
  last_back = refl

  module _ (l : Limits v) where
    pub bits_1 : bits 5 4 (byte_at (table3 v) 1) ≡ v.reserved1
    unfolding table3 sealed
    bits_1 = let n : ℕ = bits 11 8 (length v.payload + 13) in let h : n < 16 = omega arith in omega (arith, l.reserved1)

    pub b5 : Byte5 v.reserved5 v.scrambling (pick v.llc_snap 1 0) (byte_at (table3 v) 5)
    unfolding table3 sealed
    b5 = byte_5 v.reserved5 v.scrambling v.llc_snap l.reserved5 l.scrambling

    long : section_length (table3 v) ≡ length v.payload + 13
    unfolding section_length number_at table3 sealed
    long = omega (arith, l.size, l.reserved1)

    no12 : too_short datagram_form (table3 v) ≡ false
    unfolding too_short
    no12 = let m : 16 ≤ length (table3 v) = omega (arith, size) in le-ltb _ 16 m

    no13 : other_table datagram_form (table3 v) ≡ false
    unfolding other_table table_id table3 sealed
    no13 = refl

    no14 : wrong_length (table3 v) ≡ false
    unfolding wrong_length
    no14 =
        let e : section_length (table3 v) + 3 ≡ length (table3 v) = omega (arith, long, size) in
        let m : section_length (table3 v) ≤ 4093 = omega (arith, long, l.size) in
        sym (not_either _ (le-ltb 4093 _ m) (ap not (sym (eq-eqb _ _ e))))

    syntax_back : section_syntax_indicator (table3 v) ≡ 1
    unfolding section_syntax_indicator table3 sealed
    syntax_back = omega (arith, l.reserved1)

    private_back : private_indicator (table3 v) ≡ 0
    unfolding private_indicator table3 sealed
    private_back = omega (arith, l.reserved1)

    no24 : checksum_form datagram_form (table3 v) ≡ false
    unfolding checksum_form both
    no24 = rw syntax_back

    no15 : wrong_syntax datagram_form (table3 v) ≡ false
    unfolding wrong_syntax both either
    no15 = rw (syntax_back, private_back)

    no16 : wrong_crc (table3 v) ≡ false
    unfolding table3
    no16 = sealed_right front

    no17 : not_current (table3 v) ≡ false
    unfolding not_current current_next_indicator
    no17 = rw b5.current

    no18 : out_of_order (table3 v) ≡ false
    unfolding out_of_order section_number last_section_number table3 sealed
    no18 = le-ltb v.last v.number l.order

    no19 : address_scrambled (table3 v) ≡ false
    unfolding address_scrambled address_scrambling_control
    no19 = rw b5.addressed

    pub written_sound : check (table3 v) ≡ 0
    unfolding check check_lines shared_lines form_lines order_lines first_of
    written_sound =
        sym (not_first 12 _ no12 (not_first 13 _ no13 (not_first 14 _ no14 (not_first 24 _ no24 (not_first 15 _ no15
        (not_first 16 _ no16 (not_first 17 _ no17 (not_first 18 _ no18 (not_first 19 _ no19 refl)))))))))

    pub clear_back : payload_scrambling_control (table3 v) ≡ v.scrambling
    unfolding payload_scrambling_control
    clear_back = b5.scrambling

    pub flagged_back : llc_snap_flag (table3 v) ≡ v.llc_snap
    unfolding llc_snap_flag
    flagged_back = rw b5.llc_snap (flag_back v.llc_snap)

-- ---- what a sender writes: nothing scrambled, and ones in the reserved bits
abbrev pub sent : Address → Bool → ℕ → ℕ → List ℕ → Values
sent a llc_snap number last p =
    record { address = a; scrambling = 0; llc_snap = llc_snap; number = number; last = last; payload = p; reserved1 = 3; reserved5 = 3 }

pub sent_is : (a : Address) (llc_snap : Bool) (number last : ℕ) (p : List ℕ) → section_of a llc_snap number last p ≡ table3 (sent a llc_snap number last p)
unfolding section_of header table3 pick
sent_is a true number last p = refl
sent_is a false number last p = refl

pub sent_limits : (a : Address) (llc_snap : Bool) (number last : ℕ) (p : List ℕ) → number ≤ last → length p ≤ 4080 → Limits (sent a llc_snap number last p)
sent_limits a llc_snap number last p h k =
    record { scrambling = omega arith; reserved1 = omega arith; reserved5 = omega arith; order = h; size = k }

-- the section with these values is sound, is not scrambled, and gives each of them back
pub record Written (a : Address) (llc_snap : Bool) (number last : ℕ) (p : List ℕ) : Type 0 where
  pub sound : check (section_of a llc_snap number last p) ≡ 0
  pub size : length (section_of a llc_snap number last p) ≡ length p + 16
  pub addressed : address (section_of a llc_snap number last p) ≡ a
  pub clear : payload_scrambling_control (section_of a llc_snap number last p) ≡ 0
  pub flagged : llc_snap_flag (section_of a llc_snap number last p) ≡ llc_snap
  pub numbered : section_number (section_of a llc_snap number last p) ≡ number
  pub ending : last_section_number (section_of a llc_snap number last p) ≡ last
  pub carried : payload (section_of a llc_snap number last p) ≡ p

pub written_is_read : (a : Address) (llc_snap : Bool) (number last : ℕ) (p : List ℕ) → number ≤ last → length p ≤ 4080
    → Written a llc_snap number last p
written_is_read a llc_snap number last p h k =
    let v : Values = sent a llc_snap number last p in
    let l : Limits v = sent_limits a llc_snap number last p h k in
    let e : section_of a llc_snap number last p ≡ table3 v = sent_is a llc_snap number last p in
    record {
      sound = ap check e ∙ written_sound v l;
      size = ap length e ∙ size v;
      addressed = ap address e ∙ address_back v;
      clear = ap payload_scrambling_control e ∙ clear_back v l;
      flagged = ap llc_snap_flag e ∙ flagged_back v l;
      numbered = ap section_number e ∙ number_back v;
      ending = ap last_section_number e ∙ last_back v;
      carried = ap payload e ∙ carried v;
    }
