-- A section is sound where no line of the check applies, so each line's test is false of it, and the test says the fact.
use Rattle.std.proofs.lemmas.Bool.{eqb-false, not-false}
use Rattle.std.proofs.Common.{ℕ, ◌+◌, ◌-◌, ◌≤◌, arith, ◌≡◌, refl, List, false, not, length, take, length-take, length-drop, eqb, le-ltb, ltb-false, eqb-true}
use Rattle.wire.specs.Choice.{both, first, first_of, without}
use Rattle.wire.proofs.Choice.{either_false, none_first, none_parts}
use Rattle.rules.specs.Crc.{crc32}
use Rattle.rules.specs.Section.{address_scrambling_control, crc_field, crc_offset, current_next_indicator, last_section_number, payload, payload_scrambling_control, private_indicator, section_length, section_number, section_syntax_indicator, table_id}
use Rattle.rules.specs.Check.{too_short, other_table, wrong_length, wrong_syntax, wrong_crc, not_current, out_of_order, address_scrambled, datagram_form, form_lines, order_lines, shared_refusal, shared_lines, check_lines, check}
use Rattle.rules.specs.declared.Settings.{Settings}
use Rattle.rules.specs.Step.{own_refusal, own_lines, over_limit, payload_scrambled}
use Rattle.rules.specs.declared.Form.{Form}

-- ---- a section of a form to which none of 12 to 18 and 24 applies
pub record Unrefused (f : Form) (s : List ℕ) : Type 0 where
  pub long : f.fewest ≤ length s
  pub table : table_id s ≡ f.table
  pub short : length s ≤ 4096
  pub whole : section_length s + 3 ≡ length s
  pub syntax : section_syntax_indicator s ≡ 1
  pub private : both f.private (not (eqb (private_indicator s) 0)) ≡ false
  pub crc : crc_field s ≡ crc32 (take (crc_offset s) s)
  pub current : current_next_indicator s ≡ 0 → ⊥
  pub order : section_number s ≤ last_section_number s

pub unrefused : (f : Form) (s : List ℕ) → shared_refusal f s ≡ 0 → Unrefused f s
unfolding shared_refusal shared_lines form_lines order_lines without both too_short other_table wrong_length wrong_syntax wrong_crc not_current out_of_order
unrefused f s p =
    let parts = none_parts (form_lines f s) _ refl p in
    let t12 = none_first _ _ (omega arith) parts.0 in
    let t13 = none_first _ _ (omega arith) t12.1 in
    let t14 = none_first _ _ (omega arith) t13.1 in
    let t24 = none_first _ _ (omega arith) t14.1 in
    let t15 = none_first _ _ (omega arith) t24.1 in
    let t16 = none_first _ _ (omega arith) parts.1 in
    let t17 = none_first _ _ (omega arith) t16.1 in
    let t18 = none_first _ _ (omega arith) t17.1 in
    let lengths = either_false _ _ t14.0 in
    let indicators = either_false _ _ t15.0 in
    let high : section_length s ≤ 4093 = ltb-false _ _ lengths.0 in
    let same : section_length s + 3 ≡ length s = eqb-true _ _ (not-false _ lengths.1) in
    record {
      long = ltb-false _ _ t12.0;
      table = eqb-true _ _ (not-false _ t13.0);
      short = omega arith;
      whole = same;
      syntax = eqb-true _ _ (not-false _ indicators.0);
      private = indicators.1;
      crc = eqb-true _ _ (not-false _ t16.0);
      current = eqb-false _ _ t17.0;
      order = ltb-false _ _ t18.0;
    }

-- ---- what a sound section is
pub record Sound (s : List ℕ) : Type 0 where
  pub shared : Unrefused datagram_form s
  pub private : private_indicator s ≡ 0
  pub clear : address_scrambling_control s ≡ 0

pub sound : (s : List ℕ) → check s ≡ 0 → Sound s
unfolding check check_lines shared_refusal shared_lines form_lines order_lines without both address_scrambled
sound s p =
    let lines = none_parts (shared_lines datagram_form s) _ refl p in
    let shared : Unrefused datagram_form s = unrefused datagram_form s lines.0 in
    let t19 = none_first _ _ (omega arith) lines.1 in
    record {
      shared = shared;
      private = eqb-true _ _ (not-false _ shared.private);
      clear = eqb-true _ _ (not-false _ t19.0);
    }

pub payload_length : (s : List ℕ) → 16 ≤ length s → length (payload s) ≡ length s - 16
unfolding payload
payload_length s h = simp (length-take, length-drop) (omega arith)

pub payload_small : (s : List ℕ) → check s ≡ 0 → length (payload s) ≤ 4080
payload_small s p = let a : Sound s = sound s p in omega (arith, payload_length s a.shared.long, a.shared.short)

-- ---- neither 20 nor 21 applies
pub own_none : (c : Settings) (s : List ℕ) → own_refusal c s ≡ 0 → (payload_scrambling_control s ≡ 0) × (last_section_number s + 1 ≤ c.limit)
unfolding own_refusal own_lines payload_scrambled over_limit
own_none c s p =
    let t20 = none_first _ _ (omega arith) p in
    let t21 = none_first _ _ (omega arith) t20.1 in
    (eqb-true _ _ (not-false _ t20.0), ltb-false _ _ t21.0)

pub none_own : (c : Settings) (s : List ℕ) → payload_scrambling_control s ≡ 0 → last_section_number s + 1 ≤ c.limit → own_refusal c s ≡ 0
unfolding own_refusal own_lines payload_scrambled over_limit first_of first
none_own c s e h = rw (e, le-ltb c.limit (last_section_number s + 1) h)
