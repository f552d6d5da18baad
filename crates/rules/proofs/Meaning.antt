-- Each line of a table tests what its row means, so the first line that applies has the number of the first row that does.
use mathlib.Core.List.{flatten}
use Rattle.std.proofs.Math.Bool.{beq}
use Rattle.std.proofs.lemmas.Bool.{false≢true, eqb-false, lt-leb, not-false, not-true}
use Rattle.std.proofs.lemmas.Bool.Decides.{Decides-ltb, Decides-eqb, Decides-not}
use Rattle.std.proofs.Common.{Decides, ℕ, zero, suc, ◌+◌, ◌*◌, ◌-◌, ◌≤◌, ◌<◌, min, arith, ◌≡◌, refl, sym, ap, subst, ◌∙◌, ◌↔◌, ◌≢◌, ◌⊎◌, inl, inr, ⊎_elim, List, [], ◌∷◌, ◌++◌, Bool, true, false, not, length, take, eqb, leb, ltb, eqb-true, leb-false, leb-true, ltb-false, ne_eqb, Option, Some, None}
use Rattle.wire.specs.Bytes.{bit, bits, byte_at, number_at}
use Rattle.wire.specs.Choice.{pick, both, Line, first, first_of, without}
use Rattle.wire.specs.Meaning.{Row, ◌means◌}
use Rattle.wire.proofs.Choice.{both_true, not_first}
use Rattle.wire.proofs.Meaning.{Gives, gives_last, gives_row, or_else_is, or_zero, or_else, tells_both, tells_either, tells_le, tells_outside}
use Rattle.rules.specs.declared.Address.{Address}
use Rattle.rules.specs.Answers.{PassedBy, Stored}
use Rattle.rules.specs.declared.Form.{Form}
use Rattle.rules.specs.declared.Key.{Key}
use Rattle.rules.specs.declared.Settings.{Settings}
use Rattle.rules.specs.declared.State.{State}
use Rattle.rules.specs.declared.State.TheVariants.{Idle, Open}
use Rattle.rules.specs.Address.{same_address}
use Rattle.rules.specs.Check.{address_scrambled, check, check_lines, checksum_form, datagram_form, shared_refusal, shared_lines, form_lines, not_current, order_lines, other_table, out_of_order, too_short, wrong_crc, wrong_length, wrong_syntax}
use Rattle.rules.specs.Crc.{crc32}
use Rattle.rules.specs.Meaning.{CheckMeans, CutInto, filled_before, GoesOn, GoodState, DefaultMeans, InChecksumForm, joined_up, Own, printed, ReceiverMeans, section_rows, SenderMeans, stored, rows12to14, rows16to18}
use Rattle.rules.specs.Section.{address, address_scrambling_control, crc_field, current_next_indicator, last_section_number, llc_snap_flag, payload, payload_scrambling_control, private_indicator, section_length, section_number, section_syntax_indicator, table_id}
use Rattle.rules.specs.Step.{own_lines, continues, From, good_run, good_state, joined_with, keep, key_of, laid, lay, Nowhere, number_of, onward, ours, Outcome, outcome, over_limit, payload_scrambled, fill_from, refuse, refuse_first, room, same_key, setup_lines, step_of, finish, up_to}
use Rattle.rules.proofs.Compared.{compares_all, compares_last}
use Rattle.rules.proofs.Good.{good_is}
use Rattle.rules.specs.Send.{section_count, sections, sending_number, send_lines, SendOutcome, sent_of, written}
use Rattle.rules.proofs.Send.{cut, one_cut, sections_bytes}
use Rattle.rules.specs.UnitEnd.{NoDatagram, unit_end}
use Rattle.rules.proofs.Sound.{payload_length}
use Rattle.rules.proofs.UnitEnd.{endless, unit_endless, unit_not_one}

-- ---- 12 to 18 and 24, for any table
-- the rows at 15's place give the numbers of the two lines there
pub record Place15 (f : Form) (s : List ℕ) (syntax : List Row) : Type 1 where
  pub gives : {k : ℕ} {later : List Row} → (checksum_form f s ≡ false → wrong_syntax f s ≡ false → Gives k later)
      → Gives (first (checksum_form f s) 24 (first (wrong_syntax f s) 15 k)) (syntax ++ later)

pub gives_refusal : {syntax : List Row} (f : Form) (s : List ℕ) (m : ℕ) (rest : List Row) → Place15 f s syntax
    → (shared_refusal f s ≡ 0 → f.fewest ≤ length s → Gives m rest) → Gives (or_else (shared_lines f s) m) (rows12to14 f.fewest f.table s ++ (syntax ++ (rows16to18 s ++ rest)))
unfolding or_else shared_refusal shared_lines form_lines order_lines first_of too_short other_table wrong_length wrong_crc not_current out_of_order table_id section_length crc_field current_next_indicator section_number last_section_number
gives_refusal f s m rest place g =
    gives_row _ 12 (Decides-ltb (length s) f.fewest) (λ e12.
    gives_row _ 13 (Decides-not _ (Decides-eqb (byte_at s 0) f.table)) (λ e13.
    gives_row _ 14 (tells_either _ _ (Decides-ltb 4093 (section_length s)) (Decides-not _ (Decides-eqb (section_length s + 3) (length s)))) (λ e14.
    place.gives (λ e24 e15.
    gives_row _ 16 (Decides-not _ (Decides-eqb (number_at 4 s (length s - 4)) (crc32 (take (length s - 4) s)))) (λ e16.
    gives_row _ 17 (Decides-eqb (bit 0 (byte_at s 5)) 0) (λ e17.
    gives_row _ 18 (Decides-ltb (byte_at s 7) (byte_at s 6)) (λ e18.
    g
    (sym
    (not_first 12 _ e12 (not_first 13 _ e13 (not_first 14 _ e14 (not_first 24 _ e24 (not_first 15 _ e15
    (not_first 16 _ e16 (not_first 17 _ e17 (not_first 18 _ e18 refl)))))))))
    (ltb-false _ _ e12))))))))

-- ---- 24 and 15
-- the four pairs of two bits: what document 01 calls 15 is the checksum form, or two that are equal
indicators : (x y : ℕ) → x < 2 → y < 2 → ((x ≢ 1) ⊎ (y ≢ 0)) ↔ (((x ≡ 0) × (y ≡ 1)) ⊎ (x ≡ y))
indicators zero zero h k = (λ _. inr refl, λ _. inl (λ e. omega (arith, e)))
indicators zero (suc zero) h k = (λ _. inl (refl, refl), λ _. inl (λ e. omega (arith, e)))
indicators (suc zero) zero h k =
    (⊎_elim (λ n. absurd (n refl)) (λ n. absurd (n refl)), ⊎_elim (λ c. absurd (omega (arith, c.0))) (λ e. absurd (omega (arith, e))))
indicators (suc zero) (suc zero) h k = (λ _. inr refl, λ _. inr (λ e. omega (arith, e)))
indicators zero (suc (suc y)) h k = absurd (omega arith)
indicators (suc zero) (suc (suc y)) h k = absurd (omega arith)
indicators (suc (suc x)) y h k = absurd (omega arith)

pub indicated : (s : List ℕ) → ((bit 7 (byte_at s 1) ≢ 1) ⊎ (bit 6 (byte_at s 1) ≢ 0)) ↔ (InChecksumForm s ⊎ (bit 7 (byte_at s 1) ≡ bit 6 (byte_at s 1)))
indicated s = indicators _ _ (omega arith) (omega arith)

-- the line of 15 tells two equal bits where that of 24 does not apply
datagram_syntax : (s : List ℕ) → Place15 datagram_form s (24 means InChecksumForm s ∷ 15 means (bit 7 (byte_at s 1) ≡ bit 6 (byte_at s 1)) ∷ [])
unfolding checksum_form wrong_syntax section_syntax_indicator private_indicator both
datagram_syntax s =
    let checksum = tells_both _ _ (Decides-eqb (bit 7 (byte_at s 1)) 0) (Decides-eqb (bit 6 (byte_at s 1)) 1) in
    let wrong = tells_either _ _ (Decides-not _ (Decides-eqb (bit 7 (byte_at s 1)) 1)) (Decides-not _ (Decides-eqb (bit 6 (byte_at s 1)) 0)) in
    record {
      gives = λ g.
          gives_row _ 24 checksum (λ e24.
          gives_row _ 15 (
            λ p. ⊎_elim (λ c. absurd (false≢true (sym e24 ∙ checksum.1 c))) (λ e. e) ((indicated s).0 (wrong.0 p)),
            λ e. wrong.1 ((indicated s).1 (inr e)),
          ) (g e24));
    }

-- ---- the datagram section: 12 to 19 and 24
gives_check : (s : List ℕ) (m : ℕ) (rest : List Row) → (16 ≤ length s → Gives m rest)
    → Gives (or_else (check_lines s) m) (section_rows s ++ rest)
unfolding or_else check_lines shared_lines form_lines order_lines address_scrambled address_scrambling_control
gives_check s m rest g =
    gives_refusal datagram_form s (first (address_scrambled s) 19 m) _ (datagram_syntax s)
    (λ _ l. gives_row _ 19 (Decides-not _ (Decides-eqb (bits 3 2 (byte_at s 5)) 0)) (λ _. g l))

pub check_means : CheckMeans
unfolding check
check_means s n = rw (or_zero (check_lines s)) ((gives_check s 0 _ (λ _. gives_last 0 tt)).exactly n)

-- ---- states, addresses
own_tells : (c : Settings) (a : Address) → Decides (same_address c.range c.address a) (Own c a)
own_tells c a = compares_last c.range c.address a

pub state_tells : (c : Settings) (σ : State) → Decides (good_state c σ) (GoodState c σ)
unfolding good_state GoodState good_run
state_tells c Idle = (λ _. tt, λ _. refl)
state_tells c (Open e f κ) =
    let numbers = tells_both _ _ (tells_le 1 e) (tells_both _ _ (tells_le e κ.last) (tells_le κ.last 254)) in
    let bytes = tells_both _ _ (tells_le f 65535) (tells_le f (4080 * e)) in
    let t = tells_both _ _ (tells_both _ _ numbers bytes) (own_tells c κ.address) in
    (λ p. let w = t.0 p in (w.0.0.0, w.0.0.1.0, w.0.0.1.1, w.0.1.0, w.0.1.1, w.1), λ w. t.1 (((w.0, (w.1, w.2)), (w.3, w.4)), w.5))

ours_tells : (c : Settings) (s : List ℕ) → Decides (ours c s) (Own c (printed s))
unfolding ours address
ours_tells c s = own_tells c (address s)

-- ---- a run that goes on
flag_tells : (x : ℕ) (t : Bool) → x < 2 → Decides (beq (eqb x 1) t) (x ≡ pick t 1 0)
unfolding pick
flag_tells x t h = go (eqb x 1) refl t
  where
    go : (r : Bool) → eqb x 1 ≡ r → (t : Bool) → Decides (beq r t) (x ≡ pick t 1 0)
    go true e true = (λ _. eqb-true x 1 e, λ _. refl)
    go true e false = (λ z. absurd (false≢true z), λ q. let one : x ≡ 1 = eqb-true x 1 e in absurd (omega arith))
    go false e true = (λ z. absurd (false≢true z), λ q. absurd (eqb-false x 1 e q))
    go false e false = let other : x ≡ 1 → ⊥ = eqb-false x 1 e in (λ _. omega arith, λ _. refl)

continues_tells : (e f : ℕ) (κ : Key) (s : List ℕ) → Decides (continues e κ s) (GoesOn (Open e f κ) s)
unfolding continues same_key key_of GoesOn address section_number last_section_number llc_snap_flag
continues_tells e f κ s =
    let numbers = tells_both _ _ (Decides-eqb (byte_at s 7) κ.last) (flag_tells (bit 1 (byte_at s 5)) κ.llc_snap (omega arith)) in
    let t = tells_both _ _ (Decides-eqb (byte_at s 6) e) (tells_both _ _ (compares_all (address s) κ.address) numbers) in
    (λ p. let w = t.0 p in (w.0, w.1.1.0, w.1.1.1, w.1.0), λ w. t.1 (w.0, (w.3, (w.1, w.2))))

-- ---- the number of an outcome
abbrev number : Outcome → ℕ
number o = number_of o.step.answer

number_pick : (t : Bool) (o r : Outcome) → number (pick t o r) ≡ pick t (number o) (number r)
unfolding pick
number_pick true o r = refl
number_pick false o r = refl

number_refused : (lines : List Line) (b : List ℕ) (o : Outcome) → without 0 lines ≡ true → number (refuse_first lines b o) ≡ or_else lines (number o)
unfolding refuse_first number_of
number_refused lines b o h = number_pick (eqb (first_of lines) 0) o (refuse (first_of lines) b) ∙ or_else_is lines (number o) h

pick_first : (t : Bool) (k m : ℕ) → pick t m k ≡ first (not t) k m
unfolding pick first
pick_first true k m = refl
pick_first false k m = refl

tells_over : (x r : ℕ) → Decides (not (leb x r)) (r < x)
tells_over x r = (λ p. leb-false x r (not-true _ p), λ h. ap not (lt-leb x r h))

pub filled_zero : (σ : State) (i : ℕ) → i ≡ 0 → filled_before σ i ≡ 0
unfolding filled_before
filled_zero σ i e = rw e

pub filled_open : (e f : ℕ) (κ : Key) (i : ℕ) → i ≢ 0 → filled_before (Open e f κ) i ≡ f
unfolding filled_before
filled_open e f κ zero h = absurd (h refl)
filled_open e f κ (suc i) h = refl

pub stored_is : (s : List ℕ) → payload s ≡ stored s
unfolding payload
stored_is s = let e : length s - 4 - 12 ≡ length s - 16 = omega arith in rw e

check_numbered : (s : List ℕ) → without 0 (check_lines s) ≡ true
unfolding without both check_lines shared_lines form_lines order_lines
check_numbered s = refl

module _ (s b : List ℕ) where
  abbrev row22 : State → Row
  row22 σ = 22 means ((byte_at s 6 ≢ 0) × (¬ GoesOn σ s))

  abbrev rows23 : State → List Row
  rows23 σ =
      23 means (min 65535 (length b) < filled_before σ (byte_at s 6) + (length s - 16))
      ∷ 25 means ((byte_at s 6 ≡ byte_at s 7) × (bit 1 (byte_at s 5) ≡ 0) × NoDatagram (joined_up σ s b))
      ∷ 1 means (byte_at s 6 ≢ byte_at s 7)
      ∷ 0 means (byte_at s 6 ≡ byte_at s 7)
      ∷ []

  -- 25's line: the section is the last, and the unit has no end
  abbrev unended : ℕ → Bool
  unended f = both (eqb (byte_at s 6) (byte_at s 7)) (endless (unit_end (llc_snap_flag s) (joined_with f s b)))

  number_kept : (f : ℕ) → number (keep f s b) ≡ first (unended f) 25 (first (not (eqb (byte_at s 6) (byte_at s 7))) 1 0)
  unfolding keep finish up_to number_of section_number last_section_number pick both first endless
  number_kept f = go (eqb (byte_at s 6) (byte_at s 7)) (unit_end (llc_snap_flag s) (joined_with f s b))
    where
      go : (t : Bool) (e : Option ℕ) → number (pick t (up_to e b (laid f s b)) (outcome Stored (Open (section_number s + 1) (f + length (payload s)) (key_of s)) (laid f s b)))
          ≡ first (both t (endless e)) 25 (first (not t) 1 0)
      go true (Some n) = refl
      go true None = refl
      go false e = refl

  unended_tells : (f : ℕ) → Decides (unended f) ((byte_at s 6 ≡ byte_at s 7) × (bit 1 (byte_at s 5) ≡ 0) × NoDatagram (take f b ++ stored s))
  unfolding joined_with llc_snap_flag
  unended_tells f =
      let t = tells_both _ _ (Decides-eqb (byte_at s 6) (byte_at s 7)) (unit_endless (llc_snap_flag s) (take f b ++ payload s)) in
      let off : (bit 1 (byte_at s 5) ≡ 1 → ⊥) → bit 1 (byte_at s 5) ≡ 0 = λ n. omega arith in
      rw (← stored_is s) (
        λ q. let w = t.0 q in (w.0, off (eqb-false _ _ w.1.0), w.1.1),
        λ w. t.1 (w.0, (ne_eqb (bit 1 (byte_at s 5)) 1 (λ one. omega (arith, one, w.1)), w.2)),
      )

  number_laid : (f : ℕ) → number (lay (From f) s b) ≡ first (not (leb (f + length (payload s)) (min 65535 (length b)))) 23 (number (keep f s b))
  unfolding lay number_of room
  number_laid f = number_pick (leb (f + length (payload s)) (min 65535 (length b))) _ _ ∙ pick_first (leb (f + length (payload s)) (min 65535 (length b))) 23 (number (keep f s b))

  gives_laid : (σ : State) (f : ℕ) → filled_before σ (byte_at s 6) ≡ f → 16 ≤ length s → Gives (number (lay (From f) s b)) (rows23 σ)
  gives_laid σ f e l =
      rw (number_laid f, number_kept f, payload_length s l, e)
      (gives_row _ 23 (tells_over (f + (length s - 16)) (min 65535 (length b))) (λ _.
      gives_row _ 25 (unended_tells f) (λ _.
      gives_row _ 1 (Decides-not _ (Decides-eqb (byte_at s 6) (byte_at s 7))) (λ z.
      gives_last 0 (eqb-true _ _ (not-false _ z))))))

  stopped : (σ : State) → byte_at s 6 ≢ 0 → (¬ GoesOn σ s) → Gives 22 (row22 σ ∷ rows23 σ)
  unfolding first
  stopped σ e h = gives_row {m = 0} true 22 (λ _. (e, h), λ _. refl) (λ z. absurd (false≢true (sym z)))

  gives_onward : (σ : State) → byte_at s 6 ≢ 0 → 16 ≤ length s → Gives (number (lay (onward σ s) s b)) (row22 σ ∷ rows23 σ)
  unfolding onward lay pick number_of first GoesOn
  gives_onward Idle e l = stopped Idle e (λ w. w)
  gives_onward (Open n f κ) e l = go (continues n κ s) (continues_tells n f κ s)
    where
      go : (t : Bool) → Decides t (GoesOn (Open n f κ) s) → Gives (number (lay (pick t (From f) Nowhere) s b)) (row22 (Open n f κ) ∷ rows23 (Open n f κ))
      go true h =
          gives_row false 22 (λ z. absurd (false≢true z), λ w. absurd (w.1 (h.0 refl))) (λ _. gives_laid (Open n f κ) f (filled_open n f κ (byte_at s 6) e) l)
      go false h = stopped (Open n f κ) e (λ w. false≢true (h.1 w))

  gives_filled : (σ : State) → 16 ≤ length s → Gives (number (lay (fill_from σ s) s b)) (row22 σ ∷ rows23 σ)
  unfolding fill_from section_number pick first
  gives_filled σ l = go (eqb (byte_at s 6) 0) refl
    where
      go : (t : Bool) → eqb (byte_at s 6) 0 ≡ t → Gives (number (lay (pick t (From 0) (onward σ s)) s b)) (row22 σ ∷ rows23 σ)
      go true e =
          let zero : byte_at s 6 ≡ 0 = eqb-true _ _ e in
          gives_row false 22 (λ z. absurd (false≢true z), λ w. absurd (w.0 zero)) (λ _. gives_laid σ 0 (filled_zero σ (byte_at s 6) zero) l)
      go false e = gives_onward σ (eqb-false _ _ e) l

module _ (c : Settings) (σ : State) (s b : List ℕ) where
  abbrev laid_out : Outcome
  laid_out = lay (fill_from σ s) s b

  number_ours : number (pick (ours c s) (refuse_first (own_lines c s) b laid_out) (outcome PassedBy σ b))
      ≡ first (not (ours c s)) 2 (or_else (own_lines c s) (number laid_out))
  unfolding number_of without own_lines both
  number_ours =
      number_pick (ours c s) (refuse_first (own_lines c s) b laid_out) (outcome PassedBy σ b)
      ∙ ap (λ (m : ℕ). pick (ours c s) m 2) (number_refused (own_lines c s) b laid_out refl)
      ∙ pick_first (ours c s) 2 _

  number_step : number (step_of c σ s b) ≡ or_else (setup_lines c σ) (or_else (check_lines s) (first (not (ours c s)) 2 (or_else (own_lines c s) (number laid_out))))
  unfolding setup_lines step_of without both
  number_step =
      number_refused (setup_lines c σ) b _ refl
      ∙ ap (or_else (setup_lines c σ)) (number_refused (check_lines s) b _ (check_numbered s) ∙ ap (or_else (check_lines s)) number_ours)

pub receiver_means : ReceiverMeans
unfolding or_else setup_lines own_lines payload_scrambled over_limit payload_scrambling_control last_section_number
receiver_means c σ s b n =
    rw (number_step c σ s b)
    ((gives_row _ 10 (Decides-not _ (good_is c)) (λ _.
    gives_row _ 11 (Decides-not _ (state_tells c σ)) (λ _.
    gives_check s _ _ (λ l.
    gives_row _ 2 (Decides-not _ (ours_tells c s)) (λ _.
    gives_row _ 20 (Decides-not _ (Decides-eqb (bits 5 4 (byte_at s 5)) 0)) (λ _.
    gives_row _ 21 (Decides-ltb c.limit (byte_at s 7 + 1)) (λ _. gives_filled s b σ l))))))).exactly n)

-- ---- the sender
module _ (n : ℕ) (u : List ℕ) (some : 0 < n) where
  -- what is tested of their number is so of the number that the unit is cut into
  counted : (t : Bool) (P : ℕ → Type 0) → Decides t (P (section_count n u)) → Decides t ((k : ℕ) × CutInto n u k × P k)
  counted t P h = (λ e. (section_count n u, cut n u some, h.0 e), λ w. h.1 (subst P (one_cut n u some w.0 w.1) w.2))

sending_pick : (t : Bool) (o r : SendOutcome) → sending_number (pick t o r).sending ≡ pick t (sending_number o.sending) (sending_number r.sending)
unfolding pick
sending_pick true o r = refl
sending_pick false o r = refl

number_sent : (c : Settings) (llc_snap : Bool) (size : ℕ) (u out : List ℕ)
    → sending_number (sent_of c llc_snap size u out).sending ≡ or_else (send_lines c llc_snap size u out) 0
unfolding sent_of sending_number written without both send_lines
number_sent c llc_snap size u out =
    sending_pick (eqb (first_of (send_lines c llc_snap size u out)) 0) _ _ ∙ or_else_is (send_lines c llc_snap size u out) 0 refl

pub sender_means : SenderMeans
unfolding or_else send_lines
sender_means c llc_snap size u out n =
    rw (number_sent c llc_snap size u out)
    ((gives_row _ 10 (Decides-not _ (good_is c)) (λ _.
    gives_row _ 50 (tells_outside 1 4080 size) (λ e50.
    gives_row _ 51 (Decides-ltb 65535 (length u)) (λ _.
    gives_row _ 54 (unit_not_one llc_snap u) (λ _.
    let some : 0 < size = leb-true 1 size (both_true _ _ (not-false _ e50)).0 in
    gives_row _ 52 (counted size u some _ (λ k. c.limit < k) (Decides-ltb c.limit (section_count size u))) (λ _.
    gives_row _ 53
    (counted size u some (ltb (length out) (length (flatten (sections c llc_snap size u)))) (λ k. length out < length u + 16 * k)
    (rw (sections_bytes c llc_snap size u some) (Decides-ltb (length out) (length u + 16 * section_count size u)))) (λ _.
    gives_last 0 tt))))))).exactly n)

pub default_means : DefaultMeans
default_means c llc_snap u out n = sender_means c llc_snap 1008 u out n
