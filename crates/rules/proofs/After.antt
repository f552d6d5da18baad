-- Each outcome that the tables reach has what goes with its number: a refusal, what is passed by, and what is kept.
use Rattle.std.proofs.Math.Decide.{ℕ_discrete}
use mathlib.Core.List.{flatten}
use Rattle.std.proofs.Math.Seq.{take-length}
use Rattle.std.proofs.lemmas.Bool.{eqb-false}
use Rattle.std.proofs.Common.{ℕ, ◌+◌, ◌≤◌, ◌<◌, arith, ◌≡◌, refl, ap, ◌∙◌, ◌≢◌, List, append_assoc, Bool, true, false, length, take_all, eqb, eq-eqb, eqb-true, leb-true, ne_eqb, Option, Some, None}
use Rattle.wire.specs.Bytes.{bit, byte_at}
use Rattle.wire.specs.Choice.{both, first_of, Line, pick, without}
use Rattle.wire.proofs.Choice.{first_of_without}
use Rattle.rules.specs.Answers.{Delivered, PassedBy, Stored}
use Rattle.rules.specs.declared.Settings.{Settings}
use Rattle.rules.specs.declared.State.{State}
use Rattle.rules.specs.declared.State.TheVariants.{Idle, Open}
use Rattle.rules.specs.After.{NamedByNumber, ReceiverAfter, ReceiverGives, ReceiverNames, run_after, SenderAfter, SenderGives, stored_at}
use Rattle.rules.specs.Check.{check_lines, shared_lines, form_lines, order_lines}
use Rattle.rules.specs.Meaning.{filled_before, joined_up, stored}
use Rattle.rules.specs.Section.{address, last_section_number, llc_snap_flag, payload, section_number}
use Rattle.rules.specs.Send.{sending_length, sending_number, send_lines, SendOutcome, sections, sent_of, written}
use Rattle.rules.specs.Step.{own_lines, continues, finish, From, joined_with, keep, key_of, laid, lay, length_of, Nowhere, number_of, onward, ours, Outcome, outcome, fill_from, refuse, refuse_first, room, setup_lines, step_of, up_to}
use Rattle.rules.specs.UnitEnd.{unit_end}
use Rattle.rules.proofs.Due.{pick_case}
use Rattle.rules.proofs.Meaning.{filled_open, filled_zero, stored_is}
use Rattle.rules.proofs.Sections.{sections_sent}
use Rattle.rules.proofs.Send.{accepted, sent_is, unsent_is}
use Rattle.rules.proofs.UnitEnd.{unit_ends}

-- ---- the outcomes of a step
-- a number that is none of 2, 1 and 0
pub record Refusing (n : ℕ) : Type 0 where
  pub two : n ≢ 2
  pub one : n ≢ 1
  pub zero : n ≢ 0

refusing : (n : ℕ) → 2 < n → Refusing n
refusing n h = record { two = λ z. omega arith; one = λ z. omega arith; zero = λ z. omega arith }

-- what holds of every refusal, of what is passed by and of what is kept holds of the step
module _ (σ : State) (s b : List ℕ) (P : Outcome → Type 0) (refused : (n : ℕ) → Refusing n → P (refuse n b))
    (passed : P (outcome PassedBy σ b))
    (kept : (f : ℕ) → filled_before σ (byte_at s 6) ≡ f → f + length (payload s) ≤ room b → P (keep f s b)) where
  -- the lines of a part have none of these numbers
  by_lines : (lines : List Line) (o : Outcome) → without 0 lines ≡ true → without 1 lines ≡ true → without 2 lines ≡ true
      → P o → P (refuse_first lines b o)
  unfolding refuse_first pick
  by_lines lines o h0 h1 h2 a = go (ℕ_discrete (first_of lines) 0)
    where
      go : Dec (first_of lines ≡ 0) → P (pick (eqb (first_of lines) 0) o (refuse (first_of lines) b))
      go (yes e) = rw (eq-eqb (first_of lines) 0 e) a
      go (no e) =
          rw (ne_eqb (first_of lines) 0 e)
          (refused (first_of lines)
          (record {
            two = first_of_without 2 lines h2 (λ z. absurd (omega arith));
            one = first_of_without 1 lines h1 (λ z. absurd (omega arith));
            zero = e;
          }))

  nowhere : P (lay Nowhere s b)
  unfolding lay
  nowhere = refused 22 (refusing 22 (omega arith))

  by_room : (f : ℕ) → filled_before σ (byte_at s 6) ≡ f → P (lay (From f) s b)
  unfolding lay
  by_room f e =
      pick_case P _ _ _ (λ t. kept f e (leb-true _ _ t))
      (λ _. refused 23 (refusing 23 (omega arith)))

  by_run : (τ : State) → σ ≡ τ → byte_at s 6 ≢ 0 → P (lay (onward τ s) s b)
  unfolding onward pick
  by_run Idle is h = nowhere
  by_run (Open n f κ) is h = go (continues n κ s)
    where
      go : (t : Bool) → P (lay (pick t (From f) Nowhere) s b)
      go true = by_room f (ap (λ (τ : State). filled_before τ (byte_at s 6)) is ∙ filled_open n f κ (byte_at s 6) h)
      go false = nowhere

  by_fill : P (lay (fill_from σ s) s b)
  unfolding fill_from section_number pick
  by_fill = go (eqb (byte_at s 6) 0) refl
    where
      go : (t : Bool) → eqb (byte_at s 6) 0 ≡ t → P (lay (pick t (From 0) (onward σ s)) s b)
      go true e = by_room 0 (filled_zero σ (byte_at s 6) (eqb-true _ _ e))
      go false e = by_run σ refl (eqb-false _ _ e)

  by_address : (t : Bool) (o : Outcome) → P o → P (pick t o (outcome PassedBy σ b))
  unfolding pick
  by_address true o a = a
  by_address false o a = passed

  pub by_step : (c : Settings) → P (step_of c σ s b)
  unfolding setup_lines step_of without both check_lines shared_lines form_lines order_lines own_lines
  by_step c =
      by_lines (setup_lines c σ) _ refl refl refl
      (by_lines (check_lines s) _ refl refl refl (by_address (ours c s) _ (by_lines (own_lines c s) _ refl refl refl by_fill)))

-- ---- what goes with each
abbrev After : State → List ℕ → List ℕ → Outcome → Type 0
After σ s b o = ReceiverAfter σ s b (number_of o.step.answer) (length_of o.step.answer) o.step.state o.buffer

refused_after : (σ : State) (s b : List ℕ) (n : ℕ) → Refusing n → After σ s b (refuse n b)
unfolding number_of length_of
refused_after σ s b n h =
    record {
      refused = λ _ _ _. (refl, refl, refl);
      passed = λ e. absurd (h.two e);
      kept = λ e. absurd (h.one e);
      delivered = λ e. absurd (h.zero e);
    }

passed_after : (σ : State) (s b : List ℕ) → After σ s b (outcome PassedBy σ b)
unfolding number_of length_of
passed_after σ s b =
    record {
      refused = λ e _ _. absurd (e refl);
      passed = λ _. (refl, refl, refl);
      kept = λ e. absurd (omega arith);
      delivered = λ e. absurd (omega arith);
    }

laid_is : (f : ℕ) (s b : List ℕ) → laid f s b ≡ stored_at f (stored s) b
unfolding laid
laid_is f s b = rw (stored_is s, take-length (stored s), append_assoc)

kept_after : (σ : State) (s b : List ℕ) (f : ℕ) → filled_before σ (byte_at s 6) ≡ f → After σ s b (keep f s b)
unfolding keep finish joined_with key_of address section_number last_section_number llc_snap_flag pick up_to number_of length_of
kept_after σ s b f e = rw (laid_is f s b, stored_is s, ← e) (go (eqb (byte_at s 6) (byte_at s 7)) (unit_end (eqb (bit 1 (byte_at s 5)) 1) (joined_up σ s b)) refl)
  where
    go : (t : Bool) (end : Option ℕ) → unit_end (eqb (bit 1 (byte_at s 5)) 1) (joined_up σ s b) ≡ end
        → let g : ℕ = filled_before σ (byte_at s 6) in
        After σ s b (pick t (up_to end b (stored_at g (stored s) b)) (outcome Stored (run_after s (g + length (stored s))) (stored_at g (stored s) b)))
    go true (Some n) q =
        record {
          refused = λ _ _ e. absurd (e refl);
          passed = λ e. absurd (omega arith);
          kept = λ e. absurd (omega arith);
          delivered = λ _. ((unit_ends (eqb (bit 1 (byte_at s 5)) 1) (joined_up σ s b) n).0 q, refl, refl);
        }
    go true None q = refused_after σ s b 25 (refusing 25 (omega arith))
    go false end q =
        record {
          refused = λ _ e _. absurd (e refl);
          passed = λ e. absurd (omega arith);
          kept = λ _. (refl, refl, refl);
          delivered = λ e. absurd (omega arith);
        }

pub receiver_gives : ReceiverGives
receiver_gives c σ s b = by_step σ s b (After σ s b) (refused_after σ s b) (passed_after σ s b) (λ f e _. kept_after σ s b f e) c

-- ---- the names
abbrev Named : Outcome → Type 0
Named o = NamedByNumber o.step.answer

refused_named : (b : List ℕ) (n : ℕ) → Refusing n → Named (refuse n b)
unfolding number_of
refused_named b n h =
    record {
      refused = λ _ _ _. refl;
      passed = λ e. absurd (h.two e);
      kept = λ e. absurd (h.one e);
      delivered = λ e. absurd (h.zero e);
    }

-- any answer but a refusal has its name by its number
delivered_named : (n : ℕ) → NamedByNumber (Delivered n)
unfolding number_of length_of
delivered_named n =
    record { refused = λ _ _ e. absurd (e refl); passed = λ e. absurd (omega arith); kept = λ e. absurd (omega arith); delivered = λ _. refl }

stored_named : NamedByNumber Stored
unfolding number_of length_of
stored_named =
    record { refused = λ _ e _. absurd (e refl); passed = λ e. absurd (omega arith); kept = λ _. refl; delivered = λ e. absurd (omega arith) }

passed_named : NamedByNumber PassedBy
unfolding number_of length_of
passed_named =
    record { refused = λ e _ _. absurd (e refl); passed = λ _. refl; kept = λ e. absurd (omega arith); delivered = λ e. absurd (omega arith) }

kept_named : (f : ℕ) (s b : List ℕ) → Named (keep f s b)
unfolding keep finish up_to
kept_named f s b = pick_case Named _ _ _ (λ _. go (unit_end (llc_snap_flag s) (joined_with f s b))) (λ _. stored_named)
  where
    go : (end : Option ℕ) → Named (up_to end b (laid f s b))
    go (Some n) = delivered_named n
    go None = refused_named b 25 (refusing 25 (omega arith))

pub receiver_names : ReceiverNames
receiver_names c σ s b = by_step σ s b Named (refused_named b) passed_named (λ f _ _. kept_named f s b) c

-- ---- the sender
pub sender_gives : SenderGives
unfolding sending_number sending_length written
sender_gives c llc_snap n u out = go (ℕ_discrete (first_of (send_lines c llc_snap n u out)) 0)
  where
    go : Dec (first_of (send_lines c llc_snap n u out) ≡ 0) → let o : SendOutcome = sent_of c llc_snap n u out in
        SenderAfter c llc_snap n u out (sending_number o.sending) (sending_length o.sending) o.output
    go (yes q) =
        let a = accepted c llc_snap n u out q in
        rw (sent_is c llc_snap n u out q)
        (record {
          refused = λ e. absurd (e refl);
          sent = λ _.
              record {
                bytes = flatten (sections c llc_snap n u);
                sections = sections_sent c llc_snap n u a.some _ refl;
                long = refl;
                is = rw (take_all (length out) (flatten (sections c llc_snap n u)) a.room);
              };
        })
    go (no q) =
        rw (unsent_is c llc_snap n u out q)
        (record { refused = λ _. (refl, refl); sent = λ e. absurd (q e) })
