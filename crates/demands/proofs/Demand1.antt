-- Each contract is an equation with the rules' outcome, whose number is by the table and has with it what the paper says.
use Prim.Native.Nat.{ℕ}
use Rattle.std.specs.Prelude.{◌≢◌, Result, Ok, Err}
use mathlib.Core.Path.{◌≡◌, refl, ap, subst, sym, ◌∙◌}
use mathlib.Core.Bool.{Bool}
use mathlib.Core.List.{List}
use Rattle.rules.specs.declared.Settings.{Settings}
use Rattle.rules.specs.declared.State.{State}
use Rattle.rules.specs.Answers.{Step}
use Rattle.rules.specs.declared.Reception.{Reception}
use Rattle.rules.specs.declared.Reception.TheVariants.{Delivered, Stored, PassedBy}
use Rattle.rules.specs.declared.Refusal.{Refusal}
use Rattle.rules.specs.After.{NamedByNumber}
use Rattle.rules.specs.Send.{default_piece, sending_length, sending_number, SendOutcome, sent_of}
use Rattle.rules.specs.Step.{gap_of, length_of, number_of, Outcome, step_of}
use Rattle.rules.specs.Told.{answer_told, number}
use Rattle.rules.proofs.After.{receiver_gives, receiver_names, sender_gives}
use Rattle.rules.proofs.BufferRead.{buffer_read}
use Rattle.rules.proofs.Made.{made_good}
use Rattle.rules.proofs.Meaning.{check_means, receiver_means, sender_means}
use Rattle.rules.proofs.Told.{answer_same, step_same}
use Rattle.caller_numbers.specs.Numbers.{state_bytes, state_of}
use Rattle.caller_numbers.proofs.Meaning.{handed_on}
use Rattle.demands.specs.Abroad.{default_given, receive_given, ReceiveGiven, send_given, SendGiven, size_given}
use Rattle.demands.specs.Demand1.{CalledAlike, Demand1, meant, NamedInCode, Sends, Steps}
use Rattle.demands.specs.Demand3.{receive_args, Received}

-- a step and a sending are those of the rules
steps : (c : Settings) (σ : State) (s b : List ℕ) → let o : Outcome = step_of c σ s b in
    Steps c σ s b (number_of o.step.answer) (length_of o.step.answer) o.step.state o.buffer
steps c σ s b = record { number = receiver_means c σ s b; after = receiver_gives c σ s b; good = made_good c σ s b }

sends : (c : Settings) (llc_snap : Bool) (size : ℕ) (u out : List ℕ) → let o : SendOutcome = sent_of c llc_snap size u out in
    Sends c llc_snap size u out (sending_number o.sending) (sending_length o.sending) o.output
sends c llc_snap size u out = record { number = sender_means c llc_snap size u out; refused = (sender_gives c llc_snap size u out).refused }

-- the rules' step of what was given
abbrev step_for : Received → Step
step_for g = (step_of g.settings g.state g.section g.buffer).step

alike : (a b : Received) → CalledAlike a b → step_for a ≡ step_for b
alike a b w =
    rw (← w.settings, ← w.state, ← w.section) (buffer_read a.settings a.state a.section a.buffer b.buffer w.read)

-- the names of an answer that tells what another step tells
named : {t o : Step} → o ≡ t → NamedByNumber o.answer → NamedByNumber t.answer
named e w = subst (λ (t : Step). NamedByNumber t.answer) e w

named_in_code : (a : Result Reception Refusal) → NamedByNumber (answer_told a) → NamedInCode a
unfolding answer_told number_of
named_in_code a w =
    record {
      refused = refused a;
      passed = λ n. answer_same a (Ok PassedBy) (w.passed n);
      kept = λ n. answer_same a (Ok Stored) (w.kept n);
      delivered = λ n. answer_same a (Ok (Delivered (length_of (answer_told a)))) (w.delivered n);
    }
  where
    refused : (a : Result Reception Refusal)
        → number_of (answer_told a) ≢ 2 → number_of (answer_told a) ≢ 1 → number_of (answer_told a) ≢ 0
        → (r : Refusal) × (a ≡ Err r) × (number r ≡ number_of (answer_told a))
    refused (Ok (Delivered n)) two one none = absurd (none refl)
    refused (Ok Stored) two one none = absurd (one refl)
    refused (Ok PassedBy) two one none = absurd (two refl)
    refused (Err r) two one none = (r, refl, refl)

pub demand_1 : Demand1
unfolding gap_of state_bytes
demand_1 =
    record {
      check = λ κs (s, _) z e p. rw p (check_means s.now);
      receive = λ κs (c, (σ, (s, (b, _)))) z (_, (_, (_, (d, _)))) p.
          subst (λ (t : Step). Steps c σ s.now b.now (number_of t.answer) (length_of t.answer) t.state d.now) (sym p.step)
          (rw p.buffer (steps c σ s.now b.now));
      named = λ κs (c, (σ, (s, (b, _)))) z e p. named (sym p.step) (receiver_names c σ s.now b.now);
      names = λ κs (c, (σ, (s, (b, _)))) z e p. named_in_code z.answer (named (sym p.step) (receiver_names c σ s.now b.now));
      alike = λ κs a b z y e d p q w. step_same z y (p.step ∙ alike (receive_args κs a) (receive_args κs b) w ∙ sym q.step);
      gap = λ κs a z e p. p;
      send = λ κs (c, (llc_snap, (size, (u, (out, _))))) z e p. rw (p.sending, p.output) (sends c llc_snap size u.now out.now);
      send_by_default = λ κs (c, (llc_snap, (u, (out, _)))) z e p. rw (p.sending, p.output) (sends c llc_snap default_piece u.now out.now);
      fossknut_check = λ κs (s, _) z e p. rw p (check_means s.now);
      fossknut_receive = λ κs a z e p. let g : ReceiveGiven = receive_given κs a in
          let τ : State = (step_of g.settings (state_of g.state) g.section g.buffer).step.state in (
            τ,
            p.state,
            ap state_of p.state ∙ handed_on g.settings τ (made_good g.settings (state_of g.state) g.section g.buffer),
            rw (p.answer, p.unit, p.buffer) (steps g.settings (state_of g.state) g.section g.buffer),
          );
      fossknut_alike = λ κs a b z y e d p q w.
          let same : step_for (meant (receive_given κs a)) ≡ step_for (meant (receive_given κs b)) =
          alike (meant (receive_given κs a)) (meant (receive_given κs b)) w in (
            p.answer ∙ ap (λ (x : Step). number_of x.answer) same ∙ sym q.answer,
            p.state ∙ ap (λ (x : Step). state_bytes x.state) same ∙ sym q.state,
            p.unit ∙ ap (λ (x : Step). length_of x.answer) same ∙ sym q.unit,
          );
      fossknut_gap = λ κs a z e p. p;
      fossknut_send = λ κs a z e p. let g : SendGiven = send_given κs a in
          rw (p.number, p.length, p.output) (sends g.settings g.llc_snap (size_given κs a) g.unit g.output);
      fossknut_send_by_default = λ κs a z e p. let g : SendGiven = default_given κs a in
          rw (p.number, p.length, p.output) (sends g.settings g.llc_snap default_piece g.unit g.output);
    }
