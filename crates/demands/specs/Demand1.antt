-- Demand 1 of the real contracts: every input is answered with the number of the first row that applies, in the papers' order, and a refusal
-- hands out nothing, drops the open run and changes no other byte lent. The rows and what they mean are in rules/specs/Meaning.antt, what goes
-- with each number in rules/specs/After.antt; of the INT and the PES reader specs/Readers.antt speaks.
use Rattle.std.specs.Prelude.{ℕ, ◌≡◌, ◌≢◌, ◌↔◌, Bool, List, replicate, Ok, Err, Result as CodeResult}
use contract.Lifetimes.{Lfts}
use Rattle.wire.specs.Meaning.{FirstThat, Row}
use Rattle.rules.specs.declared.Settings.{Settings}
use Rattle.rules.specs.declared.State.{State}
use Rattle.rules.specs.declared.State.TheVariants.{Idle}
use Rattle.rules.specs.declared.Reception.{Reception}
use Rattle.rules.specs.declared.Reception.TheVariants.{Delivered, Stored, PassedBy}
use Rattle.rules.specs.declared.Refusal.{Refusal}
use Rattle.rules.specs.After.{NamedByNumber, ReadAlike, ReceiverAfter}
use Rattle.rules.specs.Meaning.{check_rows, GoodState, receiver_rows, sender_rows}
use Rattle.rules.specs.Send.{sending_length, sending_number}
use Rattle.rules.specs.Step.{length_of, number_of}
use Rattle.rules.specs.Told.{answer_told, number, refusal_number, sending_told}
use Rattle.caller_numbers.specs.Numbers.{state_bytes, state_of}
use Rattle.demands.specs.Abroad.{default_gave, default_given, gap_gave, receive_gave, receive_given, ReceiveGiven, send_gave, send_given, size_given}
use Rattle.demands.specs.Allowed.{Allowed, Args, Exit, Result}
use Rattle.demands.specs.Functions as contracts
use Rattle.demands.specs.Demand3.{receive_args, Received}

-- z is the number of the first row that applies, and no other
abbrev pub Numbered : ℕ → List Row → Type 0
Numbered z rows = (n : ℕ) → (z ≡ n) ↔ FirstThat n rows

-- one step of the receiver from the state σ: number and unit length, the state τ and the buffer d after it; τ is good for the same settings
pub record Steps (c : Settings) (σ : State) (s b : List ℕ) (n unit : ℕ) (τ : State) (d : List ℕ) : Type 0 where
  pub number : Numbered n (receiver_rows c σ s b)
  pub after : ReceiverAfter σ s b n unit τ d
  pub good : GoodState c τ

-- two calls are given the same settings, state and section, and of their buffers the same is read
pub record CalledAlike (a b : Received) : Type 0 where
  pub settings : a.settings ≡ b.settings
  pub state : a.state ≡ b.state
  pub section : a.section ≡ b.section
  pub read : ReadAlike a.state a.section a.buffer b.buffer

-- what a foreign caller gives, with the state that its bytes mean
abbrev pub meant : ReceiveGiven → Received
meant g = record { settings = g.settings; state = state_of g.state; section = g.section; buffer = g.buffer }

-- one call of the sender: number and total length, and the output after it; what it writes where it accepts is in specs/Demand2.antt
pub record Sends (c : Settings) (llc_snap : Bool) (size : ℕ) (u out : List ℕ) (n total : ℕ) (output : List ℕ) : Type 0 where
  pub number : Numbered n (sender_rows c llc_snap size u out)
  pub refused : n ≢ 0 → (total ≡ 0) × (output ≡ out)

-- the code's answer has one name for each number
pub record NamedInCode (a : CodeResult Reception Refusal) : Type 0 where
  pub refused : number_of (answer_told a) ≢ 2 → number_of (answer_told a) ≢ 1 → number_of (answer_told a) ≢ 0
      → (r : Refusal) × (a ≡ Err r) × (number r ≡ number_of (answer_told a))
  pub passed : number_of (answer_told a) ≡ 2 → a ≡ Ok PassedBy
  pub kept : number_of (answer_told a) ≡ 1 → a ≡ Ok Stored
  pub delivered : number_of (answer_told a) ≡ 0 → a ≡ Ok (Delivered (length_of (answer_told a)))

pub record Demand1 : Type 0 where
  pub check : Allowed contracts.check
      (λ κs (s, _) z e. Numbered (refusal_number z) (check_rows s.now))
  pub receive : Allowed contracts.receive
      (λ κs (settings, (state, (s, (buffer, _)))) z (_, (_, (_, (after, _)))).
      Steps settings state s.now buffer.now (number_of (answer_told z.answer)) (length_of (answer_told z.answer)) z.state after.now)
  pub named : Allowed contracts.receive
      (λ κs a z e. NamedByNumber (answer_told z.answer))
  pub names : Allowed contracts.receive
      (λ κs a z e. NamedInCode z.answer)
  -- one call reads the buffer's length and, at number L without LLC/SNAP, what it holds before f; by nothing else of it is it answered
  pub alike : (κs : Lfts 2) (a b : Args contracts.receive κs) (z y : Result contracts.receive κs) (e d : Exit contracts.receive κs)
      → (contracts.receive).Learnt κs a z e → (contracts.receive).Learnt κs b y d → CalledAlike (receive_args κs a) (receive_args κs b) → z ≡ y
  -- a gap notice makes any state idle and is never refused
  pub gap : Allowed contracts.gap
      (λ κs a z e. z ≡ Idle)
  pub send : Allowed contracts.send
      (λ κs (settings, (llc_snap, (size, (unit, (out, _))))) z (_, (_, (_, (_, (after, _))))).
      Sends settings llc_snap size unit.now out.now (sending_number (sending_told z)) (sending_length (sending_told z)) after.now)
  -- where no piece size is given, it is 1,008
  pub send_by_default : Allowed contracts.send_by_default
      (λ κs (settings, (llc_snap, (unit, (out, _)))) z (_, (_, (_, (after, _)))).
      Sends settings llc_snap 1008 unit.now out.now (sending_number (sending_told z)) (sending_length (sending_told z)) after.now)
  -- the exported functions: the state is given and handed back as bytes; those handed back mean the state after
  pub fossknut_check : Allowed contracts.fossknut_check
      (λ κs (s, _) z e. Numbered z (check_rows s.now))
  pub fossknut_receive : Allowed contracts.fossknut_receive
      (λ κs a z e. let given = receive_given κs a in let gave = receive_gave κs e in
      (τ : State) × (gave.state ≡ state_bytes τ) × (state_of gave.state ≡ τ)
      × Steps given.settings (state_of given.state) given.section given.buffer z gave.length τ gave.buffer)
  pub fossknut_alike : (κs : Lfts 4) (a b : Args contracts.fossknut_receive κs) (z y : Result contracts.fossknut_receive κs)
      (e d : Exit contracts.fossknut_receive κs)
      → (contracts.fossknut_receive).Learnt κs a z e → (contracts.fossknut_receive).Learnt κs b y d
      → CalledAlike (meant (receive_given κs a)) (meant (receive_given κs b))
      → (z ≡ y) × ((receive_gave κs e).state ≡ (receive_gave κs d).state) × ((receive_gave κs e).length ≡ (receive_gave κs d).length)
  pub fossknut_gap : Allowed contracts.fossknut_gap
      (λ κs a z e. gap_gave κs e ≡ replicate 16 0)
  pub fossknut_send : Allowed contracts.fossknut_send
      (λ κs a z e. let given = send_given κs a in let gave = send_gave κs e in
      Sends given.settings given.llc_snap (size_given κs a) given.unit given.output z gave.length gave.output)
  pub fossknut_send_by_default : Allowed contracts.fossknut_send_by_default
      (λ κs a z e. let given = default_given κs a in let gave = default_gave κs e in
      Sends given.settings given.llc_snap 1008 given.unit given.output z gave.length gave.output)
