-- What goes with each number: document 01, 'The receiver', the column 'state after', and what is stored and handed back; 'The sender';
-- document 02, request 3. Theorems, shown in proofs/After.antt, proofs/Made.antt and proofs/BufferRead.antt.
use Rattle.std.specs.Prelude.{ℕ, ◌+◌, ◌≡◌, ◌≢◌, List, ◌++◌, Bool, length, take, drop, eqb}
use Rattle.wire.specs.Bytes.{bit, byte_at}
use Rattle.rules.specs.Answers.{Answer, Delivered, PassedBy, Refused, Stored}
use Rattle.rules.specs.declared.Settings.{Settings}
use Rattle.rules.specs.declared.State.{State}
use Rattle.rules.specs.declared.State.TheVariants.{Idle, Open}
use Rattle.rules.specs.Demand2.{Sections}
use Rattle.rules.specs.Meaning.{filled_before, GoodState, joined_up, printed, stored}
use Rattle.rules.specs.Send.{sending_length, sending_number, SendOutcome, sent_of}
use Rattle.rules.specs.Step.{length_of, number_of, Outcome, step_of}
use Rattle.rules.specs.UnitEnd.{UnitLength}

-- ---- the receiver
-- the buffer with these bytes at f, and no other byte changed
abbrev pub stored_at : ℕ → List ℕ → List ℕ → List ℕ
stored_at f p b = take f b ++ (p ++ drop (f + length p) b)

-- the run after this section, with f bytes filled: the next number, all six bytes of the address, the last number and the LLC_SNAP_flag
abbrev pub run_after : List ℕ → ℕ → State
run_after s f = Open (byte_at s 6 + 1) f (record { address = printed s; last = byte_at s 7; llc_snap = eqb (bit 1 (byte_at s 5)) 1 })

-- with the number n of the answer to s, given the state σ and the buffer b: the unit length, the state τ and the buffer d
pub record ReceiverAfter (σ : State) (s b : List ℕ) (n unit : ℕ) (τ : State) (d : List ℕ) : Type 0 where
  pub refused : n ≢ 2 → n ≢ 1 → n ≢ 0 → (unit ≡ 0) × (τ ≡ Idle) × (d ≡ b)
  pub passed : n ≡ 2 → (unit ≡ 0) × (τ ≡ σ) × (d ≡ b)
  pub kept : n ≡ 1 → let f : ℕ = filled_before σ (byte_at s 6) in
      (unit ≡ 0) × (τ ≡ run_after s (f + length (stored s))) × (d ≡ stored_at f (stored s) b)
  pub delivered : n ≡ 0 → let f : ℕ = filled_before σ (byte_at s 6) in
      UnitLength (eqb (bit 1 (byte_at s 5)) 1) (joined_up σ s b) unit × (τ ≡ Idle) × (d ≡ stored_at f (stored s) b)

abbrev pub ReceiverGives : Type 0
ReceiverGives =
    (c : Settings) (σ : State) (s b : List ℕ) → let o : Outcome = step_of c σ s b in
    ReceiverAfter σ s b (number_of o.step.answer) (length_of o.step.answer) o.step.state o.buffer

-- one call reads no more of the buffer than its length and, at number L without LLC/SNAP, the bytes before f, whoever wrote them there:
-- two buffers that are alike in these are answered alike. Document 02, request 3
pub record ReadAlike (σ : State) (s b d : List ℕ) : Type 0 where
  pub size : length b ≡ length d
  pub before : byte_at s 6 ≡ byte_at s 7 → bit 1 (byte_at s 5) ≡ 0 → let f : ℕ = filled_before σ (byte_at s 6) in take f b ≡ take f d

abbrev pub BufferRead : Type 0
BufferRead = (c : Settings) (σ : State) (s b d : List ℕ) → ReadAlike σ s b d → (step_of c σ s b).step ≡ (step_of c σ s d).step

-- a state that the receiver has made is good for the same settings, whatever state it was given: document 02, request 5
abbrev pub MadeGood : Type 0
MadeGood = (c : Settings) (σ : State) (s b : List ℕ) → GoodState c (step_of c σ s b).step.state

-- within Rattle an answer has a name beside its number, and a number goes with one name only
pub record NamedByNumber (a : Answer) : Type 0 where
  pub refused : number_of a ≢ 2 → number_of a ≢ 1 → number_of a ≢ 0 → a ≡ Refused (number_of a)
  pub passed : number_of a ≡ 2 → a ≡ PassedBy
  pub kept : number_of a ≡ 1 → a ≡ Stored
  pub delivered : number_of a ≡ 0 → a ≡ Delivered (length_of a)

abbrev pub ReceiverNames : Type 0
ReceiverNames = (c : Settings) (σ : State) (s b : List ℕ) → NamedByNumber (step_of c σ s b).step.answer

-- ---- the sender
-- sections stand from the start of the output, as many bytes as the length says, and after them it is as it was
pub record Written (c : Settings) (llc_snap : Bool) (size : ℕ) (u out : List ℕ) (total : ℕ) (output : List ℕ) : Type 0 where
  pub bytes : List ℕ
  pub sections : Sections c llc_snap size u bytes
  pub long : total ≡ length bytes
  pub is : output ≡ bytes ++ drop (length bytes) out

-- with the number n, given the output `out`: the total length and the output after it
pub record SenderAfter (c : Settings) (llc_snap : Bool) (size : ℕ) (u out : List ℕ) (n total : ℕ) (output : List ℕ) : Type 0 where
  pub refused : n ≢ 0 → (total ≡ 0) × (output ≡ out)
  pub sent : n ≡ 0 → Written c llc_snap size u out total output

abbrev pub SenderGives : Type 0
SenderGives =
    (c : Settings) (llc_snap : Bool) (size : ℕ) (u out : List ℕ) → let o : SendOutcome = sent_of c llc_snap size u out in
    SenderAfter c llc_snap size u out (sending_number o.sending) (sending_length o.sending) o.output
