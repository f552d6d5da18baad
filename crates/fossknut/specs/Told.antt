-- What a foreign caller is given is the outcome, read off it as numbers and bytes.
use Rattle.std.specs.Prelude.{ℕ, ◌-◌, ◌≡◌, List}
use Rattle.rules.specs.Send.{SendOutcome, sending_number, sending_length}
use Rattle.rules.specs.Step.{Outcome, number_of, length_of}
use Rattle.notification_rules.specs.Answers.{Finding}
use Rattle.notification_rules.specs.Finding.{finding_number, finding_offset}
use Rattle.pes_rules.specs.Reading.{Reading}
use Rattle.caller_numbers.specs.Numbers.{flag_number, state_bytes}

-- of the receiver: the answer's number, the unit length, the bytes of the state, and the buffer. They are a state's bytes whatever
-- bytes were given, also where the state is as given (2): run and flag are 0 or 1, and idle has zeros
pub record ReceiveTold (o : Outcome) (r l : ℕ) (x b : List ℕ) : Type 0 where
  pub answer : r ≡ number_of o.step.answer
  pub unit : l ≡ length_of o.step.answer
  pub state : x ≡ state_bytes o.step.state
  pub buffer : b ≡ o.buffer

-- of the sender: the number, the total length, and the output
pub record SendTold (o : SendOutcome) (r l : ℕ) (out : List ℕ) : Type 0 where
  pub number : r ≡ sending_number o.sending
  pub length : l ≡ sending_length o.sending
  pub output : out ≡ o.output

-- of the INT reader: the number and the offset
pub record FindingTold (o : Finding) (r p : ℕ) : Type 0 where
  pub number : r ≡ finding_number o
  pub offset : p ≡ finding_offset o

-- of the PES reader: the answer, both flags, both values, and the offset and the length of the data
pub record PacketTold (o : Reading) (r e d x v p n : ℕ) : Type 0 where
  pub answer : r ≡ o.answer
  pub extended : e ≡ flag_number o.extended
  pub rated : d ≡ flag_number o.rated
  pub extension : x ≡ o.extension
  pub rate : v ≡ o.rate
  pub offset : p ≡ o.offset
  pub length : n ≡ o.end - o.offset
