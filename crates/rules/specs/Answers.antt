-- What the receiver and the sender answer, in the papers' words: refusals by number. How the code's answers are read so is in specs/Told.antt.
use Rattle.std.specs.Prelude.{ℕ}
use Rattle.rules.specs.declared.State.{State}

-- of the receiver
pub data Answer : Type 0 where
  Delivered : ℕ → Answer
  Stored : Answer
  PassedBy : Answer
  Refused : ℕ → Answer

-- the answer, and the state after it
pub record Step : Type 0 where
  pub answer : Answer
  pub state : State

-- of the sender: the length of what it wrote, or the number of its refusal
pub data Sending : Type 0 where
  Sent : ℕ → Sending
  Unsent : ℕ → Sending
