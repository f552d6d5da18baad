-- Rows of sections and gap notices, and what the receiver does with them.
use Rattle.std.specs.Prelude.{ℕ, List, [], ◌∷◌, take}
use Rattle.rules.specs.declared.Settings.{Settings}
use Rattle.rules.specs.declared.State.{State}
use Rattle.rules.specs.declared.State.TheVariants.{Idle}
use Rattle.rules.specs.Answers.{Answer, Delivered, Stored, PassedBy, Refused}
use Rattle.rules.specs.Step.{gap_of, Outcome, step_of}

-- ---- a row, given to the receiver
pub data Event : Type 0 where
  section : List ℕ → Event
  gap : Event

-- what is handed on from one event to the next: the state, and the buffer that nobody else writes
pub record Held : Type 0 where
  pub state : State
  pub buffer : List ℕ

-- a fresh start
abbrev pub fresh : List ℕ → Held
fresh b = record { state = Idle; buffer = b }

unfoldable pub next : Settings → Held → Event → Held
next c h (section s) =
    let o : Outcome = step_of c h.state s h.buffer in
    record { state = o.step.state; buffer = o.buffer }
next c h gap = record { state = gap_of h.state; buffer = h.buffer }

-- after a row of events, the earliest first
unfoldable pub after : Settings → Held → List Event → Held
after c h [] = h
after c h (e ∷ r) = after c (next c h e) r

-- what is handed over at an event: nothing, or a length and as many bytes of the buffer
pub data Handed : Type 0 where
  nothing : Handed
  datagram : ℕ → List ℕ → Handed

unfoldable pub handed_by : Answer → List ℕ → Handed
handed_by (Delivered n) b = datagram n (take n b)
handed_by Stored b = nothing
handed_by PassedBy b = nothing
handed_by (Refused n) b = nothing

unfoldable pub handed_over : Settings → Held → Event → Handed
handed_over c h (section s) =
    let o : Outcome = step_of c h.state s h.buffer in
    handed_by o.step.answer o.buffer
handed_over c h gap = nothing
