-- Demand 3 of the code: any row of sections and gap notices is given to it from a fresh start, each state handed on and the buffer written by
-- nobody else; what is handed over at each event is as demand 3 says. Its words are defined in rules/specs/Demand3.antt.
use Rattle.std.specs.Prelude.{ℕ, ◌≡◌, List, [], ◌∷◌, ◌++◌, take, eqb}
use contract.Lifetimes.{Lfts}
use Rattle.wire.specs.Choice.{pick}
use Rattle.rules.specs.declared.Settings.{Settings}
use Rattle.rules.specs.declared.State.{State}
use Rattle.rules.specs.Demand3.{CanBeStruck, HandedRight, OfBytes, Once, OnlyOne, OwnLength}
use Rattle.rules.specs.Row.{datagram, Event, fresh, gap, Handed, handed_by, Held, nothing, section}
use Rattle.rules.specs.Told.{answer_told}
use Rattle.caller_numbers.specs.Numbers.{state_of}
use Rattle.demands.specs.Abroad.{gap_gave, gap_given, receive_gave, receive_given}
use Rattle.demands.specs.Allowed.{Args, Exit, Result}
use Rattle.demands.specs.Functions as contracts

-- what a foreign caller is handed over, told by the paper's number and the unit length
unfoldable pub handed_abroad : ℕ → ℕ → List ℕ → Handed
handed_abroad number n b = pick (eqb number 0) (datagram n (take n b)) nothing

-- what `receive` is given, by name, and the buffer after it
pub record Received : Type 0 where
  pub settings : Settings
  pub state : State
  pub section : List ℕ
  pub buffer : List ℕ

abbrev pub receive_args : (κs : Lfts 2) → Args contracts.receive κs → Received
receive_args κs (settings, (state, (s, (buffer, _)))) = record { settings = settings; state = state; section = s.now; buffer = buffer.now }

abbrev pub buffer_after : (κs : Lfts 2) → Exit contracts.receive κs → List ℕ
buffer_after κs (_, (_, (_, (after, _)))) = after.now

-- one event given to the code that holds h: what it holds afterwards, and what it hands over
pub data Given (c : Settings) (h : Held) : Event → Held → Handed → Type 0 where
  a_section : (κs : Lfts 2) (a : Args contracts.receive κs) (z : Result contracts.receive κs) (e : Exit contracts.receive κs)
      → (receive_args κs a).settings ≡ c → (receive_args κs a).state ≡ h.state → (receive_args κs a).buffer ≡ h.buffer
      → (contracts.receive).Learnt κs a z e
      → Given c h (section (receive_args κs a).section) (record { state = z.state; buffer = buffer_after κs e })
      (handed_by (answer_told z.answer) (buffer_after κs e))
  a_gap : (κs : Lfts 0) (a : Args contracts.gap κs) (z : Result contracts.gap κs) (e : Exit contracts.gap κs)
      → a.0 ≡ h.state → (contracts.gap).Learnt κs a z e → Given c h gap (record { state = z; buffer = h.buffer }) nothing
  -- by a foreign caller, who has the state as bytes
  a_section_abroad : (κs : Lfts 4) (a : Args contracts.fossknut_receive κs) (z : Result contracts.fossknut_receive κs)
      (e : Exit contracts.fossknut_receive κs)
      → (receive_given κs a).settings ≡ c → state_of (receive_given κs a).state ≡ h.state → (receive_given κs a).buffer ≡ h.buffer
      → (contracts.fossknut_receive).Learnt κs a z e
      → Given c h (section (receive_given κs a).section)
      (record { state = state_of (receive_gave κs e).state; buffer = (receive_gave κs e).buffer })
      (handed_abroad z (receive_gave κs e).length (receive_gave κs e).buffer)
  a_gap_abroad : (κs : Lfts 1) (a : Args contracts.fossknut_gap κs) (z : Result contracts.fossknut_gap κs) (e : Exit contracts.fossknut_gap κs)
      → state_of (gap_given κs a) ≡ h.state → (contracts.fossknut_gap).Learnt κs a z e
      → Given c h gap (record { state = state_of (gap_gave κs e); buffer = h.buffer }) nothing

-- a row of events given to the code: what it holds before and after it, and what is handed over at each event
pub data GivenRow (c : Settings) : Held → List Event → List Handed → Held → Type 0 where
  ended : (h : Held) → GivenRow c h [] [] h
  more : (h : Held) (e : Event) (k : Held) (d : Handed) (r : List Event) (ds : List Handed) (l : Held)
      → Given c h e k d → GivenRow c k r ds l → GivenRow c h (e ∷ r) (d ∷ ds) l

pub record Demand3 : Type 0 where
  -- after any row given to the code from a fresh start
  pub each : (c : Settings) (b : List ℕ) (r : List Event) (ds : List Handed) (h : Held) → GivenRow c (fresh b) r ds h
      → (e : Event) (k : Held) (d : Handed) → Given c h e k d → OfBytes (r ++ (e ∷ [])) → HandedRight c b r e d
  pub strikes : (c : Settings) → CanBeStruck c
  pub only : (c : Settings) (b : List ℕ) → OnlyOne c b
  pub once : (c : Settings) (b : List ℕ) → Once c b
  -- whatever the code holds, what it hands over without LLC/SNAP is never longer nor shorter than its own IP header says
  pub own : (c : Settings) (h : Held) (s : List ℕ) (k : Held) (d : Handed) → Given c h (section s) k d → OwnLength s d
