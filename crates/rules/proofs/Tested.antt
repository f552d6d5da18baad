-- Demand 3 by the receiver's own tests: how the proofs speak of runs, before proofs/Demand3.antt puts it in the statement's words.
use Rattle.std.proofs.Common.{ℕ, ◌+◌, ◌≤◌, ◌<◌, ◌≡◌, ◌↔◌, List, [], ◌∷◌, ◌++◌, map, Bool, true, false, not, length, get_or, take, eqb, Some}
use Rattle.wire.specs.Choice.{pick, both}
use Rattle.rules.specs.declared.Settings.{Settings}
use Rattle.rules.specs.declared.Key.{Key}
use Rattle.rules.specs.Check.{check}
use Rattle.rules.specs.Section.{last_section_number, payload, payload_scrambling_control, section_number}
use Rattle.rules.specs.Step.{good_settings, key_of, ours, room}
use Rattle.rules.specs.Row.{after, datagram, Event, fresh, gap, handed_over, nothing, section}
use Rattle.rules.specs.UnitEnd.{unit_end}

-- a sound section for another address
unfoldable pub elsewhere : Settings → Event → Bool
elsewhere c (section s) = both (eqb (check s) 0) (not (ours c s))
elsewhere c gap = false

-- the row with the sound sections for other addresses struck out
unfoldable pub strike : Settings → List Event → List Event
strike c [] = []
strike c (e ∷ r) = pick (elsewhere c e) (strike c r) (e ∷ strike c r)

-- sound, for this address, not scrambled (20), and its last number within the section limit (21)
pub record Receivable (c : Settings) (s : List ℕ) : Type 0 where
  pub sound : check s ≡ 0
  pub address : ours c s ≡ true
  pub clear : payload_scrambling_control s ≡ 0
  pub within : last_section_number s + 1 ≤ c.limit

-- section i of a run that agrees on κ: its address, last number and LLC_SNAP_flag
pub record InRun (c : Settings) (κ : Key) (i : ℕ) (s : List ℕ) : Type 0 where
  pub receivable : Receivable c s
  pub numbered : section_number s ≡ i
  pub agrees : key_of s ≡ κ

-- the payloads, joined
unfoldable pub joined : List (List ℕ) → List ℕ
joined [] = []
joined (s ∷ r) = payload s ++ joined r

-- sections numbered from 0 on that agree on κ and fit the buffer and 65,535 bytes
pub record Run (c : Settings) (b : List ℕ) (κ : Key) (xs : List (List ℕ)) : Type 0 where
  pub each : (i : ℕ) → i < length xs → InRun c κ i (get_or xs i [])
  pub fits : length (joined xs) ≤ room b

-- a run from 0 to its last number, within the section limit, whose unit has an end
pub record WholeRun (c : Settings) (b : List ℕ) (xs : List (List ℕ)) : Type 0 where
  pub key : Key
  pub run : Run c b key xs
  pub whole : length xs ≡ key.last + 1
  pub within : length xs ≤ c.limit
  pub end : ℕ
  pub ends : unit_end key.llc_snap (joined xs) ≡ Some end

-- the row ends in these sections, with no other event between
pub record Ends (row : List Event) (xs : List (List ℕ)) : Type 0 where
  pub front : List Event
  pub split : row ≡ front ++ map section xs

-- the row ends in a whole run, and d, n bytes, is their unit
pub record Ready (c : Settings) (b : List ℕ) (row : List Event) (n : ℕ) (d : List ℕ) : Type 0 where
  pub sections : List (List ℕ)
  pub run : WholeRun c b sections
  pub there : Ends row sections
  pub bytes : d ≡ take run.end (joined sections)
  pub size : n ≡ length d

-- ---- at the event e after the row r
pub record AtEvent (c : Settings) (b : List ℕ) (r : List Event) (e : Event) : Type 0 where
  -- nothing is handed over at a struck event
  pub struck : elsewhere c e ≡ true → handed_over c (after c (fresh b) r) e ≡ nothing
  -- at any other, a datagram is handed over exactly when the struck row ends there in a whole run; it is their unit
  pub exactly : elsewhere c e ≡ false → (n : ℕ) (d : List ℕ) →
      (handed_over c (after c (fresh b) r) e ≡ datagram n d) ↔ Ready c b (strike c (r ++ (e ∷ []))) n d

-- for good settings and any buffer, at every event of every row
abbrev pub RowTheorem : Type 0
RowTheorem = (c : Settings) (b : List ℕ) → good_settings c ≡ true → (r : List Event) (e : Event) → AtEvent c b r e
