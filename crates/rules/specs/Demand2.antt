-- Demand 2 of the sender and the receiver: the sender's sections, given in order to a fresh receiver with the same settings and room
-- enough, give back exactly the bytes sent. A theorem, shown in proofs/Demand2.antt.
use Rattle.std.specs.Prelude.{ℕ, ◌+◌, ◌≤◌, ◌<◌, ◌≡◌, Bool, length, get_or, take}
use mathlib.Core.List.{List, [], ◌∷◌, ◌++◌, flatten, map}
use Rattle.rules.specs.declared.Settings.{Settings}
use Rattle.rules.specs.Answers.{Sent, Answer, Delivered, Stored}
use Rattle.rules.specs.Recording.{offers}
use Rattle.rules.specs.Demand3.{joined, Receivable}
use Rattle.rules.specs.Meaning.{CutInto}
use Rattle.rules.specs.Row.{after, fresh, Held, section}
use Rattle.rules.specs.Sound.{table3, Values}
use Rattle.rules.specs.Send.{sent_of}
use Rattle.rules.specs.Step.{step_of}

-- ---- what is sent
-- section i of so many, by the values that table 3 leaves open: reserved bits are ones, nothing is scrambled, and each but the last
-- carries exactly the piece size
pub record SectionSent (c : Settings) (llc_snap : Bool) (size count i : ℕ) (v : Values) : Type 0 where
  pub address : v.address ≡ c.address
  pub clear : v.scrambling ≡ 0
  pub flagged : v.llc_snap ≡ llc_snap
  pub numbered : v.number ≡ i
  pub ending : v.last + 1 ≡ count
  pub reserved1 : v.reserved1 ≡ 3
  pub reserved5 : v.reserved5 ≡ 3
  pub full : i + 1 < count → length v.payload ≡ size

-- the bytes are the sections of the unit, back to back: as many as it is cut into, and their payloads joined are the unit
pub record Sections (c : Settings) (llc_snap : Bool) (size : ℕ) (u bytes : List ℕ) : Type 0 where
  pub values : List Values
  pub cut : CutInto size u (length values)
  pub each : (front back : List Values) (v : Values) → values ≡ front ++ (v ∷ back) → SectionSent c llc_snap size (length values) (length front) v
  pub unit : joined values ≡ u
  pub is : bytes ≡ flatten (map table3 values)

-- ---- what is received
-- what a receiver answers to section i of the row xs, given after those before it to a fresh receiver with the buffer b
unfoldable pub answer_at : Settings → List ℕ → List (List ℕ) → ℕ → Answer
answer_at c b xs i =
    let h : Held = after c (fresh b) (map section (take i xs)) in
    (step_of c h.state (get_or xs i []) h.buffer).step.answer

-- the row xs carries the unit u to the buffer b
pub record Arrives (c : Settings) (b : List ℕ) (xs : List (List ℕ)) (u : List ℕ) : Type 0 where
  pub receivable : (i : ℕ) → i < length xs → (v : Values) × (get_or xs i [] ≡ table3 v) × Receivable c v
  pub stored : (i : ℕ) → i + 1 < length xs → answer_at c b xs i ≡ Stored
  pub delivered : (i : ℕ) → i + 1 ≡ length xs → answer_at c b xs i ≡ Delivered (length u)
  pub unit : take (length u) (after c (fresh b) (map section xs)).buffer ≡ u

-- these bytes are the sections of the unit; cut as the listing cuts, they are these one by one; and they carry the unit to any buffer with room
pub record Demand2 (c : Settings) (llc_snap : Bool) (size : ℕ) (u bytes : List ℕ) : Type 0 where
  pub sections : Sections c llc_snap size u bytes
  pub offered : offers bytes ≡ map table3 sections.values
  pub arrives : (b : List ℕ) → length u ≤ length b → Arrives c b (map table3 sections.values) u

-- the bytes that the sender gives do, wherever it accepts: good settings, any unit with the flag and any IP datagram without it, any piece size
-- from 1 to 4,080
abbrev pub RoundTrip : Type 0
RoundTrip =
    (c : Settings) (llc_snap : Bool) (size : ℕ) (u out : List ℕ) (n : ℕ) → (sent_of c llc_snap size u out).sending ≡ Sent n
    → Demand2 c llc_snap size u (take n (sent_of c llc_snap size u out).output)
