-- What the archive sender sends, and what it tells of a failure.
use Rattle.std.specs.Prelude.{ℕ, ◌+◌, ◌≤◌, ◌<◌, ◌≡◌, ◌↔◌, false, List, [], length, take, Result, Ok, Err}
use denote.Ref.{Bor}
use Rattle.stream.specs.declared.Failure.{Failure}
use Rattle.stream.specs.declared.Failure.TheVariants as failure
use Rattle.archive.specs.declared.NotSent.{NotSent}
use Rattle.archive.specs.declared.NotSent.TheVariants.{Unreadable, Refused}
use Rattle.rules.specs.Told.{number}
use Rattle.rules.specs.Demand2.{Sections}
use Rattle.rules.specs.Recording.{listing_settings}
use Rattle.rules.specs.Send.{SendOutcome, sending_number, sending_length, sent_of}
use Rattle.rules.specs.UnitEnd.{NotOneDatagram}

-- what a sending says: its number, and its bytes at the start of its output
pub record Says (o : SendOutcome) (number : ℕ) (text : List ℕ) : Type 0 where
  pub told : number ≡ sending_number o.sending
  pub sent : text ≡ take (sending_length o.sending) o.output

-- a unit is cut with the listing's settings, flag 0 and pieces of 4,080 bytes, whatever the piece size where none is given: document 02, request 7
abbrev pub archived_of : List ℕ → List ℕ → SendOutcome
archived_of u out = sent_of listing_settings false 4080 u out

-- the sections go out, or nothing, and the refusal's number is told
abbrev pub Told : SendOutcome → Result (Bor (List ℕ)) NotSent → Type 0
Told o (Ok text) = Says o 0 text.now
Told o (Err (Refused r)) = Says o (number r) []
Told o (Err Unreadable) = ⊥

-- all that was read, from b, is one unit; where reading failed, nothing is said
abbrev pub Archived : Result ℕ Failure → List ℕ → List ℕ → Result (Bor (List ℕ)) NotSent → Type 0
Archived (Ok n) b out r = Told (archived_of (take n b) out) r
Archived (Err e) b out r = r ≡ Err Unreadable

-- what comes of the work, where w says whether the sections are written: reading has failed, the unit is refused, or w
abbrev pub outcome_of : Result (Bor (List ℕ)) NotSent → Result Unit Failure → Result Unit Failure
outcome_of (Ok text) w = w
outcome_of (Err Unreadable) w = Err failure.Reading
outcome_of (Err (Refused r)) w = Err failure.Refused

-- ---- what requests 3 and 7 leave it
-- what is told and sent of a unit
pub record By4080 (u : List ℕ) (room number : ℕ) (text : List ℕ) : Type 0 where
  -- without the flag what is sent is an IP datagram: anything else, an empty input too, gets 54
  pub other : (number ≡ 54) ↔ NotOneDatagram u
  -- where 54 does not apply, 65,280 bytes still go out in 16 sections, given room for them and 16 bytes beside each piece; 65,281 get 52
  pub over : ¬ NotOneDatagram u → (number ≡ 52) ↔ (65280 < length u)
  pub within : ¬ NotOneDatagram u → length u + 256 ≤ room → (number ≡ 0) ↔ (length u ≤ 65280)
  pub sections : number ≡ 0 → Sections listing_settings false 4080 u text

-- a theorem, shown in proofs/Still.antt
abbrev pub StillBy4080 : Type 0
StillBy4080 =
    (u out : List ℕ) (number : ℕ) (text : List ℕ) → length u ≤ 65535 → Says (archived_of u out) number text → By4080 u (length out) number text
