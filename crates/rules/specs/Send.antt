-- What the sender writes and refuses: document 01, 'The sender'; document 02, requests 3 and 7.
use Rattle.std.specs.Prelude.{ℕ, zero, suc, ◌+◌, ◌*◌, ◌-◌, ◌/◌, max, ◌≡◌, Bool, not, length, take, drop, eqb, leb, ltb, Result}
use mathlib.Core.List.{List, [], ◌∷◌, ◌++◌, flatten}
use Rattle.wire.specs.Bytes.{over}
use Rattle.wire.specs.Choice.{pick, both, Line, line, first_of}
use Rattle.rules.specs.declared.Settings.{Settings}
use Rattle.rules.specs.declared.Refusal.{Refusal}
use Rattle.rules.specs.Answers.{Sending, Sent, Unsent}
use Rattle.rules.specs.Section.{section_of}
use Rattle.rules.specs.Told.{sending_told}
use Rattle.rules.specs.Step.{good_settings}
use Rattle.rules.specs.UnitEnd.{ends_at, unit_end}

-- ---- the answers
-- the paper's number of an answer
unfoldable pub sending_number : Sending → ℕ
sending_number (Sent n) = 0
sending_number (Unsent n) = n

-- the total length that an answer gives
unfoldable pub sending_length : Sending → ℕ
sending_length (Sent n) = n
sending_length (Unsent n) = 0

-- ---- the sections of a unit
-- how many: pieces of n bytes, the last one the rest; an empty unit gives one section
unfoldable pub section_count : ℕ → List ℕ → ℕ
section_count n u = max 1 ((length u + (n - 1)) / n)

-- piece i: n bytes, or the rest
unfoldable pub piece : ℕ → List ℕ → ℕ → List ℕ
piece n u i = take n (drop (i * n) u)

-- section i: header, piece, CRC_32
unfoldable pub section_at : Settings → Bool → ℕ → List ℕ → ℕ → List ℕ
section_at c llc_snap n u i = section_of c.address llc_snap i (section_count n u - 1) (piece n u i)

-- the sections before number k
unfoldable pub sections_to : Settings → Bool → ℕ → List ℕ → ℕ → List (List ℕ)
sections_to c llc_snap n u zero = []
sections_to c llc_snap n u (suc k) = sections_to c llc_snap n u k ++ (section_at c llc_snap n u k ∷ [])

-- all sections of the unit
unfoldable pub sections : Settings → Bool → ℕ → List ℕ → List (List ℕ)
sections c llc_snap n u = sections_to c llc_snap n u (section_count n u)

-- ---- the refusals, in the paper's order
-- 10: range not 1 to 6, or section limit not 1 to 255; 50: piece size not 1 to 4,080; 51: unit over 65,535; 54: it does not end where its
-- bytes do; 52: more sections than the limit; 53: output buffer shorter than the sections
unfoldable pub send_lines : Settings → Bool → ℕ → List ℕ → List ℕ → List Line
send_lines c llc_snap n u out =
    line 10 (not (good_settings c))
    ∷ line 50 (not (both (leb 1 n) (leb n 4080)))
    ∷ line 51 (ltb 65535 (length u))
    ∷ line 54 (not (ends_at (length u) (unit_end llc_snap u)))
    ∷ line 52 (ltb c.limit (section_count n u))
    ∷ line 53 (ltb (length out) (length (flatten (sections c llc_snap n u))))
    ∷ []

-- ---- the outcome
pub record SendOutcome : Type 0 where
  pub sending : Sending
  pub output : List ℕ

-- the sections from the start of the output, what is after them as it was
unfoldable pub written : Settings → Bool → ℕ → List ℕ → List ℕ → SendOutcome
written c llc_snap n u out =
    let bytes : List ℕ = flatten (sections c llc_snap n u) in
    record { sending = Sent (length bytes); output = over bytes out }

-- a refusal writes nothing
unfoldable pub sent_of : Settings → Bool → ℕ → List ℕ → List ℕ → SendOutcome
sent_of c llc_snap n u out =
    let refusal : ℕ = first_of (send_lines c llc_snap n u out) in
    pick (eqb refusal 0) (written c llc_snap n u out) (record { sending = Unsent refusal; output = out })

-- the piece size where a caller gives none: document 02, request 7
abbrev pub default_piece : ℕ
default_piece = 1008

-- an answer of the code's and an output are those of an outcome
pub record Sends (o : SendOutcome) (r : Result ℕ Refusal) (out : List ℕ) : Type 0 where
  pub sending : sending_told r ≡ o.sending
  pub output : out ≡ o.output
