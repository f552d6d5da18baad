-- What the piece size decides: how long a unit may be, and how long its sections are. Document 02, request 7: the field boxes of the second
-- series hold only sections of 1,024 bytes, so where no piece size is given it is 1,008. A theorem, shown in proofs/Pieces.antt.
use Rattle.std.specs.Prelude.{ℕ, ◌+◌, ◌*◌, ◌≤◌, ◌<◌, ◌≡◌, ◌↔◌, List, ◌∷◌, ◌++◌, Bool, false, length, take}
use Rattle.rules.specs.declared.Settings.{Settings}
use Rattle.rules.specs.Meaning.{Good}
use Rattle.rules.specs.Recording.{offers}
use Rattle.rules.specs.Send.{default_piece, sending_length, sending_number, SendOutcome, sent_of}
use Rattle.rules.specs.UnitEnd.{NotOneDatagram}

-- a unit in pieces of so many bytes: the number of the answer, and the bytes sent, to an output with so much room
pub record InPiecesOf (piece longest : ℕ) (c : Settings) (u : List ℕ) (room number : ℕ) (sent : List ℕ) : Type 0 where
  -- 52 exactly where the unit is longer than as many pieces as the section limit
  pub over : (number ≡ 52) ↔ (piece * c.limit < length u)
  -- else, with room for as many sections, it is sent: a section has 16 bytes beside its piece
  pub within : length u + 16 * c.limit ≤ room → (number ≡ 0) ↔ (length u ≤ piece * c.limit)
  -- and no section, cut as the listing cuts, is longer than that
  pub sections : number ≡ 0 → (front back : List (List ℕ)) (s : List ℕ) → offers sent ≡ front ++ (s ∷ back) → length s ≤ longest

-- where no piece size is given and none of 10, 51 and 54 applies, a unit has at most 1,008 bytes for each section of the limit, and a
-- section 1,024: number and total length, and the output after it
abbrev pub SmallSections : Settings → Bool → List ℕ → List ℕ → ℕ → ℕ → List ℕ → Type 0
SmallSections c llc_snap u out number total output =
    Good c → length u ≤ 65535 → ¬ ((llc_snap ≡ false) × NotOneDatagram u) → InPiecesOf 1008 1024 c u (length out) number (take total output)

abbrev pub SmallByDefault : Type 0
SmallByDefault =
    (c : Settings) (llc_snap : Bool) (u out : List ℕ) → let o : SendOutcome = sent_of c llc_snap default_piece u out in
    SmallSections c llc_snap u out (sending_number o.sending) (sending_length o.sending) o.output
