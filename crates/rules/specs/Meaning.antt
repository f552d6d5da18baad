-- What each number means, in the papers' order and words: document 01, 'The receiver', 'The sender'; document 02, requests 2, 3, 5 and 7.
-- By bytes, bits and lengths, with none of the receiver's own tests. Theorems, shown in proofs/Meaning.antt and, of request 2, proofs/Split.antt.
use Rattle.std.specs.Prelude.{ℕ, zero, suc, ◌+◌, ◌*◌, ◌-◌, ◌%◌, ◌^◌, ◌≤◌, ◌<◌, min, ◌≡◌, ◌↔◌, ◌≢◌, ◌⊎◌, List, [], ◌∷◌, ◌++◌, Bool, false, drop, length, take}
use Rattle.wire.specs.Bytes.{bit, bits, byte_at, number_at}
use Rattle.wire.specs.Choice.{pick}
use Rattle.wire.specs.Meaning.{FirstThat, otherwise, Outside, Row, ◌means◌}
use Rattle.rules.specs.declared.Address.{Address}
use Rattle.rules.specs.declared.Settings.{Settings}
use Rattle.rules.specs.declared.State.{State}
use Rattle.rules.specs.declared.State.TheVariants.{Idle, Open}
use Rattle.rules.specs.Address.{address_bytes, LastEqual}
use Rattle.rules.specs.Check.{check}
use Rattle.rules.specs.Crc.{crc32}
use Rattle.rules.specs.Send.{default_piece, sending_number, sent_of}
use Rattle.rules.specs.Step.{number_of, step_of}
use Rattle.rules.specs.UnitEnd.{NoDatagram, NotOneDatagram}

-- ---- sections
-- section_length: the low 12 bits of bytes 1 and 2
abbrev pub length_stated : List ℕ → ℕ
length_stated s = number_at 2 s 1 % 2 ^ 12

-- 12 to 14, which the tables share: the fewest bytes of a section, and its table_id
abbrev pub rows12to14 : ℕ → ℕ → List ℕ → List Row
rows12to14 fewest table s =
    12 means (length s < fewest)
    ∷ 13 means (byte_at s 0 ≢ table)
    ∷ 14 means ((4093 < length_stated s) ⊎ (length_stated s + 3 ≢ length s))
    ∷ []

-- 16 to 18, which the tables share
abbrev pub rows16to18 : List ℕ → List Row
rows16to18 s =
    16 means (number_at 4 s (length s - 4) ≢ crc32 (take (length s - 4) s))
    ∷ 17 means (bit 0 (byte_at s 5) ≡ 0)
    ∷ 18 means (byte_at s 7 < byte_at s 6)
    ∷ []

-- and 19, address scrambling, of the datagram section
abbrev pub rows16to19 : List ℕ → List Row
rows16to19 s = rows16to18 s ++ (19 means (bits 3 2 (byte_at s 5) ≢ 0) ∷ [])

-- the checksum form: section_syntax_indicator 0, private_indicator 1
abbrev pub InChecksumForm : List ℕ → Type 0
InChecksumForm s = (bit 7 (byte_at s 1) ≡ 0) × (bit 6 (byte_at s 1) ≡ 1)

-- document 02, request 2: 24 for the checksum form, at 15's place; 15 for the two cases where both bits are equal
abbrev pub section_rows : List ℕ → List Row
section_rows s =
    rows12to14 16 0x3E s
    ++ (24 means InChecksumForm s
    ∷ 15 means (bit 7 (byte_at s 1) ≡ bit 6 (byte_at s 1))
    ∷ rows16to19 s)

abbrev pub check_rows : List ℕ → List Row
check_rows s = section_rows s ++ (0 means otherwise ∷ [])

abbrev pub CheckMeans : Type 0
CheckMeans = (s : List ℕ) (n : ℕ) → (check s ≡ n) ↔ FirstThat n (check_rows s)

-- ---- what request 2 changed, and what not
-- document 01's table: 15 for section_syntax_indicator not 1, or private_indicator not 0
abbrev pub rows_of01 : List ℕ → List Row
rows_of01 s =
    rows12to14 16 0x3E s
    ++ (15 means ((bit 7 (byte_at s 1) ≢ 1) ⊎ (bit 6 (byte_at s 1) ≢ 0))
    ∷ (rows16to19 s
    ++ (0 means otherwise
    ∷ [])))

-- the check answers what document 01's table does, m, but 24 exactly where m is 15 and the section in the checksum form
abbrev pub FifteenSplits : Type 0
FifteenSplits =
    (s : List ℕ) (n : ℕ)
    → (check s ≡ n) ↔ ((m : ℕ) × FirstThat m (rows_of01 s) × FirstThat n (24 means ((m ≡ 15) × InChecksumForm s) ∷ m means otherwise ∷ []))

-- ---- settings and states
pub record Good (c : Settings) : Type 0 where
  pub range1 : 1 ≤ c.range
  pub range6 : c.range ≤ 6
  pub limit1 : 1 ≤ c.limit
  pub limit255 : c.limit ≤ 255

-- for this address: as many of the last bytes as the range says are the own address's
abbrev pub Own : Settings → Address → Type 0
Own c a = LastEqual c.range (address_bytes c.address) (address_bytes a)

-- 1 ≤ e ≤ L ≤ 254, f ≤ 65,535 and f ≤ 4,080 e; the kept bytes are the own where compared (document 02, request 5)
unfoldable pub GoodState : Settings → State → Type 0
GoodState c Idle = Unit
GoodState c (Open e f κ) =
    (1 ≤ e) × (e ≤ κ.last) × (κ.last ≤ 254) × (f ≤ 65535) × (f ≤ 4080 * e) × Own c κ.address

-- ---- the receiver
-- MAC_address_1 to 6 of a section, as an address is printed
abbrev pub printed : List ℕ → Address
printed s =
    record { mac1 = byte_at s 11; mac2 = byte_at s 10; mac3 = byte_at s 9; mac4 = byte_at s 8; mac5 = byte_at s 4; mac6 = byte_at s 3 }

-- the number is e, the last number L, the LLC_SNAP_flag the run's, and so are all six bytes of the address (document 02, request 5)
unfoldable pub GoesOn : State → List ℕ → Type 0
GoesOn Idle s = ⊥
GoesOn (Open e f κ) s =
    (byte_at s 6 ≡ e) × (byte_at s 7 ≡ κ.last) × (bit 1 (byte_at s 5) ≡ pick κ.llc_snap 1 0) × (printed s ≡ κ.address)

-- f, and 0 for number 0
unfoldable pub filled_before : State → ℕ → ℕ
filled_before σ zero = 0
filled_before Idle (suc i) = 0
filled_before (Open e f κ) (suc i) = f

-- what is stored of a section: from byte 12 up to the last four
abbrev pub stored : List ℕ → List ℕ
stored s = take (length s - 16) (drop 12 s)

-- the payloads of the run, joined up to this section's: what the buffer has before f, whoever wrote it there, and what is stored of s
abbrev pub joined_up : State → List ℕ → List ℕ → List ℕ
joined_up σ s b = take (filled_before σ (byte_at s 6)) b ++ stored s

abbrev pub receiver_rows : Settings → State → List ℕ → List ℕ → List Row
receiver_rows c σ s b =
    10 means (¬ Good c)
    ∷ 11 means (¬ GoodState c σ)
    ∷ (section_rows s
    ++ (2 means (¬ Own c (printed s))
    ∷ 20 means (bits 5 4 (byte_at s 5) ≢ 0)
    ∷ 21 means (c.limit < byte_at s 7 + 1)
    ∷ 22 means ((byte_at s 6 ≢ 0) × (¬ GoesOn σ s))
    ∷ 23 means (min 65535 (length b) < filled_before σ (byte_at s 6) + (length s - 16))
    ∷ 25 means ((byte_at s 6 ≡ byte_at s 7) × (bit 1 (byte_at s 5) ≡ 0) × NoDatagram (joined_up σ s b))
    ∷ 1 means (byte_at s 6 ≢ byte_at s 7)
    ∷ 0 means (byte_at s 6 ≡ byte_at s 7)
    ∷ []))

abbrev pub ReceiverMeans : Type 0
ReceiverMeans =
    (c : Settings) (σ : State) (s b : List ℕ) (n : ℕ) → (number_of (step_of c σ s b).step.answer ≡ n) ↔ FirstThat n (receiver_rows c σ s b)

-- ---- the sender
-- the unit is cut into k sections: the fewest, but one at least, whose pieces hold it
pub record CutInto (size : ℕ) (u : List ℕ) (k : ℕ) : Type 0 where
  pub some : 1 ≤ k
  pub holds : length u ≤ k * size
  pub fewest : (j : ℕ) → 1 ≤ j → length u ≤ j * size → k ≤ j

-- a section has its piece of the unit and 16 bytes more
abbrev pub sender_rows : Settings → Bool → ℕ → List ℕ → List ℕ → List Row
sender_rows c llc_snap size u out =
    10 means (¬ Good c)
    ∷ 50 means (Outside 1 4080 size)
    ∷ 51 means (65535 < length u)
    ∷ 54 means ((llc_snap ≡ false) × NotOneDatagram u)
    ∷ 52 means ((k : ℕ) × CutInto size u k × (c.limit < k))
    ∷ 53 means ((k : ℕ) × CutInto size u k × (length out < length u + 16 * k))
    ∷ 0 means otherwise
    ∷ []

abbrev pub SenderMeans : Type 0
SenderMeans =
    (c : Settings) (llc_snap : Bool) (size : ℕ) (u out : List ℕ) (n : ℕ)
    → (sending_number (sent_of c llc_snap size u out).sending ≡ n) ↔ FirstThat n (sender_rows c llc_snap size u out)

-- where no piece size is given it is 1,008: document 02, request 7
abbrev pub DefaultMeans : Type 0
DefaultMeans =
    (c : Settings) (llc_snap : Bool) (u out : List ℕ) (n : ℕ)
    → (sending_number (sent_of c llc_snap default_piece u out).sending ≡ n) ↔ FirstThat n (sender_rows c llc_snap 1008 u out)
