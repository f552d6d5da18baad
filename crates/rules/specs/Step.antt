-- What one section does to the receiver: document 01, 'The receiver'; document 02, requests 3 and 5. The answer, the state after and the
-- buffer after.
use Rattle.std.specs.Prelude.{ℕ, ◌+◌, ◌*◌, min, ◌≡◌, List, [], ◌∷◌, ◌++◌, Bool, true, not, length, take, ltb, leb, eqb, Option, Some, None}
use Rattle.std.specs.Bool.{beq}
use Rattle.std.proofs.Math.Seq.{paste}
use Rattle.wire.specs.Choice.{pick, both, Line, line, first_of}
use Rattle.rules.specs.declared.Settings.{Settings}
use Rattle.rules.specs.declared.State.{State}
use Rattle.rules.specs.declared.State.TheVariants.{Idle, Open}
use Rattle.rules.specs.Answers.{Answer, Delivered, Stored, PassedBy, Refused, Step}
use Rattle.rules.specs.declared.Step.{Step as CodeStep}
use Rattle.rules.specs.Told.{step_told}
use Rattle.rules.specs.declared.Key.{Key}
use Rattle.rules.specs.Address.{same_address}
use Rattle.rules.specs.Check.{check_lines}
use Rattle.rules.specs.Section.{address, payload_scrambling_control, llc_snap_flag, section_number, last_section_number, payload}
use Rattle.rules.specs.UnitEnd.{unit_end}

-- ---- the answers
-- the paper's number of an answer
unfoldable pub number_of : Answer → ℕ
number_of (Delivered n) = 0
number_of Stored = 1
number_of PassedBy = 2
number_of (Refused n) = n

-- the unit length that an answer carries
unfoldable pub length_of : Answer → ℕ
length_of (Delivered n) = n
length_of Stored = 0
length_of PassedBy = 0
length_of (Refused n) = 0

-- ---- settings and states
-- range 1 to 6, section limit 1 to 255
unfoldable pub good_settings : Settings → Bool
good_settings c = both (both (leb 1 c.range) (leb c.range 6)) (both (leb 1 c.limit) (leb c.limit 255))

-- 1 ≤ e ≤ L ≤ 254, f ≤ 65,535 and f ≤ 4,080 e
unfoldable pub good_run : ℕ → ℕ → ℕ → Bool
good_run e l f = both (both (leb 1 e) (both (leb e l) (leb l 254))) (both (leb f 65535) (leb f (4080 * e)))

-- an open run's kept bytes are also the own where compared: document 02, request 5
unfoldable pub good_state : Settings → State → Bool
good_state c Idle = true
good_state c (Open e f κ) = both (good_run e κ.last f) (same_address c.range c.address κ.address)

-- 10 and 11, before a section is looked at
unfoldable pub setup_lines : Settings → State → List Line
setup_lines c σ = line 10 (not (good_settings c)) ∷ line 11 (not (good_state c σ)) ∷ []

-- ---- runs
-- what a section says of its run
unfoldable pub key_of : List ℕ → Key
key_of s = record { address = address s; last = last_section_number s; llc_snap = llc_snap_flag s }

-- all six bytes of the address, whatever the range: document 02, request 5
unfoldable pub same_key : Key → Key → Bool
same_key a b = both (same_address 6 a.address b.address) (both (eqb a.last b.last) (beq a.llc_snap b.llc_snap))

-- the section goes on with an open run: its number is e, and it has the run's address, last number and flag
unfoldable pub continues : ℕ → Key → List ℕ → Bool
continues e κ s = both (eqb (section_number s) e) (same_key (key_of s) κ)

-- where a payload goes
pub data Fill : Type 0 where
  Nowhere : Fill
  From : ℕ → Fill

-- after what the open run has filled
unfoldable pub onward : State → List ℕ → Fill
onward Idle s = Nowhere
onward (Open e f κ) s = pick (continues e κ s) (From f) Nowhere

-- number 0 starts a run and forgets any open one
unfoldable pub fill_from : State → List ℕ → Fill
fill_from σ s = pick (eqb (section_number s) 0) (From 0) (onward σ s)

-- ---- what is tested of a sound section
-- the bytes of its address that are compared are the own
unfoldable pub ours : Settings → List ℕ → Bool
ours c s = same_address c.range c.address (address s)

-- 20: payload_scrambling_control is not 00
unfoldable pub payload_scrambled : List ℕ → Bool
payload_scrambled s = not (eqb (payload_scrambling_control s) 0)

-- 21: last_section_number + 1 is above the section limit
unfoldable pub over_limit : Settings → List ℕ → Bool
over_limit c s = ltb c.limit (last_section_number s + 1)

-- of a section for this address
unfoldable pub own_lines : Settings → List ℕ → List Line
own_lines c s = line 20 (payload_scrambled s) ∷ line 21 (over_limit c s) ∷ []

-- the first of 20 and 21 that applies, else 0
unfoldable pub own_refusal : Settings → List ℕ → ℕ
own_refusal c s = first_of (own_lines c s)

-- the smaller of 65,535 and the buffer's length
unfoldable pub room : List ℕ → ℕ
room b = min 65535 (length b)

-- ---- outcomes
pub record Outcome : Type 0 where
  pub step : Step
  pub buffer : List ℕ

abbrev pub outcome : Answer → State → List ℕ → Outcome
outcome a σ b = record { step = record { answer = a; state = σ }; buffer = b }

-- a refusal drops the run and changes no byte
abbrev pub refuse : ℕ → List ℕ → Outcome
refuse n b = outcome (Refused n) Idle b

-- refused by the first line that applies; the outcome where none does
unfoldable pub refuse_first : List Line → List ℕ → Outcome → Outcome
refuse_first lines b o = pick (eqb (first_of lines) 0) o (refuse (first_of lines) b)

-- the payload laid over the buffer from f on
unfoldable pub laid : ℕ → List ℕ → List ℕ → List ℕ
laid f s b = paste b f (payload s) (length (payload s))

-- what is filled of the buffer, and the payload after it
unfoldable pub joined_with : ℕ → List ℕ → List ℕ → List ℕ
joined_with f s b = take f b ++ payload s

-- the unit is delivered up to its end, and the buffer is as `after` has it; 25: there is no end, and nothing is stored
unfoldable pub up_to : Option ℕ → List ℕ → List ℕ → Outcome
up_to (Some n) b after = outcome (Delivered n) Idle after
up_to None b after = refuse 25 b

-- the payload is the unit's last part, and what is after the unit's end stays in the buffer
unfoldable pub finish : ℕ → List ℕ → List ℕ → Outcome
finish f s b = up_to (unit_end (llc_snap_flag s) (joined_with f s b)) b (laid f s b)

-- number L finishes the unit; any other is stored, and the run is open
unfoldable pub keep : ℕ → List ℕ → List ℕ → Outcome
keep f s b =
    pick (eqb (section_number s) (last_section_number s))
    (finish f s b)
    (outcome Stored (Open (section_number s + 1) (f + length (payload s)) (key_of s)) (laid f s b))

-- 22: neither number 0 nor the right continuation; 23: f and the payload are above the room
unfoldable pub lay : Fill → List ℕ → List ℕ → Outcome
lay Nowhere s b = refuse 22 b
lay (From f) s b = pick (leb (f + length (payload s)) (room b)) (keep f s b) (refuse 23 b)

-- the table of document 01, line by line: 10, 11, 12 to 19 with 24 among them, 2, 20, 21, then 22, 23, 25, 1, 0
unfoldable pub step_of : Settings → State → List ℕ → List ℕ → Outcome
step_of c σ s b =
    refuse_first (setup_lines c σ) b
    (refuse_first (check_lines s) b (pick (ours c s) (refuse_first (own_lines c s) b (lay (fill_from σ s) s b)) (outcome PassedBy σ b)))

-- a gap notice makes any state idle
unfoldable pub gap_of : State → State
gap_of σ = Idle

-- an answer, a state and a buffer of the code's are those of an outcome
pub record Does (o : Outcome) (r : CodeStep) (b : List ℕ) : Type 0 where
  pub step : step_told r ≡ o.step
  pub buffer : b ≡ o.buffer
