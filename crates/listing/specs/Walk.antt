-- Where the program stands in a recording, of which it has some bytes at hand, and what it still owes the output.
use Rattle.std.specs.Prelude.{◌≡◌, ℕ, ◌+◌, ◌-◌, ◌%◌, ◌^◌, ◌≤◌, Bool, true, false, not, ◌⊎◌, List, [], ◌++◌, length, take, drop, ◌==◌, nat_le, nat_lt, Result, Ok, IsOkUnless}
use Rattle.wire.specs.Choice.{pick, both, either}
use Rattle.stream.specs.declared.Failure.{Failure}
use Rattle.stream.specs.declared.Failure.TheVariants.{Writing}
use Rattle.stream.specs.Words.{count_of, lost}
use Rattle.rules.specs.declared.Settings.{Settings}
use Rattle.rules.specs.Section.{section_length}
use Rattle.rules.specs.Recording.{offer_length, offers}
use Rattle.rules.specs.Step.{Outcome, step_of}
use Rattle.listing.specs.Text.{line}
use Rattle.listing.specs.Lines.{lines_of}
use Rattle.listing.specs.declared.Rest.{Rest}
use Rattle.listing.specs.declared.Rest.TheVariants.{Open, Closed, Unreadable}
use Rattle.listing.specs.declared.Window.{Window}
use Rattle.listing.specs.declared.Walk.{Walk}

-- ---- the input
-- the input has ended: nothing comes after the bytes at hand
abbrev pub has_ended : Rest → Bool
has_ended Open = false
has_ended Closed = true
has_ended Unreadable = true

-- a read of it failed
abbrev pub is_unreadable : Rest → Bool
is_unreadable Open = false
is_unreadable Closed = false
is_unreadable Unreadable = true

abbrev pub at_hand : Window → List ℕ
at_hand w = take (w.end - w.start) (drop w.start w.bytes)

-- what may be left of the recording: the bytes at hand and, unless the input has ended, any others after them
pub record Left (w : Window) (rest : List ℕ) : Type 0 where
  pub front : take (w.end - w.start) rest ≡ at_hand w
  pub all : has_ended w.rest ≡ true → length rest ≤ w.end - w.start

-- the bytes hold a whole offer: 3 + section_length of them, whatever comes after them
unfoldable pub whole : List ℕ → Bool
whole s = nat_le (3 + section_length s) (length s)

-- an offer may be cut: the input has ended, or a whole offer is at hand
unfoldable pub ready : Window → Bool
ready w = either (has_ended w.rest) (whole (at_hand w))

-- a read gave so many bytes more; with none the input has ended, and a failure is remembered
pub record Came (w : Window) (got : Result ℕ Failure) (r : Window) : Type 0 where
  pub bytes : r.bytes ≡ w.bytes
  pub start : r.start ≡ w.start
  pub end : r.end ≡ w.end + count_of got
  pub ended : has_ended r.rest ≡ (count_of got == 0)
  pub unreadable : is_unreadable r.rest ≡ either (lost got) (is_unreadable w.rest)

-- more is read, or the bytes at hand are moved: what may be left after that may have been left before, and the input has ended only
-- where nothing more came
pub record Kept (w r : Window) : Type 0 where
  pub left : (rest : List ℕ) → Left r rest → Left w rest
  pub ended : has_ended r.rest ≡ true → r.end - r.start ≡ w.end - w.start
  pub unreadable : is_unreadable w.rest ≡ true → is_unreadable r.rest ≡ true

-- all of the input is offered
abbrev pub Offered : Window → Type 0
Offered w = (has_ended w.rest ≡ true) × (w.start ≡ w.end)

-- the bytes at hand and what may follow them are as they were
pub record Same (w r : Window) : Type 0 where
  pub bytes : r.bytes ≡ w.bytes
  pub start : r.start ≡ w.start
  pub end : r.end ≡ w.end
  pub rest : r.rest ≡ w.rest

-- nothing but what the output's buffer holds may change
pub record Stays (w r : Walk) : Type 0 where
  pub input : Same w.input r.input
  pub unit : r.unit ≡ w.unit
  pub offset : r.offset ≡ w.offset
  pub state : r.state ≡ w.state

-- ---- one offer
abbrev pub offered : Window → List ℕ
offered w = take (offer_length (at_hand w)) (drop w.start w.bytes)

abbrev pub outcome_of : Settings → Walk → Outcome
outcome_of c w = step_of c w.state (offered w.input) w.unit

-- the offer goes to the receiver, and its line into the output's buffer
pub record Served (c : Settings) (w r : Walk) : Type 0 where
  pub bytes : r.input.bytes ≡ w.input.bytes
  pub start : r.input.start ≡ w.input.start + offer_length (at_hand w.input)
  pub end : r.input.end ≡ w.input.end
  pub rest : r.input.rest ≡ w.input.rest
  pub offset : r.offset ≡ (w.offset + offer_length (at_hand w.input)) % 2 ^ 64
  pub state : r.state ≡ (outcome_of c w).step.state
  pub unit : r.unit ≡ (outcome_of c w).buffer
  pub text : r.output.bytes ≡ w.output.bytes ++ line w.offset (outcome_of c w).step.answer

-- ---- the output
-- a line, of three numbers of up to 20 digits, may not fit after what the output's buffer holds
unfoldable pub full : Walk → Bool
full w = nat_lt (65536 - length w.output.bytes) 63

-- a write is due, where t says whether an offer may be cut: a line may not fit, or the buffer holds something and the turn would read,
-- which may wait
unfoldable pub due : Walk → Bool → Bool
due w t = either (full w) (both (not t) (nat_lt 0 (length w.output.bytes)))

-- a write of all that the output's buffer holds answered t, which is answered: the buffer is empty then
pub record Wrote (w : Walk) (t q : Result Unit Failure) (r : Walk) : Type 0 where
  pub told : q ≡ t
  pub out : r.output.bytes ≡ []
  pub stays : Stays w r

-- a write is given `text`, all that the output's buffer holds; it may fail
pub record Gave (w : Walk) (text : List ℕ) (r : Walk) : Type 0 where
  pub given : text ≡ w.output.bytes
  pub out : r.output.bytes ≡ []
  pub stays : Stays w r

-- what a turn gives to a write
unfoldable pub written : Walk → List ℕ
written w = pick (due w (ready w.input)) w.output.bytes []

-- what the output is still to get where `rest` is left: what its buffer holds, and the lines of the rest
unfoldable pub owed : Settings → Walk → List ℕ → List ℕ
owed c w rest = w.output.bytes ++ lines_of c w.offset w.state w.unit (offers rest)

-- ---- one turn
-- nothing is read
pub record Unread (w r : Window) : Type 0 where
  pub bytes : r.bytes ≡ w.bytes
  pub end : r.end ≡ w.end
  pub rest : r.rest ≡ w.rest

-- a turn may read, and wait: no offer may be cut from the bytes at hand, and nothing is to be written
pub record Waits (w : Walk) : Type 0 where
  pub unready : ready w.input ≡ false
  pub empty : length w.output.bytes ≡ 0

-- some bytes of the recording are offered, and what was owed is what the turn writes and what is owed after it, whatever is left then; only
-- a turn that writes can fail; a turn reads only where every line of the offers that have come is written; a failed read is not forgotten
pub record Turned (c : Settings) (w : Walk) (q : Result Unit Failure) (r : Walk) : Type 0 where
  pub took : List ℕ
  pub left : (rest : List ℕ) → Left r.input rest → Left w.input (took ++ rest)
  pub same : (rest : List ℕ) → Left r.input rest → owed c w (took ++ rest) ≡ written w ++ owed c r rest
  pub failed : due w (ready w.input) ≡ false → q ≡ Ok tt
  pub told : IsOkUnless q Writing
  pub reads : Unread w.input r.input ⊎ Waits w
  pub unreadable : is_unreadable w.input.rest ≡ true → is_unreadable r.input.rest ≡ true
