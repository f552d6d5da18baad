-- What the turns give to their writes, one after the other. What the system's reads and writes move cannot be said.
use Rattle.std.specs.Prelude.{◌≡◌, ℕ, ◌+◌, ◌-◌, ◌^◌, true, false, ◌⊎◌, List, [], ◌++◌, Result, Ok, Err, is_err, IsOkUnless}
use Rattle.wire.specs.Choice.{pick}
use Rattle.stream.specs.declared.Failure.{Failure}
use Rattle.stream.specs.declared.Failure.TheVariants.{Reading, Writing}
use Rattle.rules.specs.declared.Settings.{Settings}
use Rattle.rules.specs.Recording.{listing_settings, offers}
use Rattle.listing.specs.Lines.{lines_of, listing}
use Rattle.listing.specs.Walk.{has_ended, is_unreadable, Left, Offered, Gave, written, owed, Waits, Turned}
use Rattle.listing.specs.declared.Walk.{Walk}

-- turns from w to r, with so many left of 2^64 - 1, of which the last answered q: they offer the bytes `read` of the recording and give their
-- writes `text`, joined; no turn follows one that failed
pub data Turns (c : Settings) (w : Walk) : ℕ → List ℕ → List ℕ → Walk → Result Unit Failure → Type 0 where
  begun : Turns c w (2 ^ 64 - 1) [] [] w (Ok tt)
  turned : {k : ℕ} {read text : List ℕ} {r r' : Walk} {q : Result Unit Failure} → Turns c w (k + 1) read text r (Ok tt)
      → (t : Turned c r q r') → Turns c w k (read ++ t.took) (text ++ written r) r' q

-- where the turns have come to, with k left
pub record Walked (c : Settings) (w : Walk) (k : ℕ) (q : Result Unit Failure) (r : Walk) : Type 0 where
  pub read : List ℕ
  pub text : List ℕ
  pub turns : Turns c w k read text r q
  pub told : IsOkUnless q Writing

-- they end where all is offered, where a write failed, or with no turn left
pub record Ended (c : Settings) (w : Walk) (q : Result Unit Failure) (r : Walk) : Type 0 where
  pub left : ℕ
  pub walked : Walked c w left q r
  pub ends : Offered r.input ⊎ ((is_err q ≡ true) ⊎ (left ≡ 0))

-- the input has not ended, by a read that failed or without, and nothing is at hand
abbrev pub Fresh : Walk → Type 0
Fresh w = (has_ended w.input.rest ≡ false) × (w.input.end ≡ 0)

-- what has failed, where the writes answered q: the input, where both have, since nothing is read after a write that failed
unfoldable pub failure_of : Walk → Result Unit Failure → Result Unit Failure
failure_of w q = pick (is_unreadable w.input.rest) (Err Reading) q

-- turns from a fresh start to an end, and a write of what their last lines leave: what the writes were given, joined, is the listing of what was
-- offered; where not all is offered, the listing goes on with what is owed; wherever a turn may wait for input, the writes before it were
-- given every line of what was offered; where nothing has failed, all is offered, unless no turn was left
pub record Listed (start : Walk) (q : Result Unit Failure) (r : Walk) : Type 0 where
  pub fresh : Fresh start
  pub end : Walk
  pub stop : Result Unit Failure
  pub ended : Ended listing_settings start stop end
  pub final : List ℕ
  pub gave : Gave end final r
  pub kept : is_err stop ≡ true → q ≡ stop
  pub told : IsOkUnless q Writing
  pub goes_on : (rest : List ℕ) → Left r.input rest
      → listing (ended.walked.read ++ rest) ≡ (ended.walked.text ++ final) ++ owed listing_settings r rest
  pub whole : Offered r.input → listing ended.walked.read ≡ ended.walked.text ++ final
  pub silent : failure_of r q ≡ Ok tt → Offered r.input ⊎ (ended.left ≡ 0)
  pub live : {k : ℕ} {read text : List ℕ} {w : Walk} {p : Result Unit Failure} → Turns listing_settings start k read text w p → Waits w
      → (rest : List ℕ) → Left w.input rest
      → listing (read ++ rest) ≡ text ++ lines_of listing_settings w.offset w.state w.unit (offers rest)
