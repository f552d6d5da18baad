-- The listing of a recording: document 01, 'Listing'.
use Rattle.std.specs.Prelude.{ℕ, ◌+◌, ◌%◌, ◌^◌, List, [], ◌∷◌, ◌++◌, length, replicate}
use Rattle.rules.specs.declared.Settings.{Settings}
use Rattle.rules.specs.declared.State.{State}
use Rattle.rules.specs.declared.State.TheVariants.{Idle}
use Rattle.rules.specs.Recording.{listing_settings, offers}
use Rattle.rules.specs.Step.{step_of}
use Rattle.listing.specs.Text.{line}

-- one line per offer, the offset counted in 64 bits
unfoldable pub lines_of : Settings → ℕ → State → List ℕ → List (List ℕ) → List ℕ
lines_of c offset σ b [] = []
lines_of c offset σ b (s ∷ more) =
    line offset (step_of c σ s b).step.answer
    ++ lines_of c ((offset + length s) % 2 ^ 64) (step_of c σ s b).step.state (step_of c σ s b).buffer more

-- a fresh receiver with a buffer of 65,535 bytes is given the recording, offer by offer
unfoldable pub listing : List ℕ → List ℕ
listing recording = lines_of listing_settings 0 Idle (replicate 65535 0) (offers recording)
