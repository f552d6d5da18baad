-- Bytes laid over a buffer.
use Rattle.std.specs.Prelude.{ℕ, ◌+◌, ◌≤◌, ◌<◌, ◌≡◌, List, length}
use Rattle.std.proofs.Math.Seq.{paste}

-- the bytes s are laid over the buffer from `at` on, within it, and end at r; every other byte is as it was
pub record Puts (before : List ℕ) (at : ℕ) (s : List ℕ) (r : ℕ) (after : List ℕ) : Type 0 where
  pub room : at + length s ≤ length before
  pub end : r ≡ at + length s
  pub bytes : after ≡ paste before at s (length s)

-- the same where there is room, else nothing at all
pub record PutsIfRoom (before : List ℕ) (at : ℕ) (s : List ℕ) (r : ℕ) (after : List ℕ) : Type 0 where
  pub fits : at + length s ≤ length before → Puts before at s r after
  pub short : length before < at + length s → (r ≡ at) × (after ≡ before)
