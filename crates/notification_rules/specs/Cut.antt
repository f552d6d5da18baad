-- Bytes cut into items that stand back to back, each as long as its own first bytes say.
use Rattle.std.specs.Prelude.{ℕ, zero, suc, ◌+◌, Bool, true, false, not, List, [], ◌∷◌, length, take, drop, leb, ltb}
use Rattle.wire.specs.Choice.{pick, both}
use Rattle.wire.specs.Part.{Part, part}

-- how many bytes the item at the front takes
abbrev pub Size : Type 0
Size = List ℕ → ℕ

-- the items, and the bytes after the last whole one
pub record Cut : Type 0 where
  pub items : List (List ℕ)
  pub left : List ℕ

abbrev pub stop : List ℕ → Cut
stop s = record { items = []; left = s }

abbrev pub more : List ℕ → Cut → Cut
more b c = record { items = b ∷ c.items; left = c.left }

-- a whole item stands at the front
unfoldable pub whole : Size → List ℕ → Bool
whole size s = both (ltb 0 (size s)) (leb (size s) (length s))

-- one item after another; the number bounds how many
unfoldable pub cut_within : Size → ℕ → List ℕ → Cut
cut_within size zero s = stop s
cut_within size (suc k) s = pick (whole size s) (more (take (size s) s) (cut_within size k (drop (size s) s))) (stop s)

-- no more items than bytes
unfoldable pub cut_of : Size → List ℕ → Cut
cut_of size s = cut_within size (length s) s

-- ---- lists
abbrev pub is_nil : {A : Type 0} → List A → Bool
is_nil [] = true
is_nil (x ∷ s) = false

-- every member passes a test
unfoldable pub every : {A : Type 0} → (A → Bool) → List A → Bool
every f [] = true
every f (x ∷ xs) = both (f x) (every f xs)

-- a member passes a test
unfoldable pub any : {A : Type 0} → (A → Bool) → List A → Bool
any f [] = false
any f (x ∷ xs) = pick (f x) true (any f xs)

-- the number of members is odd
unfoldable pub odd : {A : Type 0} → List A → Bool
odd [] = false
odd (x ∷ xs) = not (odd xs)

-- ---- where an item stands
-- items back to back from an offset on
unfoldable pub from_offset : ℕ → List (List ℕ) → List Part
from_offset o [] = []
from_offset o (b ∷ bs) = part o b ∷ from_offset (o + length b) bs
