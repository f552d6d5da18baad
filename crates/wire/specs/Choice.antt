-- The words by which definitions choose. Each takes its tests as arguments, so that a law can find them.
use Rattle.std.specs.Prelude.{ℕ, List, [], ◌∷◌, Bool, true, false, not, eqb}

-- a where the test holds, else b
unfoldable pub pick : {A : Type 0} → Bool → A → A → A
pick true a b = a
pick false a b = b

-- both tests hold
unfoldable pub both : Bool → Bool → Bool
both true t = t
both false t = false

-- one of two tests holds
unfoldable pub either : Bool → Bool → Bool
either true t = true
either false t = t

-- a line of a table of refusals: its number, and whether it applies
pub record Line : Type 0 where
  pub number : ℕ
  pub applies : Bool

abbrev pub line : ℕ → Bool → Line
line n t = record { number = n; applies = t }

-- the number where the test holds, else the rest
unfoldable pub first : Bool → ℕ → ℕ → ℕ
first true n rest = n
first false n rest = rest

-- the number of the first line that applies, else 0
unfoldable pub first_of : List Line → ℕ
first_of [] = 0
first_of (l ∷ rest) = first l.applies l.number (first_of rest)

-- no line has the number n
unfoldable pub without : ℕ → List Line → Bool
without n [] = true
without n (l ∷ rest) = both (not (eqb l.number n)) (without n rest)
