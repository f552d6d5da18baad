-- What the numbers of an answer mean: a paper's table, row by row in its order, each row a number and a proposition.
use Rattle.std.specs.Prelude.{ℕ, ◌<◌, ◌≡◌, ◌⊎◌, List, [], ◌∷◌}

pub record Row : Type 1 where
  pub number : ℕ
  pub meaning : Type 0

infix 70 ◌means◌
abbrev pub ◌means◌ : ℕ → Type 0 → Row
n means p = record { number = n; meaning = p }

-- n is the number of the first row that applies: this row applies and has it, or this row does not and n is the first of the rest
unfoldable pub FirstThat : ℕ → List Row → Type 0
FirstThat n [] = ⊥
FirstThat n (r ∷ rest) = ((n ≡ r.number) × r.meaning) ⊎ ((r.meaning → ⊥) × FirstThat n rest)

-- the last row of a table, where none before it applies
abbrev pub otherwise : Type 0
otherwise = Unit

-- x is not least..most
abbrev pub Outside : ℕ → ℕ → ℕ → Type 0
Outside least most x = (x < least) ⊎ (most < x)
