-- The text of one line.
use Rattle.std.specs.Prelude.{ℕ, zero, suc, ◌+◌, ◌/◌, ◌%◌, List, [], ◌∷◌, ◌++◌, nat_lt}
use Rattle.wire.specs.Choice.{pick}
use Rattle.rules.specs.Answers.{Answer}
use Rattle.rules.specs.Step.{number_of, length_of}

-- a number in decimal without leading zeros, in ASCII, where k digits are enough
unfoldable pub decimal_within : ℕ → ℕ → List ℕ
decimal_within zero n = []
decimal_within (suc k) n = pick (nat_lt n 10) ((48 + n) ∷ []) (decimal_within k (n / 10) ++ ((48 + n % 10) ∷ []))

-- twenty digits are enough for 64 bits
unfoldable pub decimal : ℕ → List ℕ
decimal n = decimal_within 20 n

-- a number and the byte after it
unfoldable pub field : ℕ → ℕ → List ℕ
field n mark = decimal n ++ (mark ∷ [])

-- offset, answer, unit length: single spaces between them, and a line's end
unfoldable pub line : ℕ → Answer → List ℕ
line offset a = field offset 32 ++ (field (number_of a) 32 ++ field (length_of a) 10)
