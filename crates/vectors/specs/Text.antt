-- A CRC_32 as text.
use Rattle.std.specs.Prelude.{ℕ, ◌+◌, List, [], ◌∷◌, ltb}
use Rattle.wire.specs.Bytes.{bits}
use Rattle.wire.specs.Choice.{pick}

-- the ASCII digit of a number below 16: 0 to 9, A to F
unfoldable pub digit : ℕ → ℕ
digit n = pick (ltb n 10) (48 + n) (55 + n)

-- 32 bits in eight digits, high digit first
unfoldable pub word : ℕ → List ℕ
word x =
    digit (bits 31 28 x)
    ∷ digit (bits 27 24 x)
    ∷ digit (bits 23 20 x)
    ∷ digit (bits 19 16 x)
    ∷ digit (bits 15 12 x)
    ∷ digit (bits 11 8 x)
    ∷ digit (bits 7 4 x)
    ∷ digit (bits 3 0 x)
    ∷ []
