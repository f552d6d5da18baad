-- Bytes, the bits of a byte, and numbers of several bytes, high byte first.
use Rattle.std.specs.Prelude.{ℕ, zero, suc, ◌+◌, ◌*◌, ◌-◌, ◌/◌, ◌%◌, ◌^◌, ◌<◌, ◌≡◌, List, [], ◌∷◌, ◌++◌, length, get_or, take, drop}

-- byte i, counted from 0; past the end, 0
abbrev pub byte_at : List ℕ → ℕ → ℕ
byte_at s i = get_or s i 0

-- every one of them is a byte
abbrev pub Bytes : List ℕ → Type 0
Bytes s = (i : ℕ) → byte_at s i < 2 ^ 8

-- bits h to l of a number, bit 0 the lowest
abbrev pub bits : ℕ → ℕ → ℕ → ℕ
bits h l x = x / 2 ^ l % 2 ^ (h - l + 1)

abbrev pub bit : ℕ → ℕ → ℕ
bit k x = x / 2 ^ k % 2

-- the number of n bytes that stands at i, high byte first
unfoldable pub number_at : ℕ → List ℕ → ℕ → ℕ
number_at zero s i = 0
number_at (suc n) s i = byte_at s i * 256 ^ n + number_at n s (i + 1)

-- the n low bytes of a number, high byte first
unfoldable pub bytes_of : ℕ → ℕ → List ℕ
bytes_of zero x = []
bytes_of (suc n) x = (x / 256 ^ n % 256) ∷ bytes_of n x

-- as much of s as d has room for, laid over the start of d
abbrev pub over : List ℕ → List ℕ → List ℕ
over s d = take (length d) s ++ drop (length s) d

-- a result that is this number and is below a bound, which callers need to add and multiply
pub record Reads (x bound r : ℕ) : Type 0 where
  pub is : r ≡ x
  pub below : r < bound
