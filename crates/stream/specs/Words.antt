-- What a read gave, and the words in which a program tells why its work is not done.
use Rattle.std.specs.Prelude.{◌≡◌, ℕ, Bool, List, [], ◌∷◌, Result, Ok, Err, is_err}
use denote.Ref.{MutBor}
use Rattle.io.specs.Counts.{IsPrefixLen}
use Rattle.stream.specs.declared.Failure.{Failure}
use Rattle.stream.specs.declared.Failure.TheVariants.{Reading, Writing, Refused}

-- how many bytes were moved
abbrev pub count_of : Result ℕ Failure → ℕ
count_of (Ok n) = n
count_of (Err e) = 0

-- the read failed
abbrev pub lost : Result ℕ Failure → Bool
lost r = is_err r

-- the bytes read are at the start of the buffer, and the bytes written at the start of the text
abbrev pub Filled : Result ℕ Failure → List ℕ → Type 0
Filled r b = IsPrefixLen (count_of r) b

-- a call that is handed a stream and a buffer may have moved n bytes and have left b in the buffer
abbrev pub Moved : {S E : Type 0} → (MutBor S → MutBor (List ℕ) → Result ℕ E → MutBor S → MutBor (List ℕ) → Type 0) → ℕ → List ℕ → Type 0
Moved {S} call n b = (s : MutBor S) × (t : MutBor (List ℕ)) × (s' : MutBor S) × (t' : MutBor (List ℕ)) × call s t (Ok n) s' t' × (t'.now ≡ b)

-- a line in ASCII: 'input' where the input could not be read, 'output' where a write failed, 'refused' where the unit is refused
abbrev pub word_of : Result Unit Failure → List ℕ
word_of (Ok done) = []
word_of (Err Reading) = 105 ∷ 110 ∷ 112 ∷ 117 ∷ 116 ∷ 10 ∷ []
word_of (Err Writing) = 111 ∷ 117 ∷ 116 ∷ 112 ∷ 117 ∷ 116 ∷ 10 ∷ []
word_of (Err Refused) = 114 ∷ 101 ∷ 102 ∷ 117 ∷ 115 ∷ 101 ∷ 100 ∷ 10 ∷ []
