-- What the code's answers tell, in the papers' words: each refusal has its number.
use Rattle.std.specs.Prelude.{ℕ, ◌≡◌, ⊤, List, [], take, drop, Option, Some, None, Result, Ok, Err}
use Rattle.std.specs.Borrow.{Bor}
use Rattle.wire.specs.Part.{Part, part, Is}
use Rattle.rules.specs.declared.Address.{Address}
use Rattle.rules.specs.declared.Refusal.{Refusal}
use Rattle.rules.specs.Told.{number}
use Rattle.notification_rules.specs.Answers.{Finding, Found, Nobody, Refused}
use Rattle.notification_rules.specs.Finding.{finding_of}

-- of the INT reader, with the offset of the nine bytes
unfoldable pub finding_told : Result (Option ℕ) Refusal → Finding
finding_told (Ok (Some n)) = Found n
finding_told (Ok None) = Nobody
finding_told (Err r) = Refused (number r)

-- what is told names the answer: two of which the same is told are equal. A theorem, shown in proofs/Told.antt
abbrev pub ToldNames : Type 0
ToldNames = (x y : Result (Option ℕ) Refusal) → finding_told x ≡ finding_told y → x ≡ y

-- ---- of the reader that hands out the nine bytes
abbrev pub Read : Type 0
Read = Result (Option (Bor (List ℕ))) Refusal

-- they are those from the offset of the finding on, as that part of the section: bytes and place
abbrev pub Answered : Address → Bor (List ℕ) → Read → Type 0
Answered device s (Ok (Some r)) = (p : ℕ) × (finding_of device s.now ≡ Found p) × Is s.ref_ptr (part p (take 9 (drop p s.now))) r
Answered device s (Ok None) = finding_of device s.now ≡ Nobody
Answered device s (Err r) = finding_of device s.now ≡ Refused (number r)

-- the papers' number
abbrev pub read_number : Read → ℕ
read_number (Ok (Some r)) = 3
read_number (Ok None) = 4
read_number (Err r) = number r

-- what is handed out is this part of what begins at `start`, and nothing where it is the empty one
abbrev pub Handed : ℕ × ℕ → Part → Read → Type 0
Handed start p (Ok (Some r)) = Is start p r
Handed start p (Ok None) = p ≡ part 0 []
Handed start p (Err r) = p ≡ part 0 []

-- two that hand out the same
abbrev pub SameRead : Read → Read → Type 0
SameRead (Ok (Some r)) (Ok (Some q)) = (r.now ≡ q.now) × (r.ref_ptr.0 ≡ q.ref_ptr.0) × (r.ref_ptr.1 ≡ q.ref_ptr.1)
SameRead (Ok (Some r)) (Ok None) = ⊥
SameRead (Ok (Some r)) (Err q) = ⊥
SameRead (Ok None) (Ok (Some q)) = ⊥
SameRead (Ok None) (Ok None) = ⊤
SameRead (Ok None) (Err q) = ⊥
SameRead (Err r) (Ok x) = ⊥
SameRead (Err r) (Err q) = r ≡ q
