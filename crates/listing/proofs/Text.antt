-- A number's digits are those that the standard library writes, up to 20 of them.
use Rattle.std.proofs.Common.{◌≡◌, ℕ, suc, ◌+◌, ◌/◌, ◌%◌, ◌^◌, ◌<◌, ◌≤◌, List, [], ◌∷◌, ◌++◌, append_assoc, arith, le-ltb, lt-ltb, Result, Ok}
use Rattle.std.specs.Prelude.{MatchResult}
use Rattle.std.specs.Fmt.{decimal as printed}
use Rattle.std.proofs.lemmas.Fmt.{decimal_from_appends, length-decimal-le}
use Rattle.wire.specs.Choice.{pick}
use Rattle.rules.specs.declared.Reception.{Reception}
use Rattle.rules.specs.declared.Refusal.{Refusal}
use Rattle.rules.specs.Answers.{Answer}
use Rattle.rules.specs.Step.{number_of, length_of}
use Rattle.rules.specs.Told.{number, answer_told}
use Rattle.answer_numbers.proofs.Told.{number_told, length_told}
use Rattle.listing.specs.Text.{decimal_within, decimal, field, line}

-- ---- numbers in decimal
within_last : (k n : ℕ) → n < 10 → decimal_within (suc k) n ≡ (48 + n) ∷ []
unfolding decimal_within pick
within_last k n h = rw (lt-ltb n 10 h)

within_more : (k n : ℕ) → 10 ≤ n → decimal_within (suc k) n ≡ decimal_within k (n / 10) ++ ((48 + n % 10) ∷ [])
unfolding decimal_within pick
within_more k n h = rw (le-ltb n 10 h)

pub decimal_printed : (n : ℕ) → n < 2 ^ 64 → decimal n ≡ printed n
unfolding decimal
decimal_printed n h =
    decimal_from_appends decimal_within (record { one = within_last; more = within_more }) 20 n h
    (length-decimal-le 20 n (omega arith) (omega arith) h)

-- ---- a line put field by field
pub put_field : (b : List ℕ) {digits : List ℕ} (n mark : ℕ) → n < 2 ^ 64 → digits ≡ printed n → (b ++ digits) ++ (mark ∷ []) ≡ b ++ field n mark
unfolding field
put_field b n mark h e = rw (e, decimal_printed n h, append_assoc)

pub put_line : (b : List ℕ) {m l : ℕ} (offset : ℕ) (a : Answer) → m ≡ number_of a → l ≡ length_of a
    → ((b ++ field offset 32) ++ field m 32) ++ field l 10 ≡ b ++ line offset a
unfolding line
put_line b offset a e f = rw (e, f) (simp append_assoc)

-- of an answer as the code holds it
pub put_told : (b : List ℕ) (offset m l : ℕ) (a : Result Reception Refusal)
    → MatchResult a (λ r. m ≡ number_of (answer_told (Ok r))) (λ e. m ≡ number e)
    → MatchResult a (λ r. l ≡ length_of (answer_told (Ok r))) (λ _. l ≡ 0)
    → ((b ++ field offset 32) ++ field m 32) ++ field l 10 ≡ b ++ line offset (answer_told a)
put_told b offset m l a h k = put_line b offset (answer_told a) (number_told a m h) (length_told a l k)
