-- The contracts say it by cases, of an answer and of an error.
use mathlib.Core.Path.{◌≡◌}
use Rattle.std.specs.Prelude.{ℕ, Option, Some, None, MatchResult, Ok, Err, Result as CodeResult}
use Rattle.rules.specs.declared.Reception.{Reception}
use Rattle.rules.specs.declared.Reception.TheVariants as reception
use Rattle.rules.specs.Send.{sending_length, sending_number}
use Rattle.rules.specs.Step.{length_of, number_of}
use Rattle.rules.specs.Told.{answer_told, sending_told}
use Rattle.notification_rules.specs.Finding.{finding_number, finding_offset}
use Rattle.notification_rules.specs.Told.{finding_told}
use Rattle.answer_numbers.proofs.Told.{number_told, length_told, sending_number_told, sending_length_told}
use Rattle.notification_numbers.proofs.Told.{number_told as finding_number_told, offset_told}
use Rattle.demands.specs.Numbers.{Numbers, answer_numbered, sending_numbered, finding_numbered}

number_numbered : (a : CodeResult Reception ℕ) (z : ℕ)
    → MatchResult a (λ r. z ≡ number_of (answer_told (Ok r))) (λ n. z ≡ n) → z ≡ number_of (answer_numbered a)
unfolding number_of answer_told answer_numbered
number_numbered (Ok (reception.Delivered n)) z h = h
number_numbered (Ok reception.Stored) z h = h
number_numbered (Ok reception.PassedBy) z h = h
number_numbered (Err n) z h = h

length_numbered : (a : CodeResult Reception ℕ) (z : ℕ)
    → MatchResult a (λ r. z ≡ length_of (answer_told (Ok r))) (λ n. z ≡ 0) → z ≡ length_of (answer_numbered a)
unfolding length_of answer_told answer_numbered
length_numbered (Ok (reception.Delivered n)) z h = h
length_numbered (Ok reception.Stored) z h = h
length_numbered (Ok reception.PassedBy) z h = h
length_numbered (Err n) z h = h

sending_number_numbered : (s : CodeResult ℕ ℕ) (z : ℕ)
    → MatchResult s (λ n. z ≡ sending_number (sending_told (Ok n))) (λ n. z ≡ n) → z ≡ sending_number (sending_numbered s)
unfolding sending_number sending_told sending_numbered
sending_number_numbered (Ok n) z h = h
sending_number_numbered (Err n) z h = h

sending_length_numbered : (s : CodeResult ℕ ℕ) (z : ℕ)
    → MatchResult s (λ n. z ≡ sending_length (sending_told (Ok n))) (λ n. z ≡ 0) → z ≡ sending_length (sending_numbered s)
unfolding sending_length sending_told sending_numbered
sending_length_numbered (Ok n) z h = h
sending_length_numbered (Err n) z h = h

finding_number_numbered : (f : CodeResult (Option ℕ) ℕ) (z : ℕ)
    → MatchResult f (λ o. z ≡ finding_number (finding_told (Ok o))) (λ n. z ≡ n) → z ≡ finding_number (finding_numbered f)
unfolding finding_told finding_numbered
finding_number_numbered (Ok (Some n)) z h = h
finding_number_numbered (Ok None) z h = h
finding_number_numbered (Err n) z h = h

finding_offset_numbered : (f : CodeResult (Option ℕ) ℕ) (z : ℕ)
    → MatchResult f (λ o. z ≡ finding_offset (finding_told (Ok o))) (λ n. z ≡ 0) → z ≡ finding_offset (finding_numbered f)
unfolding finding_told finding_numbered
finding_offset_numbered (Ok (Some n)) z h = h
finding_offset_numbered (Ok None) z h = h
finding_offset_numbered (Err n) z h = h

pub numbers : Numbers
numbers =
    record {
      number_of = λ κs (a, _) z e p. number_told a z p;
      length_of = λ κs (a, _) z e p. length_told a z p;
      sending_number = λ κs (s, _) z e p. sending_number_told s z p;
      sending_length = λ κs (s, _) z e p. sending_length_told s z p;
      finding_number = λ κs (f, _) z e p. finding_number_told f z p;
      finding_offset = λ κs (f, _) z e p. offset_told f z p;
      number_of_bare = λ κs (a, _) z e p. number_numbered a z p;
      length_of_bare = λ κs (a, _) z e p. length_numbered a z p;
      sending_number_bare = λ κs (s, _) z e p. sending_number_numbered s z p;
      sending_length_bare = λ κs (s, _) z e p. sending_length_numbered s z p;
      finding_number_bare = λ κs (f, _) z e p. finding_number_numbered f z p;
      finding_offset_bare = λ κs (f, _) z e p. finding_offset_numbered f z p;
    }
