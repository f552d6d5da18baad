-- Where the error is a refusal, what the contracts say is the number and the length of what is told.
use Rattle.std.proofs.Common.{ℕ, ◌≡◌, Result, Ok, Err}
use Rattle.std.specs.Prelude.{MatchResult}
use Rattle.rules.specs.declared.Refusal.{Refusal}
use Rattle.rules.specs.declared.Reception.{Reception}
use Rattle.rules.specs.Send.{sending_number, sending_length}
use Rattle.rules.specs.Step.{number_of, length_of}
use Rattle.rules.specs.Told.{number, answer_told, sending_told}

pub number_told : (a : Result Reception Refusal) (n : ℕ)
    → MatchResult a (λ r. n ≡ number_of (answer_told (Ok r))) (λ e. n ≡ number e) → n ≡ number_of (answer_told a)
unfolding number_of answer_told
number_told (Ok r) n h = h
number_told (Err e) n h = h

pub length_told : (a : Result Reception Refusal) (n : ℕ)
    → MatchResult a (λ r. n ≡ length_of (answer_told (Ok r))) (λ e. n ≡ 0) → n ≡ length_of (answer_told a)
unfolding length_of answer_told
length_told (Ok r) n h = h
length_told (Err e) n h = h

pub sending_number_told : (s : Result ℕ Refusal) (n : ℕ)
    → MatchResult s (λ k. n ≡ sending_number (sending_told (Ok k))) (λ e. n ≡ number e) → n ≡ sending_number (sending_told s)
unfolding sending_number sending_told
sending_number_told (Ok k) n h = h
sending_number_told (Err e) n h = h

pub sending_length_told : (s : Result ℕ Refusal) (n : ℕ)
    → MatchResult s (λ k. n ≡ sending_length (sending_told (Ok k))) (λ e. n ≡ 0) → n ≡ sending_length (sending_told s)
unfolding sending_length sending_told
sending_length_told (Ok k) n h = h
sending_length_told (Err e) n h = h
