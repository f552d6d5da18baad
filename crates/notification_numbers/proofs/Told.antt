-- Where the error is a refusal, what the contracts say is the number and the offset of what is told.
use Rattle.std.proofs.Common.{ℕ, ◌≡◌, Option, Result, Ok, Err}
use Rattle.std.specs.Prelude.{MatchResult}
use Rattle.rules.specs.declared.Refusal.{Refusal}
use Rattle.rules.specs.Told.{number}
use Rattle.notification_rules.specs.Finding.{finding_number, finding_offset}
use Rattle.notification_rules.specs.Told.{finding_told}

pub number_told : (f : Result (Option ℕ) Refusal) (n : ℕ)
    → MatchResult f (λ p. n ≡ finding_number (finding_told (Ok p))) (λ e. n ≡ number e) → n ≡ finding_number (finding_told f)
unfolding finding_told
number_told (Ok p) n h = h
number_told (Err e) n h = h

pub offset_told : (f : Result (Option ℕ) Refusal) (n : ℕ)
    → MatchResult f (λ p. n ≡ finding_offset (finding_told (Ok p))) (λ e. n ≡ 0) → n ≡ finding_offset (finding_told f)
unfolding finding_told
offset_told (Ok p) n h = h
offset_told (Err e) n h = h
