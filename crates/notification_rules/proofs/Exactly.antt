-- No refusal has the number 3 or 4, so these are answered exactly where no line applies, which is where table 13 writes the section.
use Prim.Native.Nat.{ℕ}
use native.Mathlib.Decide.{ℕ_discrete}
use native.Mathlib.Omega.{arith}
use mathlib.Core.Path.{◌≡◌, refl, sym, ap, ◌∙◌}
use mathlib.Core.Logic.{◌⊎◌, inl, inr}
use mathlib.Core.List.{List, ◌++◌}
use mathlib.Core.Bool.{true}
use borrow.Author.Tests.{ne_eqb}
use Rattle.wire.specs.Choice.{both, pick, without}
use Rattle.wire.proofs.Choice.{first_of_without}
use Rattle.rules.specs.declared.Address.{Address}
use Rattle.rules.specs.Check.{shared_lines, form_lines, order_lines}
use Rattle.notification_rules.specs.Answers.{Finding, Found, Nobody, Refused}
use Rattle.notification_rules.specs.Format.{Nothing, OthersGiveNothing, TakenExactly}
use Rattle.notification_rules.specs.Finding.{loop_lines, finding_number, finding_of, finding_offset, notification_form, part_of, platform_lines, refusal}
use Rattle.notification_rules.proofs.Found.{takes}
use Rattle.notification_rules.proofs.Rewritten.{taken_is_written}
use Rattle.notification_rules.proofs.Taken.{written_is_taken}

-- ---- the numbers of the lines
no_line : (n : ℕ) (s : List ℕ) → without n (shared_lines notification_form s ++ (platform_lines s ++ loop_lines s)) ≡ true
    → (n ≡ 0 → ⊥) → refusal s ≡ n → ⊥
unfolding refusal
no_line n s h z = first_of_without n (shared_lines notification_form s ++ (platform_lines s ++ loop_lines s)) h z

number_refused : (device : Address) (s : List ℕ) → (refusal s ≡ 0 → ⊥) → finding_number (finding_of device s) ≡ refusal s
unfolding finding_of pick
number_refused device s h = rw (ne_eqb (refusal s) 0 h)

pub not_refused : (device : Address) (s : List ℕ) → (finding_number (finding_of device s) ≡ 3) ⊎ (finding_number (finding_of device s) ≡ 4)
    → refusal s ≡ 0
unfolding without both shared_lines form_lines order_lines platform_lines loop_lines
not_refused device s h = go (ℕ_discrete (refusal s) 0) h
  where
    go : Dec (refusal s ≡ 0) → (finding_number (finding_of device s) ≡ 3) ⊎ (finding_number (finding_of device s) ≡ 4) → refusal s ≡ 0
    go (yes e) h = e
    go (no e) (inl k) = absurd (no_line 3 s refl (λ z. omega arith) (sym (number_refused device s e) ∙ k))
    go (no e) (inr k) = absurd (no_line 4 s refl (λ z. omega arith) (sym (number_refused device s e) ∙ k))

-- ---- what is not refused is answered 3 or 4, whoever asks
three_or_four : (x : Finding) → ((k : ℕ) → x ≡ Refused k → ⊥) → (finding_number x ≡ 3) ⊎ (finding_number x ≡ 4)
three_or_four (Found p) h = inl refl
three_or_four Nobody h = inr refl
three_or_four (Refused k) h = absurd (h k refl)

pub taken_exactly : TakenExactly
taken_exactly device s b = (
  λ h. taken_is_written s b (not_refused device s h),
  λ w. three_or_four (finding_of device s) (takes device s (rw w.is at (written_is_taken w.value w.conforms))),
)

-- ---- any number but 3
nothing : (device : Address) (s : List ℕ) (x : Finding) → finding_of device s ≡ x → ((k : ℕ) → x ≡ Refused k → k ≡ 4 → ⊥)
    → Nothing device s (finding_number x)
nothing device s (Found p) e h = record { nobody = λ k. absurd (omega arith); refused = λ k. absurd (k refl) }
nothing device s Nobody e h =
    record {
      nobody = λ k. record { finding = e; number = ap finding_number e; offset = ap finding_offset e; given = ap (part_of s) e };
      refused = λ j k. absurd (k refl);
    }
nothing device s (Refused n) e h =
    record {
      nobody = λ k. absurd (h n refl k);
      refused = λ j k. record { finding = e; number = ap finding_number e; offset = ap finding_offset e; given = ap (part_of s) e };
    }

pub others_give_nothing : OthersGiveNothing
others_give_nothing device s =
    nothing device s (finding_of device s) refl
    (λ k e f. takes device s (not_refused device s (inr (ap finding_number e ∙ f))) k e)
