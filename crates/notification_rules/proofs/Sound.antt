-- A section that is not refused has no refusal: each line of the table has a number, and none applies.
use Prim.Native.Nat.{ℕ}
use native.Mathlib.Omega.{arith}
use mathlib.Core.Path.{◌≡◌, refl}
use mathlib.Core.Bool.{true}
use mathlib.Core.List.{List, ◌++◌}
use borrow.Author.Tests.{not-false}
use Rattle.wire.specs.Choice.{both, first_of, without}
use Rattle.wire.proofs.Choice.{none_first, none_parts}
use Rattle.rules.specs.Check.{shared_lines}
use Rattle.rules.proofs.Check.{shared_numbered}
use Rattle.notification_rules.specs.Cut.{every}
use Rattle.notification_rules.specs.Loop.{loop_cut, content}
use Rattle.notification_rules.specs.Finding.{notification_form, platform_lines, loop_lines, misfit, other_length, fits, known, refusal}

pub platform_numbered : (s : List ℕ) → without 0 (platform_lines s) ≡ true
unfolding without both platform_lines
platform_numbered s = refl

pub record Sound (s : List ℕ) : Type 0 where
  pub fill : fits (loop_cut s) ≡ true
  pub right : every (λ l. known (content l)) (loop_cut s).items ≡ true

pub sound : (s : List ℕ) → refusal s ≡ 0 → Sound s
unfolding refusal loop_lines misfit other_length
sound s h =
    let p : first_of (platform_lines s ++ loop_lines s) ≡ 0 =
    (none_parts (shared_lines notification_form s) (platform_lines s ++ loop_lines s) (shared_numbered notification_form s) h).1 in
    let q : first_of (loop_lines s) ≡ 0 = (none_parts (platform_lines s) (loop_lines s) (platform_numbered s) p).1 in
    let t32 = none_first _ _ (omega arith) q in
    let t33 = none_first _ _ (omega arith) t32.1 in
    record {
      fill = not-false (fits (loop_cut s)) t32.0;
      right = not-false (every (λ l. known (content l)) (loop_cut s).items) t33.0;
    }
