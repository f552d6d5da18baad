-- How bytes are filled is told item by item: of one descriptor or loop, and of the rest, the worse.
use Prim.Native.Nat.{ℕ, zero, suc, ◌-◌, ◌≤◌, ◌<◌}
use mathlib.Core.Path.{◌≡◌, refl, ap, ◌∙◌}
use mathlib.Core.Bool.{Bool, true, false, not}
use mathlib.Core.List.{List, [], ◌∷◌}
use lib.ListN.{length, take, drop}
use native.Mathlib.Nat.{pos_of_ne-zero}
use native.Mathlib.Omega.{arith}
use Rattle.wire.specs.Choice.{pick, both, first, first_of}
use Rattle.wire.specs.Bytes.{byte_at}
use Rattle.notification_rules.specs.Cut.{Cut, stop, more, cut_of, is_nil, every, odd}
use Rattle.rules.specs.Section.{checked}
use Rattle.notification_rules.specs.Loop.{loop_size, descriptor_size, loop_cut, content, filled}
use Rattle.notification_rules.specs.Target.{right_length}
use Rattle.notification_rules.specs.Finding.{known, loop_lines, misfit, other_length, fits}
use Rattle.wire.proofs.Lists.{from}
use Rattle.notification_rules.proofs.Cuts.{nil_true, nil_false}
use Rattle.notification_rules.proofs.Items.{descriptor_two, loop_two, filled_stop, filled_more, known_stop, known_more, loops_stop, loops_more}
use Rattle.notification.specs.declared.loops.Fit.{Fit}
use Rattle.notification.specs.declared.loops.Fit.TheVariants.{Exact, OtherLength, Misfit}
use Rattle.notification.specs.Readers.{fit_of, worse, length_fit, descriptor_fit, fits_by, loop_fit}

pub drop_take : (k n : ℕ) (s : List ℕ) → drop k (take n s) ≡ take (n - k) (drop k s)
drop_take zero n s = let e : n ≡ n - 0 = omega arith in ap (λ (m : ℕ). take m s) e
drop_take (suc k) zero s = let e : 0 ≡ 0 - suc k = omega arith in ap (λ (m : ℕ). take m (drop (suc k) s)) e
drop_take (suc k) (suc n) [] = nothing (suc n - suc k)
  where
    nothing : (m : ℕ) → ◌≡◌ {A = List ℕ} [] (take m [])
    nothing zero = refl
    nothing (suc m) = refl
drop_take (suc k) (suc n) (x ∷ s) =
    let e : n - k ≡ suc n - suc k = omega arith in
    drop_take k n s ∙ ap (λ (m : ℕ). take m (drop k s)) e

-- ---- the worse of two
pub worse_exact : (x : Fit) → x ≡ worse x Exact
unfolding worse
worse_exact Exact = refl
worse_exact OtherLength = refl
worse_exact Misfit = refl

pub worse_misfit : (x : Fit) → Misfit ≡ worse x Misfit
unfolding worse
worse_misfit Exact = refl
worse_misfit OtherLength = refl
worse_misfit Misfit = refl

worse_again : (x y z : Fit) → worse (worse x y) z ≡ worse x (worse y z)
unfolding worse
worse_again Exact y z = refl
worse_again Misfit y z = refl
worse_again OtherLength Exact z = refl
worse_again OtherLength Misfit z = refl
worse_again OtherLength OtherLength Exact = refl
worse_again OtherLength OtherLength OtherLength = refl
worse_again OtherLength OtherLength Misfit = refl

worse_both : (f g k e : Bool) → worse (fit_of f k) (fit_of g e) ≡ fit_of (both f g) (both k e)
unfolding worse fit_of both pick
worse_both false g k e = refl
worse_both true g true e = refl
worse_both true false false e = refl
worse_both true true false true = refl
worse_both true true false false = refl

-- ---- descriptors
pub fit_end : (s : List ℕ) (x : Fit) → length s ≡ 0 → x ≡ worse x (descriptor_fit s)
unfolding descriptor_fit fit_of pick
fit_end s x h =
    let l : length s < descriptor_size s = omega (arith, descriptor_two s) in
    rw (filled_stop s l, nil_true s h, known_stop s l) (worse_exact x)

pub fit_stop : (s : List ℕ) (x : Fit) (n : ℕ) → n ≡ descriptor_size s → (length s ≡ 0 → ⊥) → length s < n
    → Misfit ≡ worse x (descriptor_fit s)
unfolding descriptor_fit fit_of pick
fit_stop s x n e g h =
    let l : length s < descriptor_size s = omega arith in
    rw (filled_stop s l, nil_false s (pos_of_ne-zero g)) (worse_misfit x)

pub fit_more : (s b : List ℕ) (x y : Fit) (n : ℕ) → n ≡ descriptor_size s → n ≤ length s → b ≡ drop n s
    → y ≡ worse x (length_fit (byte_at s 0) (byte_at s 1)) → worse y (descriptor_fit b) ≡ worse x (descriptor_fit s)
unfolding descriptor_fit length_fit both
fit_more s b x y n f h g e =
    let l : descriptor_size s ≤ length s = omega arith in
    rw (g, f, e, filled_more s l, known_more s l)
    (worse_again x _ _ ∙ ap (worse x) (worse_both true (filled (drop (descriptor_size s) s)) (right_length (byte_at s 0) (byte_at s 1)) (known (drop (descriptor_size s) s))))

-- ---- loops by turns
turn_step : (t n o f e : Bool) → both n (both (pick t (not o) (not (not o))) (both f e))
    ≡ both f (both n (both (pick (not t) o (not o)) e))
unfolding both pick
turn_step true n true true e = refl
turn_step true n false true e = refl
turn_step false n true true e = refl
turn_step false n false true e = refl
turn_step true true true false e = refl
turn_step true false true false e = refl
turn_step true true false false e = refl
turn_step true false false false e = refl
turn_step false true true false e = refl
turn_step false false true false e = refl
turn_step false true false false e = refl
turn_step false false false false e = refl

turn_more : (t : Bool) (l : List ℕ) (c : Cut) → fits_by t (more l c) ≡ both (filled (content l)) (fits_by (not t) c)
unfolding fits_by odd every
turn_more t l c = turn_step t (is_nil c.left) (odd c.items) (filled (content l)) (every (λ m. filled (content m)) c.items)

turn_even : (s : List ℕ) → fits_by false (stop s) ≡ is_nil s
unfolding fits_by odd every both pick
turn_even [] = refl
turn_even (x ∷ s) = refl

turn_odd : (s : List ℕ) → fits_by true (stop s) ≡ false
unfolding fits_by odd every both pick
turn_odd [] = refl
turn_odd (x ∷ s) = refl

pub loops_end : (s : List ℕ) (x : Fit) → length s ≡ 0 → x ≡ worse x (loop_fit false s)
unfolding loop_fit fit_of pick every
loops_end s x h =
    let l : length s < loop_size s = omega (arith, loop_two s) in
    rw (loops_stop s l, turn_even s, nil_true s h) (worse_exact x)

pub loops_short : (s : List ℕ) (x : Fit) (n : ℕ) → n ≡ loop_size s → (length s ≡ 0 → ⊥) → length s < n → Misfit ≡ worse x (loop_fit false s)
unfolding loop_fit fit_of pick
loops_short s x n e g h =
    let l : length s < loop_size s = omega arith in
    rw (loops_stop s l, turn_even s, nil_false s (pos_of_ne-zero g)) (worse_misfit x)

pub loops_missing : (s : List ℕ) (x : Fit) (n : ℕ) → n ≡ loop_size s → length s < n → Misfit ≡ worse x (loop_fit true s)
unfolding loop_fit fit_of pick
loops_missing s x n e h =
    let l : length s < loop_size s = omega arith in
    rw (loops_stop s l, turn_odd s) (worse_misfit x)

-- with n what was read as the first loop's size, a the loop, b the rest, and y what the reader gave for what it holds
pub loops_on : (t : Bool) (s a b : List ℕ) (x y : Fit) (n : ℕ) → n ≡ loop_size s → n ≤ length s → a ≡ take n s → b ≡ drop n s
    → y ≡ worse x (descriptor_fit (take (length a - 2) (drop 2 a))) → worse y (loop_fit (not t) b) ≡ worse x (loop_fit t s)
unfolding loop_fit descriptor_fit every
loops_on t s a b x y n f h i g e =
    let l : loop_size s ≤ length s = omega arith in
    rw (g, e, from, i, f, loops_more s l, turn_more t)
    (worse_again x _ _ ∙ ap (worse x) (worse_both (filled (content (take (loop_size s) s))) (fits_by (not t) (cut_of loop_size (drop (loop_size s) s)))
    (known (content (take (loop_size s) s))) (every (λ m. known (content m)) (cut_of loop_size (drop (loop_size s) s)).items)))

-- ---- the number of each is that of the table's last two lines
abbrev pub fit_number : Fit → ℕ
fit_number Exact = 0
fit_number OtherLength = 33
fit_number Misfit = 32

numbered : (f k : Bool) → fit_number (fit_of f k) ≡ first (not f) 32 (first (not k) 33 0)
unfolding fit_of first pick
numbered true true = refl
numbered true false = refl
numbered false k = refl

-- with x what the readers gave for what stands from 12 on
pub loops_told : (s b : List ℕ) (x y : Fit) → b ≡ drop 12 (checked s) → x ≡ worse Exact (loop_fit true b) → x ≡ y
    → fit_number y ≡ first_of (loop_lines s)
unfolding loop_fit first_of loop_lines misfit other_length loop_cut fits fits_by pick worse
loops_told s b x y eb e r =
    rw (← r, e, eb) (numbered (fits (loop_cut s)) (every (λ l. known (content l)) (loop_cut s).items))
