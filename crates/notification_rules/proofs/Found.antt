-- The search chooses a pair that passes its test, and refuses nothing.
use Prim.Native.Nat.{ℕ}
use mathlib.Core.Path.{◌≡◌, refl, sym, ap, ◌∙◌}
use mathlib.Core.Bool.{Bool, true, false}
use mathlib.Core.List.{List, [], ◌∷◌, ◌++◌}
use mathlib.Core.Option.{Option, none, some}
use borrow.Author.Tests.{eq-eqb}
use Rattle.wire.specs.Choice.{pick}
use Rattle.rules.specs.declared.Address.{Address}
use Rattle.wire.specs.Part.{Part}
use Rattle.notification_rules.specs.Answers.{Refused}
use Rattle.notification_rules.specs.Loop.{loops_of, Pair, pairs_of}
use Rattle.notification_rules.specs.Target.{Location, nowhere, somewhere, location_of, answers, first_pair}
use Rattle.notification_rules.specs.Finding.{refusal, found, chosen, searched, finding_of}

-- ---- the pair that is chosen is one of them, and passes the test
pub record First (f : Pair → Bool) (xs : List Pair) (x : Pair) : Type 0 where
  pub earlier : List Pair
  pub later : List Pair
  pub split : xs ≡ earlier ++ (x ∷ later)
  pub passes : f x ≡ true

pub first_is : (f : Pair → Bool) (xs : List Pair) (x : Pair) → first_pair f xs ≡ some x → First f xs x
unfolding first_pair pick
first_is f [] x h = absurd cc
first_is f (y ∷ ys) x h = go (f y) refl h (first_is f ys x)
  where
    go : (b : Bool) → f y ≡ b → pick b (some y) (first_pair f ys) ≡ some x → (first_pair f ys ≡ some x → First f ys x)
        → First f (y ∷ ys) x
    go true e h ih =
        let q : y ≡ x = cc in
        record {
          earlier = [];
          later = ys;
          split = ap (λ (z : Pair). z ∷ ys) q;
          passes = ap f (sym q) ∙ e;
        }
    go false e h ih =
        let r = ih h in
        record {
          earlier = y ∷ r.earlier;
          later = r.later;
          split = ap (λ (zs : List Pair). y ∷ zs) r.split;
          passes = r.passes;
        }

-- ---- where no line applies, the answer is the search's
pub unrefused : (device : Address) (s : List ℕ) → refusal s ≡ 0 → finding_of device s ≡ searched device (loops_of s)
unfolding finding_of pick
unrefused device s h = rw (eq-eqb (refusal s) 0 h)

-- ---- the search refuses nothing
found_takes : (l : Location) (k : ℕ) → found l ≡ Refused k → ⊥
unfolding found
found_takes nowhere k h = cc
found_takes (somewhere d) k h = cc

searched_takes : (device : Address) (ls : List Part) (k : ℕ) → searched device ls ≡ Refused k → ⊥
unfolding searched chosen
searched_takes device [] k h = cc
searched_takes device (platform ∷ loops) k h = go (first_pair (answers device platform) (pairs_of loops)) h
  where
    go : (c : Option Pair) → chosen platform c ≡ Refused k → ⊥
    go none h = cc
    go (some x) h = found_takes (location_of platform x) k h

pub takes : (device : Address) (s : List ℕ) → refusal s ≡ 0 → (k : ℕ) → finding_of device s ≡ Refused k → ⊥
takes device s h k e = searched_takes device (loops_of s) k (sym (unrefused device s h) ∙ e)
