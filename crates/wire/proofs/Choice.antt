-- A test decides a choice: each law puts the test's value in its place, and the choice computes.
use Rattle.std.proofs.Math.Decide.{ℕ_discrete}
pub use Rattle.std.proofs.lemmas.Bool.{false≢true as never}
use Rattle.std.proofs.Common.{ℕ, ◌<◌, ◌≡◌, refl, sym, ◌∙◌, List, [], ◌∷◌, ◌++◌, Bool, true, false, not, eqb, eq-eqb, arith}
use Rattle.wire.specs.Choice.{pick, both, either, Line, first, first_of, without}

pub yes_pick : {A : Type 0} {t : Bool} {m : A} (a b : A) → t ≡ true → m ≡ a → m ≡ pick t a b
unfolding pick
yes_pick a b e h = rw e h

pub not_pick : {A : Type 0} {t : Bool} {m : A} (a b : A) → t ≡ false → m ≡ b → m ≡ pick t a b
unfolding pick
not_pick a b e h = rw e h

pub yes_both : {t m : Bool} (u : Bool) → t ≡ true → m ≡ u → m ≡ both t u
unfolding both
yes_both u e h = rw e h

pub not_either : {t m : Bool} (u : Bool) → t ≡ false → m ≡ u → m ≡ either t u
unfolding either
not_either u e h = rw e h

pub not_first : {t : Bool} {m : ℕ} (n rest : ℕ) → t ≡ false → m ≡ rest → m ≡ first t n rest
unfolding first
not_first n rest e h = rw e h

-- ---- a table in two parts
here_step : (t : Bool) (n x y : ℕ) → (first t n x ≡ 0 → ⊥) → ((x ≡ 0 → ⊥) → y ≡ x) → first t n y ≡ first t n x
unfolding first
here_step true n x y h r = refl
here_step false n x y h r = r h

-- the first part gives a number
pub first_of_here : (a b : List Line) → (first_of a ≡ 0 → ⊥) → first_of (a ++ b) ≡ first_of a
unfolding first_of
first_of_here [] b h = absurd (h refl)
first_of_here (l ∷ a) b h = here_step l.applies l.number (first_of a) (first_of (a ++ b)) h (first_of_here a b)

-- a line that does not have the number gives it only by the rest
without_step : {k : ℕ} (t w : Bool) (n x : ℕ) → both (not (eqb n k)) w ≡ true → first t n x ≡ k → (t ≡ false) × (w ≡ true) × (x ≡ k)
unfolding first both
without_step {k} true w n x e h = absurd (other (eqb n k) (eq-eqb n k h) e)
  where
    other : (q : Bool) → q ≡ true → both (not q) w ≡ true → ⊥
    other true p f = never f
    other false p f = never p
without_step {k} false w n x e h = (refl, rest_holds (eqb n k) e, h)
  where
    rest_holds : (q : Bool) → both (not q) w ≡ true → w ≡ true
    rest_holds true f = absurd (never f)
    rest_holds false f = f

-- the first part gives none
pub first_of_past : (a b : List Line) → without 0 a ≡ true → first_of a ≡ 0 → first_of (a ++ b) ≡ first_of b
unfolding first_of without first
first_of_past [] b e h = refl
first_of_past (l ∷ a) b e h =
    let s = without_step l.applies (without 0 a) l.number (first_of a) e h in
    rw s.0 (first_of_past a b s.1 s.2)

-- a table does not give a number that no line has
pub first_of_without : (n : ℕ) (a : List Line) → without n a ≡ true → (n ≡ 0 → ⊥) → first_of a ≡ n → ⊥
unfolding first_of without
first_of_without n [] e z h = z (sym h)
first_of_without n (l ∷ a) e z h =
    let s = without_step l.applies (without n a) l.number (first_of a) e h in
    first_of_without n a s.1 z s.2

-- ---- a test that is taken apart
pub both_true : (t u : Bool) → both t u ≡ true → (t ≡ true) × (u ≡ true)
unfolding both
both_true true u p = (refl, p)
both_true false u p = absurd (never p)

-- the second test holds
pub both_right : (t : Bool) → both t true ≡ t
unfolding both
both_right true = refl
both_right false = refl

pub either_false : (t u : Bool) → either t u ≡ false → (t ≡ false) × (u ≡ false)
unfolding either
either_false true u p = absurd (never (sym p))
either_false false u p = (refl, p)

-- ---- a table of which no line applies
first_none : (t : Bool) (n rest : ℕ) → 0 < n → first t n rest ≡ 0 → (t ≡ false) × (rest ≡ 0)
unfolding first
first_none true n rest h p = absurd (omega arith)
first_none false n rest h p = (refl, p)

pub none_first : (l : Line) (rest : List Line) → 0 < l.number → first_of (l ∷ rest) ≡ 0
    → (l.applies ≡ false) × (first_of rest ≡ 0)
unfolding first_of
none_first l rest h p = first_none l.applies l.number (first_of rest) h p

pub none_parts : (a b : List Line) → without 0 a ≡ true → first_of (a ++ b) ≡ 0 → (first_of a ≡ 0) × (first_of b ≡ 0)
none_parts a b h p = go (ℕ_discrete (first_of a) 0)
  where
    go : Dec (first_of a ≡ 0) → (first_of a ≡ 0) × (first_of b ≡ 0)
    go (yes e) = (e, sym (first_of_past a b h e) ∙ p)
    go (no e) = absurd (e (sym (first_of_here a b e) ∙ p))

-- what a call gave, and what was found of it
pub was : {A : Type 0} {r t u : A} → r ≡ t → r ≡ u → t ≡ u
was p q = sym p ∙ q
