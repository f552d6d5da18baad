-- A table of tests gives the number of the first row that applies, where each test holds exactly where its row's meaning does.
use Rattle.std.proofs.lemmas.Bool.{false≢true, lt-leb, not-true}
use Rattle.std.proofs.Common.{Decides, ℕ, ◌≤◌, ◌≡◌, refl, sym, ap, ◌∙◌, ◌↔◌, ◌⊎◌, inl, inr, List, [], ◌∷◌, Bool, true, false, not, eqb, leb, le-leb, leb-true, leb-false}
use Rattle.wire.specs.Choice.{pick, both, either, Line, first, first_of, without}
use Rattle.wire.specs.Meaning.{FirstThat, Outside, Row, ◌means◌}
use Rattle.wire.proofs.Choice.{both_true}

-- ---- a test and its meaning
pub tells_le : (a b : ℕ) → Decides (leb a b) (a ≤ b)
tells_le a b = (leb-true a b, le-leb a b)

pub tells_both : {p q : Type 0} (t u : Bool) → Decides t p → Decides u q → Decides (both t u) (p × q)
unfolding both
tells_both true u h k = (λ e. (h.0 refl, k.0 e), λ w. k.1 w.1)
tells_both false u h k = (λ e. absurd (false≢true e), λ w. h.1 w.0)

pub tells_either : {p q : Type 0} (t u : Bool) → Decides t p → Decides u q → Decides (either t u) (p ⊎ q)
unfolding either
tells_either true u h k = (λ e. inl (h.0 refl), λ w. refl)
tells_either {p} {q} false u h k = (λ e. inr (k.0 e), go)
  where
    go : p ⊎ q → u ≡ true
    go (inl x) = absurd (false≢true (h.1 x))
    go (inr y) = k.1 y

-- not in least..most
pub tells_outside : (least most x : ℕ) → Decides (not (both (leb least x) (leb x most))) (Outside least most x)
unfolding both
tells_outside least most x = go (leb least x) (leb x most) refl refl
  where
    go : (t u : Bool) → leb least x ≡ t → leb x most ≡ u → Decides (not (both t u)) (Outside least most x)
    go true true e f = (λ z. absurd (false≢true z), λ w. absurd (in_range w))
      where
        in_range : Outside least most x → ⊥
        in_range (inl l) = false≢true (sym (lt-leb least x l) ∙ e)
        in_range (inr m) = false≢true (sym (lt-leb x most m) ∙ f)
    go true false e f = (λ z. inr (leb-false x most f), λ w. refl)
    go false u e f = (λ z. inl (leb-false least x e), λ w. refl)

-- ---- the first line that applies, and a number where none does
unfoldable pub or_else : List Line → ℕ → ℕ
or_else [] m = m
or_else (l ∷ rest) m = first l.applies l.number (or_else rest m)

pub or_zero : (lines : List Line) → first_of lines ≡ or_else lines 0
unfolding first_of or_else
or_zero [] = refl
or_zero (l ∷ rest) = ap (first l.applies l.number) (or_zero rest)

else_step : (t : Bool) (k f m y : ℕ) → eqb k 0 ≡ false → pick (eqb f 0) m f ≡ y → pick (eqb (first t k f) 0) m (first t k f) ≡ first t k y
unfolding first pick
else_step true k f m y h r = rw h
else_step false k f m y h r = r

pub or_else_is : (lines : List Line) (m : ℕ) → without 0 lines ≡ true → pick (eqb (first_of lines) 0) m (first_of lines) ≡ or_else lines m
unfolding first_of or_else without pick
or_else_is [] m h = refl
or_else_is (l ∷ rest) m h =
    let parts = both_true (not (eqb l.number 0)) (without 0 rest) h in
    else_step l.applies l.number (first_of rest) m (or_else rest m) (not-true _ parts.0) (or_else_is rest m parts.1)

-- ---- the answer's number, by the rows
pub record Gives (m : ℕ) (rows : List Row) : Type 0 where
  pub exactly : (n : ℕ) → (m ≡ n) ↔ FirstThat n rows

pub gives_row : {p : Type 0} {m : ℕ} {rows : List Row} (t : Bool) (k : ℕ) → Decides t p → (t ≡ false → Gives m rows)
    → Gives (first t k m) (k means p ∷ rows)
unfolding first FirstThat
gives_row {p} {m} {rows} true k h g = record { exactly = λ n. (λ e. inl (sym e, h.0 refl), go n) }
  where
    go : (n : ℕ) → ((n ≡ k) × p) ⊎ ((p → ⊥) × FirstThat n rows) → k ≡ n
    go n (inl w) = sym w.0
    go n (inr w) = absurd (w.0 (h.0 refl))
gives_row {p} {m} {rows} false k h g = record { exactly = λ n. (λ e. inr (λ x. false≢true (h.1 x), ((g refl).exactly n).0 e), go n) }
  where
    go : (n : ℕ) → ((n ≡ k) × p) ⊎ ((p → ⊥) × FirstThat n rows) → m ≡ n
    go n (inl w) = absurd (false≢true (h.1 w.1))
    go n (inr w) = ((g refl).exactly n).1 w.1

pub gives_last : {p : Type 0} (k : ℕ) → p → Gives k (k means p ∷ [])
unfolding FirstThat
gives_last {p} k x = record { exactly = λ n. (λ e. inl (sym e, x), go n) }
  where
    go : (n : ℕ) → ((n ≡ k) × p) ⊎ ((p → ⊥) × ⊥) → k ≡ n
    go n (inl w) = sym w.0
    go n (inr w) = absurd w.1
