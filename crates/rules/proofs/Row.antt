-- Demand 3 goes by the row: what is held after each event stands for the open run that the struck row ends in.
use Rattle.std.proofs.lemmas.Bool.{false≢true}
use Rattle.std.proofs.Common.{ℕ, arith, ◌≡◌, refl, ◌∙◌, ◌↔◌, Bool, true, false, List, [], ◌∷◌, ◌++◌, append_assoc, append-nil}
use Rattle.wire.specs.Choice.{pick}
use Rattle.rules.specs.declared.Settings.{Settings}
use Rattle.rules.specs.Step.{gap_of, good_settings, good_state}
use Rattle.rules.specs.Row.{Event, section, gap, Held, fresh, next, after, nothing, datagram, handed_by, handed_over}
use Rattle.rules.proofs.Tested.{elsewhere, strike, Ready, RowTheorem}
use Rattle.rules.proofs.Runs.{no_gap}
use Rattle.rules.proofs.Made.{made_tested}
use Rattle.rules.proofs.Due.{passes, Holds, started, due_holds, due_hands, due}

-- ---- the struck row
strike_append : (c : Settings) (r q : List Event) → strike c (r ++ q) ≡ strike c r ++ strike c q
unfolding strike pick
strike_append c [] q = refl
strike_append c (e ∷ r) q = rw (strike_append c r q) (go (elsewhere c e) (strike c r) (strike c q))
  where
    go : (t : Bool) (x y : List Event) → pick t (x ++ y) (e ∷ (x ++ y)) ≡ pick t x (e ∷ x) ++ y
    go true x y = refl
    go false x y = refl

strike_one : (c : Settings) (e : Event) (t : Bool) → elsewhere c e ≡ t → strike c (e ∷ []) ≡ pick t [] (e ∷ [])
unfolding strike
strike_one c e t p = rw p

strike_kept : (c : Settings) (r : List Event) (e : Event) → elsewhere c e ≡ false
    → strike c (r ++ (e ∷ [])) ≡ strike c r ++ (e ∷ [])
unfolding pick
strike_kept c r e p = strike_append c r (e ∷ []) ∙ rw (strike_one c e false p)

-- ---- struck events
-- state and buffer stay as they are
pub struck_held : (c : Settings) (h : Held) (e : Event) → good_settings c ≡ true → good_state c h.state ≡ true
    → elsewhere c e ≡ true → next c h e ≡ h
unfolding next elsewhere
struck_held c h (section s) good fine struck = rw (passes c h.state s h.buffer good fine struck)
struck_held c h gap good fine struck = absurd (false≢true struck)

-- nothing is handed over
struck_hands : (c : Settings) (h : Held) (e : Event) → good_settings c ≡ true → good_state c h.state ≡ true
    → elsewhere c e ≡ true → handed_over c h e ≡ nothing
unfolding handed_over handed_by elsewhere
struck_hands c h (section s) good fine struck = rw (passes c h.state s h.buffer good fine struck)
struck_hands c h gap good fine struck = refl

module _ (c : Settings) (b : List ℕ) (good : good_settings c ≡ true) where
  -- ---- any other event
  kept_holds : (past : List Event) (h : Held) (e : Event) → Holds c b past h → elsewhere c e ≡ false
      → Holds c b (past ++ (e ∷ [])) (next c h e)
  unfolding next gap_of good_state
  kept_holds past h (section s) i kept = due_holds c b i.size (made_tested c h.state s h.buffer) (due c b past h i s good kept)
  kept_holds past h gap i kept = record { size = i.size; good = refl; track = λ κ xs e some partial. no_gap past e.there some }

  kept_hands : (past : List Event) (h : Held) (e : Event) → Holds c b past h → elsewhere c e ≡ false
      → (n : ℕ) (d : List ℕ) → (handed_over c h e ≡ datagram n d) ↔ Ready c b (past ++ (e ∷ [])) n d
  unfolding handed_over
  kept_hands past h (section s) i kept n d = due_hands c b (due c b past h i s good kept) n d
  kept_hands past h gap i kept n d =
      (λ p. cc, λ w. absurd (no_gap past w.there (omega (arith, w.run.whole))))

  -- ---- a row
  event_holds : (past : List Event) (h : Held) (e : Event) → Holds c b past h → Holds c b (past ++ strike c (e ∷ [])) (next c h e)
  unfolding pick
  event_holds past h e i = go (elsewhere c e) refl
    where
      go : (t : Bool) → elsewhere c e ≡ t → Holds c b (past ++ strike c (e ∷ [])) (next c h e)
      go true p = rw (strike_one c e true p, append-nil past, struck_held c h e good i.good p) i
      go false p = rw (strike_one c e false p) (kept_holds past h e i p)

  row_holds : (r past : List Event) (h : Held) → Holds c b past h → Holds c b (past ++ strike c r) (after c h r)
  unfolding after strike
  row_holds [] past h i = rw (append-nil past) i
  row_holds (e ∷ r) past h i =
      rw (strike_append c (e ∷ []) r, ← append_assoc)
      (row_holds r (past ++ strike c (e ∷ [])) (next c h e) (event_holds past h e i))

  from_fresh : (r : List Event) → Holds c b (strike c r) (after c (fresh b) r)
  from_fresh r = row_holds r [] (fresh b) (started c b)

  -- the state that is handed on is good
  pub good_kept : (r : List Event) → good_state c (after c (fresh b) r).state ≡ true
  good_kept r = (from_fresh r).good

pub row_theorem : RowTheorem
row_theorem c b good r e =
    let h : Held = after c (fresh b) r in
    record {
      struck = struck_hands c h e good (good_kept c b good r);
      exactly = λ kept n d. rw (strike_kept c r e kept) (kept_hands c b good (strike c r) h e (from_fresh c b good r) kept n d);
    }
