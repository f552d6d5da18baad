-- The receiver makes good states only: what it passes by leaves a state that was tested, and of what it stores each number and the address
-- were tested.
use Rattle.std.proofs.lemmas.Bool.{eqb-false, not-false}
use Rattle.std.proofs.Common.{ℕ, ◌+◌, ◌*◌, ◌≤◌, arith, ◌≡◌, refl, Bool, true, false, List, length, eqb, eqb-true, leb-true}
use Rattle.wire.specs.Choice.{first_of, pick}
use Rattle.wire.proofs.Choice.{both_true, none_first}
use Rattle.rules.specs.declared.Key.{Key}
use Rattle.rules.specs.declared.Settings.{Settings}
use Rattle.rules.specs.declared.State.{State}
use Rattle.rules.specs.declared.State.TheVariants.{Idle, Open}
use Rattle.rules.specs.After.{MadeGood}
use Rattle.rules.specs.Check.{check}
use Rattle.rules.specs.Meaning.{Good, GoodState}
use Rattle.rules.specs.Section.{address, last_section_number, payload, section_number}
use Rattle.rules.specs.Step.{continues, Fill, fill_from, finish, From, good_state, keep, key_of, laid, lay, Nowhere, onward, ours, Outcome, own_refusal, refuse_first, room, setup_lines, step_of}
use Rattle.rules.proofs.Compared.{compares_last}
use Rattle.rules.proofs.Due.{pick_case}
use Rattle.rules.proofs.Finish.{up_to_state}
use Rattle.rules.proofs.Good.{good_is}
use Rattle.rules.proofs.Meaning.{state_tells}
use Rattle.rules.proofs.Sound.{own_none, payload_small, sound}
use Rattle.rules.proofs.Track.{room_bounds}

-- neither 10 nor 11 applies
set_up : (c : Settings) (σ : State) → first_of (setup_lines c σ) ≡ 0 → Good c × GoodState c σ
unfolding setup_lines
set_up c σ p =
    let t10 = none_first _ _ (omega arith) p in
    let t11 = none_first _ _ (omega arith) t10.1 in
    ((good_is c).0 (not-false _ t10.0), (state_tells c σ).0 (not-false _ t11.0))

-- a payload goes after no more bytes than the sections before it can carry
filled_bytes : (c : Settings) (σ : State) (s : List ℕ) (f : ℕ) → GoodState c σ → fill_from σ s ≡ From f → f ≤ 4080 * section_number s
unfolding fill_from onward continues pick GoodState
filled_bytes c σ s f good p = from_zero (eqb (section_number s) 0) refl p
  where
    goes_on : (e g : ℕ) (κ : Key) (u : Bool) → continues e κ s ≡ u → GoodState c (Open e g κ) → pick u (From g) Nowhere ≡ From f
        → f ≤ 4080 * section_number s
    goes_on e g κ true q good p =
        let is : f ≡ g = cc in
        let next : section_number s ≡ e = eqb-true _ _ (both_true _ _ q).0 in
        omega (arith, good.4)
    goes_on e g κ false q good p = cc

    further : (σ : State) → GoodState c σ → onward σ s ≡ From f → f ≤ 4080 * section_number s
    further Idle good p = cc
    further (Open e g κ) good p = goes_on e g κ (continues e κ s) refl good p

    from_zero : (u : Bool) → eqb (section_number s) 0 ≡ u → pick u (From 0) (onward σ s) ≡ From f → f ≤ 4080 * section_number s
    from_zero true q p = let is : f ≡ 0 = cc in omega arith
    from_zero false q p = further σ good p

module _ (c : Settings) (σ : State) (s b : List ℕ) where
  abbrev Leaves : Outcome → Type 0
  Leaves o = GoodState c o.step.state

  idle : GoodState c Idle
  unfolding GoodState
  idle = tt

  -- the tests that come before the payload is stored
  pub record Passed : Type 0 where
    pub good : Good c
    pub state : GoodState c σ
    pub sound : check s ≡ 0
    pub own : ours c s ≡ true
    pub within : last_section_number s + 1 ≤ c.limit

  keeps : Passed → (f : ℕ) → fill_from σ s ≡ From f → f + length (payload s) ≤ room b → Leaves (keep f s b)
  unfolding keep finish key_of GoodState ours
  keeps t f q fits =
      pick_case Leaves _ _ _ (λ _. rw (up_to_state _ b (laid f s b)) idle)
      (λ other.
      let more : section_number s ≡ last_section_number s → ⊥ = eqb-false _ _ other in
      let order : section_number s ≤ last_section_number s = (sound s t.sound).shared.order in (
        omega arith,
        omega arith,
        omega (arith, t.within, t.good.limit255),
        omega (arith, (room_bounds b).0),
        omega (arith, filled_bytes c σ s f t.state q, payload_small s t.sound),
        (compares_last c.range c.address (address s)).0 t.own,
      ))

  lays : Passed → (p : Fill) → fill_from σ s ≡ p → Leaves (lay p s b)
  unfolding lay
  lays t Nowhere q = idle
  lays t (From f) q = pick_case Leaves _ _ _ (λ fits. keeps t f q (leb-true _ _ fits)) (λ _. idle)

  made : Leaves (step_of c σ s b)
  unfolding check own_refusal step_of refuse_first
  made =
      pick_case Leaves _ _ _ (λ set.
      let start = set_up c σ (eqb-true _ _ set) in
      pick_case Leaves _ _ _ (λ sound.
      pick_case Leaves _ _ _ (λ own.
      pick_case Leaves _ _ _ (λ free.
      let within : last_section_number s + 1 ≤ c.limit = (own_none c s (eqb-true _ _ free)).1 in
      lays (record { good = start.0; state = start.1; sound = eqb-true _ _ sound; own = own; within = within }) (fill_from σ s) refl)
      (λ _. idle))
      (λ _. start.1))
      (λ _. idle))
      (λ _. idle)

pub made_good : MadeGood
made_good = made

-- the same by the receiver's own test
pub made_tested : (c : Settings) (σ : State) (s b : List ℕ) → good_state c (step_of c σ s b).step.state ≡ true
made_tested c σ s b = (state_tells c _).1 (made c σ s b)
