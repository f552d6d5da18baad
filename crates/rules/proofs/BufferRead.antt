-- Of the buffer only the room and, at number L, the end of the unit are asked; all else of an answer is by the section and the state.
use Rattle.std.proofs.lemmas.Bool.{eqb-false}
use Rattle.std.proofs.Common.{ℕ, arith, ◌≡◌, refl, ap, List, ◌++◌, Bool, true, false, length-append, length-take, take, eqb, eqb-true, Option, Some, None}
use Rattle.wire.specs.Bytes.{bit, byte_at}
use Rattle.wire.specs.Choice.{first_of, Line, pick}
use Rattle.rules.specs.declared.Key.{Key}
use Rattle.rules.specs.declared.State.{State}
use Rattle.rules.specs.declared.State.TheVariants.{Idle, Open}
use Rattle.rules.specs.After.{BufferRead, ReadAlike}
use Rattle.rules.specs.Meaning.{filled_before}
use Rattle.rules.specs.Section.{last_section_number, llc_snap_flag, payload, section_number}
use Rattle.rules.specs.Step.{continues, Fill, fill_from, finish, From, joined_with, keep, lay, Nowhere, onward, Outcome, refuse_first, room, step_of, up_to}
use Rattle.rules.specs.UnitEnd.{unit_end}
use Rattle.rules.proofs.Meaning.{filled_open, filled_zero}

pick_step : (t : Bool) (o p q r : Outcome) → o.step ≡ p.step → q.step ≡ r.step → (pick t o q).step ≡ (pick t p r).step
unfolding pick
pick_step true o p q r e f = e
pick_step false o p q r e f = f

refuses_alike : (lines : List Line) (b d : List ℕ) (o p : Outcome) → o.step ≡ p.step → (refuse_first lines b o).step ≡ (refuse_first lines d p).step
unfolding refuse_first
refuses_alike lines b d o p e = pick_step (eqb (first_of lines) 0) o p _ _ e refl

ends_alike : (end : Option ℕ) (b d after later : List ℕ) → (up_to end b after).step ≡ (up_to end d later).step
unfolding up_to
ends_alike (Some n) b d after later = refl
ends_alike None b d after later = refl

-- where a payload goes, as many bytes are filled before it as the papers say
filled_before_is : (σ : State) (s : List ℕ) (f : ℕ) → fill_from σ s ≡ From f → filled_before σ (byte_at s 6) ≡ f
unfolding fill_from onward section_number pick
filled_before_is σ s f p = from_zero (eqb (byte_at s 6) 0) refl p
  where
    goes_on : (e g : ℕ) (κ : Key) (t : Bool) → eqb (byte_at s 6) 0 ≡ false → pick t (From g) Nowhere ≡ From f
        → filled_before (Open e g κ) (byte_at s 6) ≡ f
    goes_on e g κ true q p = let is : g ≡ f = cc in rw (← is) (filled_open e g κ (byte_at s 6) (eqb-false _ _ q))
    goes_on e g κ false q p = cc

    further : (σ : State) → eqb (byte_at s 6) 0 ≡ false → onward σ s ≡ From f → filled_before σ (byte_at s 6) ≡ f
    further Idle q p = cc
    further (Open e g κ) q p = goes_on e g κ (continues e κ s) q p

    from_zero : (t : Bool) → eqb (byte_at s 6) 0 ≡ t → pick t (From 0) (onward σ s) ≡ From f → filled_before σ (byte_at s 6) ≡ f
    from_zero true q p = let is : ◌≡◌ {A = ℕ} 0 f = cc in rw (← is) (filled_zero σ (byte_at s 6) (eqb-true _ _ q))
    from_zero false q p = further σ q p

module _ (σ : State) (s b d : List ℕ) (alike : ReadAlike σ s b d) where
  same_end : (f : ℕ) → filled_before σ (byte_at s 6) ≡ f → byte_at s 6 ≡ byte_at s 7
      → unit_end (llc_snap_flag s) (joined_with f s b) ≡ unit_end (llc_snap_flag s) (joined_with f s d)
  unfolding llc_snap_flag joined_with unit_end pick
  same_end f e last = go (eqb (bit 1 (byte_at s 5)) 1) refl
    where
      go : (t : Bool) → eqb (bit 1 (byte_at s 5)) 1 ≡ t → unit_end t (take f b ++ payload s) ≡ unit_end t (take f d ++ payload s)
      go true q = ap Some (rw (length-append (take f b) (payload s), length-append (take f d) (payload s), length-take f b, length-take f d, alike.size))
      go false q =
          let off : bit 1 (byte_at s 5) ≡ 0 = omega (arith, eqb-false (bit 1 (byte_at s 5)) 1 q) in
          let before : take f b ≡ take f d = rw e at (alike.before last off) in rw before

  keeps_alike : (f : ℕ) → filled_before σ (byte_at s 6) ≡ f → (keep f s b).step ≡ (keep f s d).step
  unfolding keep finish section_number last_section_number pick
  keeps_alike f e = go (eqb (byte_at s 6) (byte_at s 7)) refl
    where
      go : (t : Bool) → eqb (byte_at s 6) (byte_at s 7) ≡ t → (keep f s b).step ≡ (keep f s d).step
      go true q = rw (q, same_end f e (eqb-true _ _ q)) (ends_alike _ b d _ _)
      go false q = rw q

  lays_alike : (p : Fill) → fill_from σ s ≡ p → (lay p s b).step ≡ (lay p s d).step
  unfolding lay room
  lays_alike Nowhere q = refl
  lays_alike (From f) q = rw alike.size (pick_step _ (keep f s b) (keep f s d) _ _ (keeps_alike f (filled_before_is σ s f q)) refl)

pub buffer_read : BufferRead
unfolding step_of
buffer_read c σ s b d alike =
    refuses_alike _ b d _ _
    (refuses_alike _ b d _ _
    (pick_step _ _ _ _ _ (refuses_alike _ b d _ _ (lays_alike σ s b d alike (fill_from σ s) refl)) refl))
