-- The tests that lead to an answer say whether the row ends in a run with the section, and whether that run is whole.
use Rattle.std.proofs.lemmas.Bool.{false≢true, eqb-false, not-true}
use Rattle.std.proofs.Common.{ℕ, ◌+◌, ◌≤◌, ◌<◌, arith, ◌≡◌, refl, ap, ap₂, sym, ◌∙◌, ◌↔◌, Bool, true, false, List, [], ◌∷◌, ◌++◌, length, take, eqb-true, leb-true, leb-false, Option}
use Rattle.wire.specs.Choice.{pick, both, first, first_of}
use Rattle.wire.proofs.Choice.{both_true}
use Rattle.rules.specs.declared.Settings.{Settings}
use Rattle.rules.specs.declared.Key.{Key}
use Rattle.rules.specs.declared.State.{State}
use Rattle.rules.specs.declared.State.TheVariants.{Open}
use Rattle.rules.specs.Answers.{Stored, PassedBy}
use Rattle.rules.specs.Section.{section_number, payload}
use Rattle.rules.specs.Check.{check}
use Rattle.rules.specs.Step.{setup_lines, own_refusal, finish, good_settings, good_state, joined_with, keep, key_of, lay, Fill, Nowhere, From, fill_from, room, Outcome, ours, outcome, refuse, refuse_first, step_of, up_to}
use Rattle.rules.specs.Row.{Event, section, Held, fresh, datagram, handed_by}
use Rattle.rules.specs.UnitEnd.{unit_end}
use Rattle.rules.proofs.Tested.{elsewhere, joined, Receivable, Ready}
use Rattle.rules.proofs.Sound.{none_own, own_none}
use Rattle.rules.proofs.Runs.{EndsIn, ends_size, Next, next, Same, only, whole_ends}
use Rattle.rules.proofs.Track.{key_flag, key_last, in_order, room_bounds, room_same, laid_length, laid_take, Gathered, Track, within, follows, filled_from, grown}
use Rattle.rules.proofs.Finish.{Carries, up_to_hands, up_to_size, up_to_state, handed, held}
use Rattle.rules.proofs.UnitEnd.{end_within_is}

pub pick_case : (P : Outcome → Type 0) (t : Bool) (o u : Outcome) → (t ≡ true → P o) → (t ≡ false → P u) → P (pick t o u)
unfolding pick
pick_case P true o u f g = f refl
pick_case P false o u f g = g refl

-- ---- the step
-- neither 10 nor 11 applies
settled : (c : Settings) (σ : State) → good_settings c ≡ true → good_state c σ ≡ true → first_of (setup_lines c σ) ≡ 0
unfolding setup_lines first_of first
settled c σ p q = rw (p, q)

struck_is : (c : Settings) (s : List ℕ) → check s ≡ 0 → ours c s ≡ false → elsewhere c (section s) ≡ true
unfolding elsewhere both
struck_is c s p q = rw (p, q)

-- a struck section is passed by
pub passes : (c : Settings) (σ : State) (s b : List ℕ) → good_settings c ≡ true → good_state c σ ≡ true
    → elsewhere c (section s) ≡ true → step_of c σ s b ≡ outcome PassedBy σ b
unfolding check elsewhere step_of refuse_first pick
passes c σ s b good fine struck =
    let parts = both_true _ _ struck in
    rw (settled c σ good fine, parts.0, not-true (ours c s) parts.1)

module _ (c : Settings) (b : List ℕ) where
  -- what is held after the struck row
  pub record Holds (row : List Event) (h : Held) : Type 0 where
    pub size : length h.buffer ≡ length b
    pub good : good_state c h.state ≡ true
    pub track : Track c b row h.state h.buffer

  -- of a fresh start: an empty row ends in no run
  pub started : Holds [] (fresh b)
  unfolding good_state
  started = record { size = refl; good = refl; track = λ κ xs e some partial. omega (arith, ends_size e.there) }

  -- ---- the outcome that is due at the section s after the row past, by what the row then ends in
  pub data Due (past : List Event) (now s : List ℕ) : Outcome → Type 0 where
    -- no run
    refused : {n : ℕ} → ((κ : Key) (xs : List (List ℕ)) → EndsIn c b (past ++ (section s ∷ [])) κ xs → 0 < length xs → ⊥)
        → Due past now s (refuse n now)
    -- a run up to its last number, whose unit has an end or not
    finished : {f : ℕ} {after : List ℕ} → length after ≡ length b
        → (g : Gathered c b (past ++ (section s ∷ [])) after (section_number s + 1) f (key_of s))
        → section_number s ≡ (key_of s).last → Due past now s (up_to (unit_end (key_of s).llc_snap (joined g.sections)) now after)
    -- an open run
    stored : {f : ℕ} {after : List ℕ} → length after ≡ length b
        → Gathered c b (past ++ (section s ∷ [])) after (section_number s + 1) f (key_of s)
        → section_number s < (key_of s).last → Due past now s (outcome Stored (Open (section_number s + 1) f (key_of s)) after)

  pub due_holds : {past : List Event} {now s : List ℕ} {o : Outcome} → length now ≡ length b → good_state c o.step.state ≡ true
      → Due past now s o → Holds (past ++ (section s ∷ [])) (held o)
  due_holds size good (refused never_ends) = record { size = size; good = good; track = λ κ xs e some partial. never_ends κ xs e some }
  due_holds {past} {now} {s} size good (finished {f = f} {after = after} size' g whole) =
      let end : Option ℕ = unit_end (key_of s).llc_snap (joined g.sections) in
      record {
        size = up_to_size end now after (length b) size size';
        good = good;
        track = rw (up_to_state end now after)
            (λ κ xs e some partial.
            let same = only c b e g.run some (omega (arith, g.count)) in
            omega (arith, ap length same.sections, ap (λ (μ : Key). μ.last) same.key, g.count));
      }
  due_holds size good (stored size' g part) =
      record { size = size'; good = good; track = record { gathered = g; some = omega arith; partial = omega arith } }

  -- the run that is ready is the run that is gathered
  ready_run : {row : List Event} {now : List ℕ} {m n f : ℕ} {d : List ℕ} {κ : Key} (w : Ready c b row n d)
      → (g : Gathered c b row now m f κ) → 0 < m → Same c b w.run.key κ w.sections g.sections
  ready_run w g some =
      only c b (whole_ends c b w.run w.there) g.run (omega (arith, w.run.whole)) (omega (arith, g.count))

  pub due_hands : {past : List Event} {now s : List ℕ} {o : Outcome} → Due past now s o → (n : ℕ) (d : List ℕ)
      → (handed o ≡ datagram n d) ↔ Ready c b (past ++ (section s ∷ [])) n d
  unfolding handed_by
  due_hands (refused never_ends) n d = (
    λ p. cc,
    λ w. absurd (never_ends w.run.key w.sections (whole_ends c b w.run w.there) (omega (arith, w.run.whole))),
  )
  due_hands {past} {now} {s} (finished {f = f} {after = after} size g last) n d =
      let p : List ℕ = joined g.sections in
      let llc_snap : Bool = (key_of s).llc_snap in
      let fits : length p ≤ length after = omega (arith, g.run.run.fits, (room_bounds b).1) in
      let bytes : take (length p) after ≡ p = ap (λ (k : ℕ). take k after) g.filled ∙ g.bytes in
      let hands = up_to_hands (unit_end llc_snap p) now after p bytes fits (end_within_is llc_snap p) n d in
      let limit : (key_of s).last + 1 ≤ c.limit = within c b g.run (omega (arith, g.count)) in (
        λ q.
            let k : Carries (unit_end llc_snap p) p n d = hands.0 q in
            record {
              sections = g.sections;
              run =
                  record {
                    key = key_of s;
                    run = g.run.run;
                    whole = omega (arith, g.count);
                    within = omega (arith, g.count);
                    end = k.end;
                    ends = k.ends;
                  };
              there = g.run.there;
              bytes = k.bytes;
              size = k.size;
            },
        λ w.
            let same = ready_run w g (omega arith) in
            hands.1
            (record {
              end = w.run.end;
              ends = ap₂ (λ (κ : Key) (xs : List (List ℕ)). unit_end κ.llc_snap (joined xs)) (sym same.key) (sym same.sections) ∙ w.run.ends;
              bytes = w.bytes ∙ ap (λ (xs : List (List ℕ)). take w.run.end (joined xs)) same.sections;
              size = w.size;
            }),
      )
  due_hands (stored size g part) n d = (
    λ p. cc,
    λ w.
        let same = ready_run w g (omega arith) in
        absurd (omega (arith, w.run.whole, ap length same.sections, ap (λ (κ : Key). κ.last) same.key, g.count)),
  )

  -- ---- the step's outcome is due
  module _ (past : List Event) (h : Held) (i : Holds past h) (s : List ℕ) where
    abbrev Here : Outcome → Type 0
    Here o = Due past h.buffer s o

    -- where s is no next section of a run that the row ends in, it is refused
    refusing : {n : ℕ} → ((κ : Key) → Next c b past s κ → ⊥) → Here (refuse n h.buffer)
    refusing no_next = refused (λ κ xs e some. no_next κ (next c b e some))

    -- where a run asks for the payload is where it goes
    fill_is : (p : Fill) → fill_from h.state s ≡ p → {κ : Key} (l : Next c b past s κ) → p ≡ From (length (joined l.init))
    fill_is p q l = sym q ∙ filled_from c b past h.state h.buffer s l.init i.track l.before l.in_run

    keeps : Receivable c s → (f : ℕ) → fill_from h.state s ≡ From f → f + length (payload s) ≤ room h.buffer
        → Here (keep f s h.buffer)
    unfolding keep finish joined_with
    keeps k f q fits =
        let rooms : room h.buffer ≡ room b = room_same h.buffer b i.size in
        let before = follows c b past h.state h.buffer s f i.track q in
        let g = grown c b past h.buffer s f k before (omega arith) i.size in
        let size = laid_length f s h.buffer (omega (arith, (room_bounds h.buffer).1)) ∙ i.size in
        let all : joined_with f s h.buffer ≡ joined g.sections = sym (laid_take f s h.buffer (omega (arith, (room_bounds h.buffer).1))) ∙ g.bytes in
        pick_case Here _ _ _ (λ t. rw (all, ← key_flag s) (finished size g (eqb-true _ _ t ∙ sym (key_last s))))
        (λ t.
        let other : section_number s ≡ (key_of s).last → ⊥ = λ e. eqb-false _ _ t (e ∙ key_last s) in
        stored size g (omega (arith, in_order s k.sound)))

    lays : Receivable c s → (p : Fill) → fill_from h.state s ≡ p → Here (lay p s h.buffer)
    unfolding lay
    lays k Nowhere q = refusing (λ κ l. let z = fill_is Nowhere q l in cc)
    lays k (From f) q =
        pick_case Here _ _ _ (λ t. keeps k f q (leb-true _ _ t))
        (λ t. refusing (λ κ l.
        let over : room h.buffer < f + length (payload s) = leb-false _ _ t in
        let is : From f ≡ From (length (joined l.init)) = fill_is (From f) q l in
        let f_is : f ≡ length (joined l.init) = cc in
        omega (arith, room_same h.buffer b i.size, l.fits)))

    -- test by test, as the step has them
    pub due : good_settings c ≡ true → elsewhere c (section s) ≡ false → Here (step_of c h.state s h.buffer)
    unfolding check own_refusal step_of refuse_first
    due good kept =
        pick_case Here _ _ _ (λ t.
        pick_case Here _ _ _ (λ sound.
        pick_case Here _ _ _ (λ address.
        pick_case Here _ _ _ (λ free.
        let t = own_none c s (eqb-true _ _ free) in
        lays (record { sound = eqb-true _ _ sound; address = address; clear = t.0; within = t.1 }) (fill_from h.state s) refl)
        (λ refused. refusing (λ κ l. let r = l.in_run.receivable in eqb-false _ _ refused (none_own c s r.clear r.within))))
        (λ foreign. absurd (false≢true (sym kept ∙ struck_is c s (eqb-true _ _ sound) foreign))))
        (λ unsound. refusing (λ κ l. eqb-false _ _ unsound l.in_run.receivable.sound)))
        (λ bad. absurd (eqb-false _ _ bad (settled c h.state good i.good)))
