-- A payload goes somewhere exactly where it goes on with a run that the row ends in, since the state says which run that is.
use Rattle.std.proofs.Math.Seq.{take-length}
use Rattle.std.proofs.lemmas.List.Edits.{length-paste, take-paste}
use Rattle.std.proofs.lemmas.List.{length_push}
use Rattle.std.proofs.Common.{ℕ, ◌+◌, ◌≤◌, ◌<◌, le_refl, arith, ◌≡◌, refl, ap, sym, ◌∙◌, Bool, true, false, List, [], ◌∷◌, ◌++◌, length, get_or, take, eqb, eqb-true, eq-eqb, ne_eqb}
use Rattle.wire.specs.Choice.{pick, both}
use Rattle.rules.specs.declared.Settings.{Settings}
use Rattle.rules.specs.declared.Key.{Key}
use Rattle.rules.specs.declared.State.{State}
use Rattle.rules.specs.declared.State.TheVariants.{Idle, Open}
use Rattle.rules.specs.Check.{check}
use Rattle.rules.specs.Section.{section_number, last_section_number, llc_snap_flag, payload}
use Rattle.rules.specs.Step.{continues, key_of, laid, onward, Nowhere, From, fill_from, room}
use Rattle.rules.specs.Row.{Event, section}
use Rattle.rules.proofs.Tested.{joined, Receivable, InRun}
use Rattle.rules.proofs.Keys.{same_key_is, key_same}
use Rattle.wire.proofs.Choice.{both_true}
use Rattle.rules.proofs.Sound.{sound}
use Rattle.rules.proofs.Runs.{EndsIn, Same, none, more, only, joined_more, joined_length}

-- ---- what the row theory knows of a section's numbers, of the room and of the buffer
pub key_flag : (s : List ℕ) → (key_of s).llc_snap ≡ llc_snap_flag s
unfolding key_of
key_flag s = refl

pub key_last : (s : List ℕ) → (key_of s).last ≡ last_section_number s
unfolding key_of
key_last s = refl

pub in_order : (s : List ℕ) → check s ≡ 0 → section_number s ≤ (key_of s).last
in_order s p = rw (key_last s) (sound s p).shared.order

pub room_bounds : (b : List ℕ) → (room b ≤ 65535) × (room b ≤ length b)
unfolding room
room_bounds b = (omega arith, omega arith)

pub room_same : (a b : List ℕ) → length a ≡ length b → room a ≡ room b
unfolding room
room_same a b p = rw p

pub laid_take : (f : ℕ) (s b : List ℕ) → f + length (payload s) ≤ length b
    → take (f + length (payload s)) (laid f s b) ≡ take f b ++ payload s
unfolding laid
laid_take f s b h =
    take-paste b f (payload s) (length (payload s)) (omega arith) (le_refl _) ∙ rw (take-length (payload s))

pub laid_length : (f : ℕ) (s b : List ℕ) → f + length (payload s) ≤ length b → length (laid f s b) ≡ length b
unfolding laid
laid_length f s b h = length-paste b f (payload s) (length (payload s)) h (le_refl _)

-- ---- what a state stands for
module _ (c : Settings) (b : List ℕ) where
  -- the row ends in n sections of a run, and the buffer begins with their payloads, f bytes
  pub record Gathered (row : List Event) (now : List ℕ) (n f : ℕ) (κ : Key) : Type 0 where
    pub sections : List (List ℕ)
    pub run : EndsIn c b row κ sections
    pub count : length sections ≡ n
    pub filled : length (joined sections) ≡ f
    pub bytes : take f now ≡ joined sections

  pub record OpenRun (row : List Event) (now : List ℕ) (e f : ℕ) (κ : Key) : Type 0 where
    pub gathered : Gathered row now e f κ
    pub some : 0 < e
    pub partial : e ≤ κ.last

  -- an idle state: the row ends in no open run. An open one: it ends in the run that the state and the buffer say
  abbrev pub Track : List Event → State → List ℕ → Type 0
  Track row Idle now = (κ : Key) (xs : List (List ℕ)) → EndsIn c b row κ xs → 0 < length xs → length xs ≤ κ.last → ⊥
  Track row (Open e f κ) now = OpenRun row now e f κ

  pub within : {row : List Event} {κ : Key} {xs : List (List ℕ)} → EndsIn c b row κ xs → 0 < length xs → κ.last + 1 ≤ c.limit
  within {row} {κ} {xs} e some =
      let p : InRun c κ 0 (get_or xs 0 []) = e.run.each 0 some in
      let last : (key_of (get_or xs 0 [])).last + 1 ≤ c.limit = rw (key_last (get_or xs 0 [])) p.receivable.within in
      rw p.agrees at last

  -- ---- where a section's payload goes
  -- a section whose payload goes somewhere goes on with a run that the row ends in
  pub follows : (row : List Event) (σ : State) (now s : List ℕ) (f : ℕ) → Track row σ now → fill_from σ s ≡ From f
      → Gathered row now (section_number s) f (key_of s)
  unfolding pick joined fill_from onward continues
  follows row σ now s f t p = from_zero (eqb (section_number s) 0) refl p
    where
      goes_on : (e g : ℕ) (κ : Key) (u : Bool) → continues e κ s ≡ u → OpenRun row now e g κ → pick u (From g) Nowhere ≡ From f
          → Gathered row now (section_number s) f (key_of s)
      goes_on e g κ true q t p =
          let parts = both_true _ _ q in
          let is : f ≡ g = cc in
          rw (eqb-true (section_number s) e parts.0, same_key_is (key_of s) κ parts.1, is) t.gathered
      goes_on e g κ false q t p = cc

      further : (σ : State) → Track row σ now → onward σ s ≡ From f → Gathered row now (section_number s) f (key_of s)
      further Idle t p = cc
      further (Open e g κ) t p = goes_on e g κ (continues e κ s) refl t p

      from_zero : (u : Bool) → eqb (section_number s) 0 ≡ u → pick u (From 0) (onward σ s) ≡ From f
          → Gathered row now (section_number s) f (key_of s)
      from_zero true q p =
          let is : f ≡ 0 = cc in
          rw (eqb-true (section_number s) 0 q, is)
          (record { sections = []; run = none c b row (key_of s); count = refl; filled = refl; bytes = refl })
      from_zero false q p = further σ t p

  -- a section that goes on with a run that the row ends in has its payload go after that run
  pub filled_from : (row : List Event) (σ : State) (now s : List ℕ) {κ : Key} (xs : List (List ℕ)) → Track row σ now
      → EndsIn c b row κ xs → InRun c κ (length xs) s → fill_from σ s ≡ From (length (joined xs))
  unfolding pick both joined fill_from onward continues
  filled_from row σ now s [] t e p = rw (eq-eqb (section_number s) 0 p.numbered)
  filled_from row Idle now s {κ} (x ∷ xs) t e p =
      let last : (key_of s).last ≡ κ.last = ap (λ (μ : Key). μ.last) p.agrees in
      absurd (t κ (x ∷ xs) e (omega arith) (omega (arith, in_order s p.receivable.sound, p.numbered)))
  filled_from row (Open e' f μ) now s {κ} (x ∷ xs) t e p =
      let g = t.gathered in
      let same : Same c b μ κ g.sections (x ∷ xs) = only c b g.run e (omega (arith, g.count, t.some)) (omega arith) in
      let n : section_number s ≡ e' = p.numbered ∙ ap length (sym same.sections) ∙ g.count in
      rw (
        ne_eqb (section_number s) 0 (λ z. omega (arith, n, t.some)),
        eq-eqb (section_number s) e' n,
        key_same (key_of s) μ (p.agrees ∙ sym same.key),
      )
      (ap From (sym g.filled ∙ ap (λ (v : List (List ℕ)). length (joined v)) same.sections))

  -- the payload is laid after what is gathered
  pub grown : (row : List Event) (now s : List ℕ) (f : ℕ) → Receivable c s → Gathered row now (section_number s) f (key_of s)
      → f + length (payload s) ≤ room b → length now ≡ length b
      → Gathered (row ++ (section s ∷ [])) (laid f s now) (section_number s + 1) (f + length (payload s)) (key_of s)
  grown row now s f k g h size =
      let in_run : InRun c (key_of s) (length g.sections) s =
      record { receivable = k; numbered = sym g.count; agrees = refl } in
      record {
        sections = g.sections ++ (s ∷ []);
        run = more c b s g.run in_run (omega (arith, g.filled));
        count = omega (arith, length_push g.sections s, g.count);
        filled = omega (arith, joined_length g.sections s, g.filled);
        bytes = laid_take f s now (omega (arith, (room_bounds b).1)) ∙ rw (g.bytes, joined_more g.sections s);
      }
