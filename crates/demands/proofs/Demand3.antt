-- Each contract is an equation with the rules' own step, so what is held and handed over follows event by event.
use Prim.Native.Nat.{ℕ}
use native.Mathlib.Decide.{ℕ_discrete}
use mathlib.Core.Path.{◌≡◌, refl, ap, ap₂, ◌∙◌}
use mathlib.Core.List.{List, [], ◌∷◌, ◌++◌}
use borrow.Author.Tests.{ne_eqb}
use Rattle.wire.specs.Choice.{pick}
use Rattle.rules.specs.declared.Settings.{Settings}
use Rattle.rules.specs.Answers.{Answer, Step, Delivered, PassedBy, Refused, Stored}
use Rattle.rules.specs.After.{NamedByNumber}
use Rattle.rules.specs.declared.State.TheVariants.{Idle}
use Rattle.rules.specs.Demand3.{HandedRight, OfBytes, OwnLength}
use Rattle.rules.specs.Meaning.{GoodState}
use Rattle.rules.specs.Row.{after, Event, fresh, Handed, handed_by, handed_over, Held, next, section}
use Rattle.rules.specs.Step.{gap_of, length_of, number_of}
use Rattle.rules.proofs.After.{receiver_names}
use Rattle.rules.proofs.Demand3.{demand_3 as demand_3_holds}
use Rattle.rules.proofs.Handed.{handed_row}
use Rattle.rules.proofs.Made.{made_good}
use Rattle.caller_numbers.proofs.Meaning.{handed_on}
use Rattle.demands.specs.Abroad.{receive_given}
use Rattle.demands.specs.Demand3.{a_gap, a_gap_abroad, a_section, a_section_abroad, Demand3, ended, Given, GivenRow, handed_abroad, more}

held : (c : Settings) (h : Held) (e : Event) (k : Held) (d : Handed) → Given c h e k d → k ≡ next c h e
unfolding next gap_of GoodState
held c h e k d (a_section κs a z x p q r t) =
    rw (ap (λ (o : Step). o.state) t.step, t.buffer, p, q, r)
held c h e k d (a_gap κs a z x q t) = rw t
held c h e k d (a_section_abroad κs a z x p q r t) =
    rw (t.state, t.buffer, p, q, r, handed_on c _ (made_good c h.state (receive_given κs a).section h.buffer))
held c h e k d (a_gap_abroad κs a z x q t) = rw (t, handed_on c Idle tt)

-- ---- an answer's number and length tell what is handed over, since no refusal has the number 0
named_tells : (a : Answer) → NamedByNumber a → (b : List ℕ) → handed_abroad (number_of a) (length_of a) b ≡ handed_by a b
unfolding handed_abroad number_of length_of handed_by pick
named_tells (Delivered n) t b = refl
named_tells Stored t b = refl
named_tells PassedBy t b = refl
named_tells (Refused n) t b = go (ℕ_discrete n 0)
  where
    go : Dec (n ≡ 0) → handed_abroad n 0 b ≡ handed_by (Refused n) b
    go (yes e) = let other = t.delivered e in absurd cc
    go (no e) = rw (ne_eqb n 0 e)

handed : (c : Settings) (h : Held) (e : Event) (k : Held) (d : Handed) → Given c h e k d → d ≡ handed_over c h e
unfolding handed_over
handed c h e k d (a_section κs a z x p q r t) =
    rw (ap (λ (o : Step). o.answer) t.step, t.buffer, p, q, r)
handed c h e k d (a_gap κs a z x q t) = refl
handed c h e k d (a_section_abroad κs a z x p q r t) =
    rw (t.answer, t.unit, t.buffer, p, q, r) (named_tells _ (receiver_names c h.state _ h.buffer) _)
handed c h e k d (a_gap_abroad κs a z x q t) = refl

-- ---- rows
row : (c : Settings) (h : Held) (r : List Event) (ds : List Handed) (l : Held) → GivenRow c h r ds l → l ≡ after c h r
unfolding after
row c h r ds l (ended m) = refl
row c h r ds l (more m e k d q es n g w) = row c k q es l w ∙ ap (λ (x : Held). after c x q) (held c h e k d g)

pub row_handed : (c : Settings) (h : Held) (r : List Event) (ds : List Handed) (l : Held) → GivenRow c h r ds l → ds ≡ handed_row c h r
unfolding handed_row
row_handed c h r ds l (ended m) = refl
row_handed c h r ds l (more m e k d q es n g w) =
    ap₂ (λ (x : Handed) (xs : List Handed). x ∷ xs) (handed c h e k d g)
    (row_handed c k q es l w ∙ ap (λ (x : Held). handed_row c x q) (held c h e k d g))

each : (c : Settings) (b : List ℕ) (r : List Event) (ds : List Handed) (h : Held) → GivenRow c (fresh b) r ds h
    → (e : Event) (k : Held) (d : Handed) → Given c h e k d → OfBytes (r ++ (e ∷ [])) → HandedRight c b r e d
each c b r ds h g e k d f given =
    rw (handed c h e k d f, row c (fresh b) r ds h g) ((demand_3_holds c b).each r e given)

own : (c : Settings) (h : Held) (s : List ℕ) (k : Held) (d : Handed) → Given c h (section s) k d → OwnLength s d
own c h s k d f = rw (handed c h (section s) k d f) ((demand_3_holds c []).own h s)

pub demand_3 : Demand3
demand_3 =
    record {
      each = each;
      strikes = λ c. (demand_3_holds c []).strikes;
      only = λ c b. (demand_3_holds c b).only;
      once = λ c b. (demand_3_holds c b).once;
      own = own;
    }
