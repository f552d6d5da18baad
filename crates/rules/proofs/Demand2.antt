-- The sender's sections are a whole run, offered one by one; the row theory says what is due at each of them.
use mathlib.Core.List.{flatten}
use Rattle.std.proofs.lemmas.List.{map_push}
use Rattle.std.proofs.Common.{ℕ, zero, suc, ◌+◌, ◌-◌, ◌≤◌, ◌<◌, arith, add-one, ◌≡◌, refl, ap, ap₂, sym, ◌∙◌, Bool, false, List, [], ◌∷◌, ◌++◌, map, length, take, length-take, Some}
use Rattle.wire.specs.Bytes.{number_at}
use Rattle.wire.specs.Choice.{both}
use Rattle.rules.specs.declared.Settings.{Settings}
use Rattle.rules.specs.declared.Key.{Key}
use Rattle.rules.specs.Answers.{Delivered, Stored, Sent}
use Rattle.rules.specs.Recording.{offers}
use Rattle.rules.specs.Demand2.{answer_at, Arrives, RoundTrip}
use Rattle.rules.specs.Sound.{table3, Values}
use Rattle.rules.specs.Row.{after, Event, fresh, Held, next, section}
use Rattle.rules.proofs.Compared.{same_self}
use Rattle.rules.proofs.Good.{good_is}
use Rattle.rules.proofs.Made.{made_tested}
use Rattle.rules.proofs.Written.{sent, sent_is, sent_limits}
use Rattle.rules.proofs.Tested.{elsewhere, joined, InRun, Receivable}
use Rattle.rules.specs.Section.{header, sealed, section_length, section_of}
use Rattle.rules.specs.Send.{piece, section_at, section_count, sections, sections_to, sent_of}
use Rattle.rules.specs.Step.{key_of, Outcome, ours, room, step_of, up_to}
use Rattle.rules.specs.UnitEnd.{unit_end}
use Rattle.rules.proofs.Recording.{Framed, offers_sections}
use Rattle.rules.proofs.Due.{Due, refused, finished, stored, due, due_holds, Holds, started}
use Rattle.rules.proofs.Runs.{EndsIn, only}
use Rattle.rules.proofs.Sections.{sections_are, sections_sent}
use Rattle.rules.proofs.Send.{Accepted, count_some, SentAll, sent_all, sent_all_bytes, joined_to, piece_small, section_size, section_written, sections_at, sections_joined, sections_length, sections_take}
use Rattle.rules.specs.Demand3 as InWords

-- ---- each section is receivable
after_more : (c : Settings) (h : Held) (r : List Event) (e : Event) → after c h (r ++ (e ∷ [])) ≡ next c (after c h r) e
unfolding after
after_more c h [] e = refl
after_more c h (x ∷ r) e = after_more c (next c h x) r e

-- a unit within the buffer is within the room
room_enough : (b : List ℕ) (n : ℕ) → n ≤ 65535 → n ≤ length b → n ≤ room b
unfolding room
room_enough b n h k = omega arith

module _ (c : Settings) (llc_snap : Bool) (n : ℕ) (u out : List ℕ) (a : Accepted c llc_snap n u out) where
  abbrev count : ℕ
  count = section_count n u

  abbrev to : ℕ → List (List ℕ)
  to k = sections_to c llc_snap n u k

  abbrev at : ℕ → List ℕ
  at i = section_at c llc_snap n u i

  -- what the sections agree on
  abbrev key : Key
  key = record { address = c.address; last = count - 1; llc_snap = llc_snap }

  receivable : (i : ℕ) → i < count → Receivable c (at i)
  unfolding section_at ours
  receivable i h =
      let w = section_written c llc_snap n u a.some a.most i h in
      let last : count - 1 + 1 ≤ c.limit = omega (arith, a.limit) in
      record {
        sound = w.sound;
        address = rw w.addressed (same_self c.range c.address);
        clear = w.clear;
        within = rw w.ending last;
      }

  in_words : (i : ℕ) → i < count → (v : Values) × (at i ≡ table3 v) × InWords.Receivable c v
  unfolding section_at
  in_words i h =
      let p : List ℕ = piece n u i in
      let most : length p ≤ 4080 = omega (arith, piece_small n u i, a.most) in (
        sent c.address llc_snap i (count - 1) p,
        sent_is c.address llc_snap i (count - 1) p,
        record {
          limits = sent_limits c.address llc_snap i (count - 1) p (omega arith) most;
          own = λ j l. refl;
          clear = refl;
          within = omega (arith, a.limit);
        },
      )

  agreed : (i : ℕ) → i < count → InRun c key i (at i)
  unfolding section_at key_of
  agreed i h =
      let w = section_written c llc_snap n u a.some a.most i h in
      record { receivable = receivable i h; numbered = w.numbered; agrees = rw (w.addressed, w.ending, w.flagged) }

  framed : (i : ℕ) → i < count → Framed (at i)
  unfolding section_at section_of sealed header section_length number_at
  framed i h =
      let size = section_size c.address llc_snap i (count - 1) (piece n u i) in
      let most : length (piece n u i) ≤ 4080 = omega (arith, piece_small n u i, a.most) in
      record { head = omega arith; whole = omega arith }

  -- ---- the run, given to a fresh receiver
  module _ (b : List ℕ) (fits : length u ≤ room b) where
    abbrev row : ℕ → List Event
    row k = map section (to k)

    abbrev held : ℕ → Held
    held k = after c (fresh b) (row k)

    -- the first k sections are a run
    run_to : (k : ℕ) → k ≤ count → EndsIn c b (row k) key (to k)
    run_to k h =
        record {
          run =
              record {
                each = λ i l.
                    let m : i < k = omega (arith, sections_length c llc_snap n u k) in
                    rw (sections_at c llc_snap n u k i m) (agreed i (omega arith));
                fits = rw (joined_to c llc_snap n u a.some a.most k h, length-take) (omega arith);
              };
          there = record { front = []; split = refl };
        }

    kept : (i : ℕ) → i < count → elsewhere c (section (at i)) ≡ false
    unfolding elsewhere both
    kept i h = let r = receivable i h in rw (r.sound, r.address)

    -- what is due at section k, by what is held before it
    due_at : (k : ℕ) → k < count → Holds c b (row k) (held k)
        → Due c b (row k) (held k).buffer (at k) (step_of c (held k).state (at k) (held k).buffer)
    due_at k h i = due c b (row k) (held k) i (at k) ((good_is c).1 a.settings) (kept k h)

    holds_to : (k : ℕ) → k ≤ count → Holds c b (row k) (held k)
    unfolding sections_to next after
    holds_to zero h = started c b
    holds_to (suc k) h =
        let i : Holds c b (row k) (held k) = holds_to k (omega arith) in
        rw (map_push section (to k) (at k), after_more c (fresh b) (row k) (section (at k)))
        (due_holds c b i.size (made_tested c (held k).state (at k) (held k).buffer) (due_at k (omega arith) i))

    -- the outcome at section k
    pub record Outcomes (k : ℕ) (o : Outcome) : Type 0 where
      pub stored : k + 1 < count → o.step.answer ≡ Stored
      pub delivered : k + 1 ≡ count → o.step.answer ≡ Delivered (length u)
      pub unit : k + 1 ≡ count → take (length u) o.buffer ≡ u

    run_next : (k : ℕ) → k < count → EndsIn c b (row k ++ (section (at k) ∷ [])) key (to (suc k))
    unfolding sections_to
    run_next k h = rw (← map_push section (to k) (at k)) (run_to (suc k) h)

    some_to : (k : ℕ) → 0 < length (to (suc k))
    some_to k = omega (arith, sections_length c llc_snap n u (suc k))

    outcomes : (k : ℕ) → k < count → {now : List ℕ} {o : Outcome} → Due c b (row k) now (at k) o → Outcomes k o
    unfolding up_to sections
    outcomes k h (refused never_ends) = absurd (never_ends key (to (suc k)) (run_next k h) (some_to k))
    outcomes k h (finished {f = f} {after = after} size g last) =
        let p : InRun c key k (at k) = agreed k h in
        let is : suc k ≡ count = omega (arith, p.numbered, ap (λ (κ : Key). κ.last) p.agrees) in
        let same = only c b g.run (run_next k h) (omega (arith, g.count)) (some_to k) in
        let all : joined g.sections ≡ u =
        ap joined (same.sections ∙ ap to is) ∙ sections_joined c llc_snap n u a.some a.most in
        let size : f ≡ length u = sym g.filled ∙ ap length all in
        let ends : unit_end (key_of (at k)).llc_snap (joined g.sections) ≡ Some (length u) =
        ap₂ (λ (κ : Key) (p : List ℕ). unit_end κ.llc_snap p) p.agrees all ∙ a.ends in
        rw ends
        (record {
          stored = λ l. absurd (omega arith);
          delivered = λ l. refl;
          unit = λ l. ap (λ (m : ℕ). take m after) (sym size) ∙ g.bytes ∙ all;
        })
    outcomes k h (stored size g part) =
        let p : InRun c key k (at k) = agreed k h in
        let more : k < count - 1 = omega (arith, p.numbered, ap (λ (κ : Key). κ.last) p.agrees) in
        record { stored = λ l. refl; delivered = λ l. absurd (omega arith); unit = λ l. absurd (omega arith) }

    outcome_at : (k : ℕ) → k < count → Outcomes k (step_of c (held k).state (at k) (held k).buffer)
    outcome_at k h = outcomes k h (due_at k h (holds_to k (omega arith)))

    answer_at_is : (i : ℕ) → i < count → answer_at c b (to count) i ≡ (step_of c (held i).state (at i) (held i).buffer).step.answer
    unfolding answer_at
    answer_at_is i h =
        ap₂ (λ (before : List (List ℕ)) (s : List ℕ).
        let held : Held = after c (fresh b) (map section before) in
        (step_of c held.state s held.buffer).step.answer)
        (sections_take c llc_snap n u count i (omega arith)) (sections_at c llc_snap n u count i h)

    unit_at : (k : ℕ) → k + 1 ≡ count → take (length u) (held (suc k)).buffer ≡ u
    unfolding sections_to next
    unit_at k h =
        rw (map_push section (to k) (at k), after_more c (fresh b) (row k) (section (at k)))
        ((outcome_at k (omega arith)).unit h)

    arrives : Arrives c b (to count) u
    arrives =
        let l = sections_length c llc_snap n u count in
        record {
          receivable = λ i h. rw (sections_at c llc_snap n u count i (omega arith)) (in_words i (omega arith));
          stored = λ i h. answer_at_is i (omega arith) ∙ (outcome_at i (omega arith)).stored (omega arith);
          delivered = λ i h. answer_at_is i (omega arith) ∙ (outcome_at i (omega arith)).delivered (omega arith);
          unit = last (count - 1) (omega (arith, count_some n u));
        }
      where
        last : (k : ℕ) → k + 1 ≡ count → take (length u) (held count).buffer ≡ u
        last k h = rw (← h, add-one k) (unit_at k h)

-- cut as the listing cuts, the bytes that are sent are the sections
pub offers_sent : (c : Settings) (llc_snap : Bool) (n : ℕ) (u out : List ℕ) (m : ℕ) → (sent_of c llc_snap n u out).sending ≡ Sent m
    → offers (take m (sent_of c llc_snap n u out).output) ≡ sections c llc_snap n u
unfolding sections
offers_sent c llc_snap n u out m p =
    let g : SentAll c llc_snap n u out m = sent_all c llc_snap n u out m p in
    ap offers (sent_all_bytes c llc_snap n u out m g)
    ∙ offers_sections (sections c llc_snap n u) (λ i h.
    let k : i < section_count n u = omega (arith, sections_length c llc_snap n u (section_count n u)) in
    rw (sections_at c llc_snap n u (section_count n u) i k) (framed c llc_snap n u out g.accepted i k))

pub round_trip : RoundTrip
unfolding sections
round_trip c llc_snap n u out m p =
    let g : SentAll c llc_snap n u out m = sent_all c llc_snap n u out m p in
    let a = g.accepted in
    let bytes : take m (sent_of c llc_snap n u out).output ≡ flatten (sections c llc_snap n u) = sent_all_bytes c llc_snap n u out m g in
    record {
      sections = sections_sent c llc_snap n u a.some _ bytes;
      offered = offers_sent c llc_snap n u out m p ∙ sym (sections_are c llc_snap n u a.some _ bytes);
      arrives = λ b h. rw (sections_are c llc_snap n u a.some _ bytes) (arrives c llc_snap n u out a b (room_enough b (length u) a.unit h));
    }
