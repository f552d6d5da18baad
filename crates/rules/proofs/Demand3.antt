-- Each of the receiver's tests holds exactly where its words do, so the row theorem says demand 3 in these words.
use Rattle.std.proofs.Math.ListN.{get_or-map}
use Rattle.std.proofs.Math.Seq.{get_or-append_seam, split_at}
use Rattle.std.proofs.lemmas.Bool.{false_from_ne_true, false≢true, not-true}
use Rattle.std.proofs.lemmas.List.{length-map}
use Rattle.std.proofs.Common.{ℕ, suc, zero, ◌<◌, arith, ◌≡◌, refl, ap, sym, ◌∙◌, ◌↔◌, ◌⊎◌, inl, inr, Bool, true, false, List, [], ◌∷◌, ◌++◌, map, drop, get_or, length, length-append, take, length-take-le, eqb-true}
use Rattle.wire.specs.Bytes.{Bytes}
use Rattle.wire.specs.Choice.{both, first, first_of, pick}
use Rattle.wire.proofs.Choice.{both_true}
use Rattle.rules.specs.declared.Settings.{Settings}
use Rattle.rules.specs.declared.Key.{Key}
use Rattle.rules.specs.Check.{check}
use Rattle.rules.specs.Section.{address, last_section_number, llc_snap_flag}
use Rattle.rules.specs.Sound.{Limits, table3, Values}
use Rattle.rules.specs.Step.{good_settings, key_of, ours, refuse_first, room, setup_lines, step_of}
use Rattle.rules.specs.Row.{after, datagram, Event, fresh, gap, handed_by, handed_over, Held, nothing, section}
use Rattle.rules.specs.Demand3.{Demand3Holds, Elsewhere, Ends, HandedRight, joined, OfBytes, Once, OnlyOne, InRun, Ready, Receivable, Struck, WholeRun}
use Rattle.rules.specs.Meaning.{Good, Own}
use Rattle.rules.proofs.Compared.{compares_last}
use Rattle.rules.proofs.Exactly.{read_back}
use Rattle.rules.proofs.Good.{good_is}
use Rattle.rules.proofs.Read.{read, read_is, read_limits}
use Rattle.rules.proofs.Written.{carried, clear_back, flagged_back, last_back, number_back, address_back, written_sound}
use Rattle.rules.proofs.Row.{row_theorem}
use Rattle.rules.proofs.Tested.{elsewhere, strike}
use Rattle.rules.proofs.Track.{room_bounds}
use Rattle.rules.proofs.OwnLength.{own_length}
use Rattle.rules.proofs.UnitEnd.{unit_ends}
use Rattle.rules.proofs.Runs as runs
use Rattle.rules.proofs.Tested as tested

-- ---- the tests, in words
own_read : (c : Settings) (s : List ℕ) → (ours c s ≡ true) ↔ Own c (read s).address
unfolding ours read
own_read c s = compares_last c.range c.address (address s)

own_written : (c : Settings) (v : Values) → (ours c (table3 v) ≡ true) ↔ Own c v.address
unfolding ours
own_written c v = rw (address_back v) (compares_last c.range c.address v.address)

unfoldable EventBytes : Event → Type 0
EventBytes (section s) = Bytes s
EventBytes gap = Unit

same_section : {s t : List ℕ} → section s ≡ section t → s ≡ t
same_section p = cc

tells : (c : Settings) (e : Event) → EventBytes e → (elsewhere c e ≡ true) ↔ Elsewhere c e
unfolding EventBytes elsewhere both
tells c (section s) b = (
  λ p.
      let parts = both_true _ _ p in
      let sound : check s ≡ 0 = eqb-true _ _ parts.0 in
      record {
        values = read s;
        limits = read_limits s b sound;
        is = ap section (sym (read_is s b sound));
        other = λ o. false≢true (sym (not-true (ours c s) parts.1) ∙ (own_read c s).1 o);
      },
  λ w.
      let foreign : ours c (table3 w.values) ≡ false = false_from_ne_true _ (λ p. w.other ((own_written c w.values).0 p)) in
      rw (same_section w.is, written_sound w.values w.limits, foreign),
)
tells c gap b = (λ p. absurd (false≢true p), λ w. let z = w.is in cc)

-- ---- the struck row, in words
of_front : (e : Event) (r : List Event) → OfBytes (e ∷ r) → EventBytes e × OfBytes r
unfolding OfBytes EventBytes
of_front (section s) r b = (b.0, b.1)
of_front gap r b = (tt, b)

struck_more : (c : Settings) (e : Event) (r t : List Event) → EventBytes e → Struck c r t → Struck c (e ∷ r) (pick (elsewhere c e) t (e ∷ t))
unfolding Struck pick
struck_more c e r t b h = go (elsewhere c e) refl
  where
    go : (x : Bool) → elsewhere c e ≡ x
        → (Elsewhere c e × Struck c r (pick x t (e ∷ t))) ⊎ ((¬ Elsewhere c e) × ((u : List Event) × (pick x t (e ∷ t) ≡ e ∷ u) × Struck c r u))
    go true p = inl ((tells c e b).0 p, h)
    go false p = inr (λ w. false≢true (sym p ∙ (tells c e b).1 w), (t, refl, h))

strike_is : (c : Settings) (r : List Event) → OfBytes r → Struck c r (strike c r)
unfolding Struck strike
strike_is c [] b = refl
strike_is c (e ∷ r) b = let parts = of_front e r b in struck_more c e r (strike c r) parts.0 (strike_is c r parts.1)

-- an event is struck or stays, never both, so a row is struck in one way
struck_one : (c : Settings) (r t u : List Event) → Struck c r t → Struck c r u → t ≡ u
unfolding Struck
struck_one c [] t u h k = h ∙ sym k
struck_one c (e ∷ r) t u (inl h) (inl k) = struck_one c r t u h.1 k.1
struck_one c (e ∷ r) t u (inl h) (inr k) = absurd (k.0 h.0)
struck_one c (e ∷ r) t u (inr h) (inl k) = absurd (h.0 k.0)
struck_one c (e ∷ r) t u (inr h) (inr k) =
    h.1.1 ∙ ap (λ (l : List Event). e ∷ l) (struck_one c r h.1.0 k.1.0 h.1.2 k.1.2) ∙ sym k.1.1

-- a longer row, struck, begins with the shorter one, struck
struck_split : (c : Settings) (r q t u : List Event) → Struck c r t → Struck c (r ++ q) u → (v : List Event) × (u ≡ t ++ v) × Struck c q v
unfolding Struck
struck_split c [] q t u h k = (u, rw h, k)
struck_split c (e ∷ r) q t u (inl h) (inl k) = struck_split c r q t u h.1 k.1
struck_split c (e ∷ r) q t u (inl h) (inr k) = absurd (k.0 h.0)
struck_split c (e ∷ r) q t u (inr h) (inl k) = absurd (h.0 k.0)
struck_split c (e ∷ r) q t u (inr h) (inr k) =
    let w = struck_split c r q h.1.0 k.1.0 h.1.2 k.1.2 in
    (w.0, k.1.1 ∙ ap (λ (l : List Event). e ∷ l) w.1 ∙ ap (λ (l : List Event). l ++ w.0) (sym h.1.1), w.2)

struck_some : (c : Settings) (q t : List Event) (e : Event) → ¬ Elsewhere c e → Struck c (q ++ (e ∷ [])) t → 0 < length t
unfolding Struck
struck_some c [] t e n (inl h) = absurd (n h.0)
struck_some c [] t e n (inr h) = omega (arith, ap length h.1.1)
struck_some c (x ∷ q) t e n (inl h) = struck_some c q t e n h.1
struck_some c (x ∷ q) t e n (inr h) = omega (arith, ap length h.1.1)

-- ---- one section of a run
member_read : (c : Settings) (κ : Key) (i : ℕ) (s : List ℕ) → Bytes s → tested.InRun c κ i s
    → InRun c κ.address κ.last κ.llc_snap i (read s)
unfolding read key_of
member_read c κ i s b p =
    record {
      receivable =
          record {
            limits = read_limits s b p.receivable.sound;
            own = (own_read c s).0 p.receivable.address;
            clear = p.receivable.clear;
            within = p.receivable.within;
          };
      numbered = p.numbered;
      addressed = ap (λ (k : Key). k.address) p.agrees;
      ending = ap (λ (k : Key). k.last) p.agrees;
      flagged = ap (λ (k : Key). k.llc_snap) p.agrees;
    }

member_written : (c : Settings) (κ : Key) (i : ℕ) (v : Values) → InRun c κ.address κ.last κ.llc_snap i v
    → tested.InRun c κ i (table3 v)
unfolding key_of
member_written c κ i v p =
    let k : Receivable c v = p.receivable in
    let full : address (table3 v) ≡ κ.address = address_back v ∙ p.addressed in
    let last : last_section_number (table3 v) ≡ κ.last = last_back v ∙ p.ending in
    let llc_snap : llc_snap_flag (table3 v) ≡ κ.llc_snap = flagged_back v k.limits ∙ p.flagged in
    record {
      receivable =
          record {
            sound = written_sound v k.limits;
            address = (own_written c v).1 k.own;
            clear = clear_back v k.limits ∙ k.clear;
            within = omega (arith, last_back v, k.within);
          };
      numbered = number_back v ∙ p.numbered;
      agrees = λ i. record { address = full i; last = last i; llc_snap = llc_snap i };
    }

-- ---- lists of them
joined_read : (xs : List (List ℕ)) → joined (map read xs) ≡ tested.joined xs
unfolding joined tested.joined read
joined_read [] = refl
joined_read (s ∷ xs) = rw (joined_read xs)

joined_written : (vs : List Values) → tested.joined (map table3 vs) ≡ joined vs
unfolding joined tested.joined
joined_written [] = refl
joined_written (v ∷ vs) = rw (carried v, joined_written vs)

at_written : (vs : List Values) (i : ℕ) → i < length vs → get_or (map table3 vs) i [] ≡ table3 (get_or vs i (read []))
at_written [] i h = absurd (omega arith)
at_written (v ∷ vs) zero h = refl
at_written (v ∷ vs) (suc i) h = at_written vs i (omega arith)

abbrev written : Values → Event
written v = section (table3 v)

rows_written : (vs : List Values) → map section (map table3 vs) ≡ map written vs
rows_written [] = refl
rows_written (v ∷ vs) = rw (rows_written vs)

rows_read : (xs : List (List ℕ)) → ((i : ℕ) → i < length xs → table3 (read (get_or xs i [])) ≡ get_or xs i [])
    → map written (map read xs) ≡ map section xs
rows_read [] h = refl
rows_read (s ∷ xs) h = rw (h 0 (omega arith), rows_read xs (λ i l. h (suc i) (omega arith)))

read_written : (vs : List Values) → ((front back : List Values) (v : Values) → vs ≡ front ++ (v ∷ back) → Limits v)
    → map read (map table3 vs) ≡ vs
read_written [] h = refl
read_written (v ∷ vs) h =
    rw (read_back v (h [] vs v refl), read_written vs (λ front back w p. h (v ∷ front) back w (ap (λ (l : List Values). v ∷ l) p)))

-- ---- rows of bytes
of_after : (r q : List Event) → OfBytes (r ++ q) → OfBytes q
unfolding OfBytes
of_after [] q b = b
of_after (section s ∷ r) q b = of_after r q b.1
of_after (gap ∷ r) q b = of_after r q b

of_last : (r : List Event) (e : Event) → OfBytes (r ++ (e ∷ [])) → EventBytes e
unfolding OfBytes EventBytes
of_last r (section s) b = (of_after r (section s ∷ []) b).0
of_last r gap b = tt

of_pick : (t : Bool) (r q : List Event) → OfBytes r → OfBytes q → OfBytes (pick t r q)
unfolding pick
of_pick true r q b d = b
of_pick false r q b d = d

of_strike : (c : Settings) (r : List Event) → OfBytes r → OfBytes (strike c r)
unfolding OfBytes strike
of_strike c [] b = b
of_strike c (section s ∷ r) b =
    let d : OfBytes (strike c r) = of_strike c r b.1 in of_pick (elsewhere c (section s)) _ (section s ∷ strike c r) d (b.0, d)
of_strike c (gap ∷ r) b = let d : OfBytes (strike c r) = of_strike c r b in of_pick (elsewhere c gap) _ (gap ∷ strike c r) d d

of_sections : (xs : List (List ℕ)) → OfBytes (map section xs) → (i : ℕ) → i < length xs → Bytes (get_or xs i [])
unfolding OfBytes
of_sections [] b i h = absurd (omega arith)
of_sections (s ∷ xs) b zero h = b.0
of_sections (s ∷ xs) b (suc i) h = of_sections xs b.1 i (omega arith)

module _ (c : Settings) (b : List ℕ) where
  -- ---- whole runs
  run_read : (xs : List (List ℕ)) → Good c → ((i : ℕ) → i < length xs → Bytes (get_or xs i [])) → tested.WholeRun c b xs → WholeRun c b (map read xs)
  run_read xs good bytes u =
      record {
        good = good;
        address = u.key.address;
        last = u.key.last;
        llc_snap = u.key.llc_snap;
        each = each;
        whole = length-map xs read ∙ u.whole;
        unit = rw (joined_read xs) (omega (arith, u.run.fits, (room_bounds b).0));
        room = rw (joined_read xs) (omega (arith, u.run.fits, (room_bounds b).1));
        end = u.end;
        ends = rw (joined_read xs) ((unit_ends u.key.llc_snap (tested.joined xs) u.end).0 u.ends);
      }
    where
      each : (front back : List Values) (v : Values) → map read xs ≡ front ++ (v ∷ back)
          → InRun c u.key.address u.key.last u.key.llc_snap (length front) v
      each front back v p =
          let i : ℕ = length front in
          let h : i < length xs = omega (arith, length-map xs read, ap length p, length-append front (v ∷ back)) in
          let is : read (get_or xs i []) ≡ v =
          sym (get_or-map read xs i []) ∙ ap (λ (l : List Values). get_or l i (read [])) p ∙ get_or-append_seam front v back (read []) in
          rw is at (member_read c u.key i (get_or xs i []) (bytes i h) (u.run.each i h))

  member_at : (vs : List Values) (u : WholeRun c b vs) (i : ℕ) → i < length vs
      → InRun c u.address u.last u.llc_snap i (get_or vs i (read []))
  member_at vs u i h =
      let v : Values = get_or vs i (read []) in
      rw (length-take-le i vs (omega arith)) at (u.each (take i vs) (drop (suc i) vs) v (split_at vs i (read []) h))

  run_written : (vs : List Values) → WholeRun c b vs → tested.WholeRun c b (map table3 vs)
  unfolding room
  run_written vs u =
      let first : InRun c u.address u.last u.llc_snap 0 (get_or vs 0 (read [])) = member_at vs u 0 (omega (arith, u.whole)) in
      record {
        key = key;
        run = record { each = each; fits = rw (joined_written vs) (omega (arith, u.unit, u.room)) };
        whole = length-map vs table3 ∙ u.whole;
        within = omega (arith, length-map vs table3, u.whole, first.ending, first.receivable.within);
        end = u.end;
        ends = rw (joined_written vs) ((unit_ends u.llc_snap (joined vs) u.end).1 u.ends);
      }
    where
      key : Key
      key = record { address = u.address; last = u.last; llc_snap = u.llc_snap }

      each : (i : ℕ) → i < length (map table3 vs) → tested.InRun c key i (get_or (map table3 vs) i [])
      each i l =
          let h : i < length vs = omega (arith, length-map vs table3) in
          rw (at_written vs i h) (member_written c key i (get_or vs i (read [])) (member_at vs u i h))

  ends_read : {row : List Event} {xs : List (List ℕ)} → ((i : ℕ) → i < length xs → table3 (read (get_or xs i [])) ≡ get_or xs i [])
      → tested.Ends row xs → Ends row (map read xs)
  ends_read {row} {xs} h e = record { front = e.front; split = rw (rows_read xs h) e.split }

  ends_written : {row : List Event} {vs : List Values} → Ends row vs → tested.Ends row (map table3 vs)
  ends_written {row} {vs} e = record { front = e.front; split = rw (rows_written vs) e.split }

  ready_is : (row : List Event) (n : ℕ) (d : List ℕ) → Good c → OfBytes row → tested.Ready c b row n d ↔ Ready c b row n d
  unfolding run_read run_written
  ready_is row n d good given = (
    λ w.
        let xs : List (List ℕ) = w.sections in
        let bytes : (i : ℕ) → i < length xs → Bytes (get_or xs i []) =
        of_sections xs (of_after w.there.front (map section xs) (rw w.there.split at given)) in
        record {
          sections = map read xs;
          run = run_read xs good bytes w.run;
          there = ends_read (λ i h. read_is (get_or xs i []) (bytes i h) (w.run.run.each i h).receivable.sound) w.there;
          bytes = w.bytes ∙ ap (take w.run.end) (sym (joined_read xs));
          size = w.size;
        },
    λ w.
        record {
          sections = map table3 w.sections;
          run = run_written w.sections w.run;
          there = ends_written w.there;
          bytes = w.bytes ∙ ap (take w.run.end) (sym (joined_written w.sections));
          size = w.size;
        },
  )

  -- ---- under bad settings nothing is handed over
  bad_hands : good_settings c ≡ false → (h : Held) (e : Event) → handed_over c h e ≡ nothing
  unfolding handed_over handed_by setup_lines step_of refuse_first first_of first pick
  bad_hands bad h (section s) = rw bad
  bad_hands bad h gap = refl

  kept : (e : Event) → EventBytes e → ¬ Elsewhere c e → elsewhere c e ≡ false
  kept e g h = false_from_ne_true (elsewhere c e) (λ p. h ((tells c e g).0 p))

  -- ---- the demand
  module _ (r : List Event) (e : Event) (given : OfBytes (r ++ (e ∷ []))) where
    abbrev row : List Event
    row = strike c (r ++ (e ∷ []))

    struck : (t : Bool) → good_settings c ≡ t → Elsewhere c e → handed_over c (after c (fresh b) r) e ≡ nothing
    struck true good w = (row_theorem c b good r e).struck ((tells c e (of_last r e given)).1 w)
    struck false bad w = bad_hands bad _ e

    exactly : (t : Bool) → good_settings c ≡ t → ¬ Elsewhere c e → (n : ℕ) (d : List ℕ)
        → (handed_over c (after c (fresh b) r) e ≡ datagram n d) ↔ Ready c b row n d
    exactly true good h n d =
        let hands = (row_theorem c b good r e).exactly (kept e (of_last r e given) h) n d in
        let words = ready_is row n d ((good_is c).0 good) (of_strike c (r ++ (e ∷ [])) given) in
        (λ p. words.0 (hands.0 p), λ w. hands.1 (words.1 w))
    exactly false bad h n d =
        (λ p. let z = sym (bad_hands bad _ e) ∙ p in cc, λ w. absurd (false≢true (sym bad ∙ (good_is c).1 w.run.good)))

    handed_right : HandedRight c b r e (handed_over c (after c (fresh b) r) e)
    handed_right =
        record {
          struck = struck (good_settings c) refl;
          exactly = λ h t s n u.
              rw (struck_one c (r ++ (e ∷ [])) t row s (strike_is c (r ++ (e ∷ [])) given)) (exactly (good_settings c) refl h n u);
        }

  only_one : OnlyOne c b
  only_one row xs ys u v x y =
      let same = runs.only c b (runs.whole_ends c b (run_written xs u) (ends_written x)) (runs.whole_ends c b (run_written ys v) (ends_written y))
      (omega (arith, u.whole, length-map xs table3)) (omega (arith, v.whole, length-map ys table3)) in
      sym (read_written xs (λ front back w p. (u.each front back w p).receivable.limits)) ∙ ap (map read) same.sections
      ∙ read_written ys (λ front back w p. (v.each front back w p).receivable.limits)

  at_once : Once c b
  unfolding ends_written
  at_once r q e h t w s s' xs ys u v x y =
      let split = struck_split c r (q ++ (e ∷ [])) t w s s' in
      runs.apart c b t split.0 (run_written xs u) (run_written ys v) (ends_written x)
      (record { front = y.front; split = sym split.1 ∙ (ends_written y).split }) (struck_some c q split.0 e h split.2)

pub demand_3 : Demand3Holds
demand_3 c b =
    record {
      each = handed_right c b;
      strikes = λ r given. (strike c r, strike_is c r given);
      only = only_one c b;
      once = at_once c b;
      own = λ h s. own_length c h s;
    }
