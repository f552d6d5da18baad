-- An offer that is whole at hand is the next offer of the recording, so its line is the next that is owed.
use Rattle.std.proofs.Common.{◌≡◌, ℕ, Result, Ok, IsOkUnless, ◌+◌, ◌-◌, ◌%◌, ◌^◌, ◌<◌, ◌≤◌, Bool, true, false, not, ltb, List, [], ◌∷◌, ◌++◌, length, take, drop, replicate, sym, refl, ap, ◌∙◌, inl, inr, true≢false, append_assoc, append-nil, arith, length-append, length-drop, length-take, length-take-le, take_all, drop-drop, take_at, take-add, take-take, drop_at, ltb-false, le-leb, leb-true}
use lib.Seq.{take-append-add}
use Rattle.wire.specs.Choice.{pick, both, either}
use Rattle.wire.proofs.Choice.{either_false}
use Rattle.rules.specs.Section.{section_length}
use Rattle.rules.specs.declared.Settings.{Settings}
use Rattle.rules.specs.declared.State.TheVariants.{Idle}
use Rattle.rules.specs.Recording.{listing_settings, offer_length, offers_within, offers}
use Rattle.rules.specs.Step.{Outcome}
use Rattle.rules.proofs.Offer.{offer_long, offer_within, offer_some, offers_more, section_length_front}
use Rattle.stream.specs.declared.Failure.{Failure}
use Rattle.stream.specs.declared.Failure.TheVariants.{Writing}
use Rattle.listing.specs.declared.Window.{Window}
use Rattle.listing.specs.declared.Walk.{Walk}
use Rattle.listing.specs.Text.{line}
use Rattle.listing.specs.Lines.{lines_of, listing}
use Rattle.listing.specs.Walk.{has_ended, at_hand, Left, whole, ready, Same, Stays, Kept, offered, outcome_of, Served, full, due, Gave, written, owed, Offered, Unread, Waits, Turned}

-- ---- an offer within the bytes at hand
hand_length : (w : Window) → length (at_hand w) ≡ w.end - w.start
hand_length w = length-take-le (w.end - w.start) (drop w.start w.bytes) (omega (arith, w.within, length-drop w.start w.bytes))

pub stop_within : (w : Window) → w.start + offer_length (at_hand w) ≤ w.end
stop_within w = omega (arith, w.order, hand_length w, offer_within (at_hand w))

-- an offer of the bytes at hand
pub offer_front : (w : Window) → take (offer_length (at_hand w)) (at_hand w) ≡ offered w
offer_front w = take-take (offer_length (at_hand w)) (w.end - w.start) (drop w.start w.bytes) (omega (arith, stop_within w))

-- ---- the recording's next offer
-- the bytes at hand are the first n of them and those after these
hand_split : (b : List ℕ) (s e n : ℕ) → s + n ≤ e
    → take n (drop s b) ++ take (e - (s + n)) (drop (s + n) b) ≡ take (e - s) (drop s b)
hand_split b s e n h =
    let m : n + (e - (s + n)) ≡ e - s = omega arith in
    ap (λ (l : List ℕ). take n (drop s b) ++ take (e - (s + n)) l) (sym (drop-drop n s b))
    ∙ sym (take-add n (e - (s + n)) (drop s b))
    ∙ ap (λ (k : ℕ). take k (drop s b)) m

front_before : (b rest : List ℕ) (s e n : ℕ) → s + n ≤ e → length (take n (drop s b)) ≡ n
    → take (e - (s + n)) rest ≡ take (e - (s + n)) (drop (s + n) b)
    → take (e - s) (take n (drop s b) ++ rest) ≡ take (e - s) (drop s b)
front_before b rest s e n h l f =
    let p : List ℕ = take n (drop s b) in
    let m : e - s ≡ length p + (e - (s + n)) = omega arith in
    ap (λ (k : ℕ). take k (p ++ rest)) m
    ∙ take-append-add p rest (e - (s + n))
    ∙ ap (λ (t : List ℕ). p ++ t) f
    ∙ hand_split b s e n h

-- an offer that is whole in the first n bytes is the offer of all of them
whole_offer : (n : ℕ) (r : List ℕ) → whole (take n r) ≡ true → offer_length r ≡ offer_length (take n r)
unfolding whole
whole_offer n r h =
    let p : List ℕ = take n r in
    let long = leb-true _ (length p) h in
    let l = length-take n r in
    let s : section_length p ≡ section_length r = section_length_front n r (omega (arith, long)) in
    omega (arith, long, offer_long r (omega (arith, long)), offer_long p (omega (arith, long)))

-- where an offer may be cut, that of the bytes at hand is the recording's
pub same_offer : (w : Window) (rest : List ℕ) → ready w ≡ true → Left w rest → offer_length rest ≡ offer_length (at_hand w)
unfolding ready either
same_offer w rest h l = go (has_ended w.rest) refl h ∙ ap offer_length l.front
  where
    n : ℕ
    n = w.end - w.start

    go : (t : Bool) → has_ended w.rest ≡ t → either t (whole (at_hand w)) ≡ true → offer_length rest ≡ offer_length (take n rest)
    go true e q = ap offer_length (sym (take_all n rest (l.all e)))
    go false e q = whole_offer n rest (ap whole l.front ∙ q)

-- 4,098 bytes hold a whole offer: section_length has 12 bits
pub longest : (s : List ℕ) → 4098 ≤ length s → whole s ≡ true
unfolding whole section_length
longest s h = le-leb (3 + section_length s) (length s) (omega arith)

-- ---- what a turn owes
abbrev Quiet : Walk → Type 0
Quiet w = due w (ready w.input) ≡ false

-- no write is due, so nothing is written
nothing : (w : Walk) → Quiet w → written w ≡ []
unfolding written pick
nothing w h = rw h

-- no write is due and no offer may be cut: nothing is to be written
waits : (w : Walk) → Quiet w → ready w.input ≡ false → Waits w
unfolding due both
waits w h n =
    let e : both (not false) (ltb 0 (length w.output.bytes)) ≡ false = rw n at (either_false _ _ h).1 in
    record { unready = n; empty = omega (arith, ltb-false 0 (length w.output.bytes) e) }

-- r is w with other bytes at hand
pub turned_kept : {r : Walk} (c : Settings) (w : Walk) → Quiet w → ready w.input ≡ false → Kept w.input r.input
    → r.output ≡ w.output → r.unit ≡ w.unit → r.offset ≡ w.offset → r.state ≡ w.state → Turned c w (Ok tt) r
unfolding owed
turned_kept {r = r} c w h n k o u z s =
    record {
      took = [];
      left = k.left;
      same = λ rest l. rw (nothing w h, o, z, s, u);
      failed = λ q. refl;
      told = tt;
      reads = inr (waits w h n);
      unreadable = k.unreadable;
    }

left_same : {r : Window} (w : Window) (rest : List ℕ) → Same w r → Left r rest → Left w rest
left_same w rest s l =
    record { front = rw (s.start, s.end, s.bytes) at l.front; all = λ t. rw (s.start, s.end) at (l.all (rw s.rest t)) }

pub left_stays : {r : Walk} (w : Walk) (rest : List ℕ) → Stays w r → Left r.input rest → Left w.input rest
left_stays w rest s l = left_same w.input rest s.input l

pub same_offered : {r : Window} (w : Window) → Same w r → Offered w → Offered r
same_offered w s a = (rw s.rest a.0, s.start ∙ a.1 ∙ sym s.end)

unread : {r : Window} (w : Window) → Same w r → Unread w r
unread w s = record { bytes = s.bytes; end = s.end; rest = s.rest }

-- what a write is given was owed first
pub gave_owed : {text : List ℕ} {r : Walk} (c : Settings) (w : Walk) (rest : List ℕ) → Gave w text r
    → owed c w rest ≡ text ++ owed c r rest
unfolding owed
gave_owed c w rest g = rw (g.given, g.out, g.stays.offset, g.stays.state, g.stays.unit)

pub turned_flush : {q : Result Unit Failure} {r : Walk} (c : Settings) (w : Walk) → due w (ready w.input) ≡ true
    → Gave w w.output.bytes r → IsOkUnless q Writing → Turned c w q r
unfolding written pick
turned_flush {r = r} c w h g t =
    record {
      took = [];
      left = λ rest l. left_stays w rest g.stays l;
      same = λ rest l. rw h (gave_owed c w rest g);
      failed = λ z. absurd (true≢false (sym h ∙ z));
      told = t;
      reads = inl (unread w.input g.stays.input);
      unreadable = λ z. rw g.stays.input.rest z;
    }

-- an offer may be cut with nothing at hand: the input has ended
pub ended : (w : Window) → ready w ≡ true → w.start ≡ w.end → has_ended w.rest ≡ true
unfolding ready either whole
ended w h e = go (has_ended w.rest) h
  where
    go : (t : Bool) → either t (whole (at_hand w)) ≡ true → t ≡ true
    go true q = refl
    go false q = absurd (omega (arith, e, hand_length w, leb-true (3 + section_length (at_hand w)) (length (at_hand w)) q))

module _
    {r : Walk} (c : Settings) (w : Walk) (s : Served c w r) where
  abbrev n : ℕ
  n = offer_length (at_hand w.input)

  abbrev p : List ℕ
  p = offered w.input

  stop : w.input.start + n ≤ w.input.end
  stop = stop_within w.input

  long : length p ≡ n
  long = length-take-le n (drop w.input.start w.input.bytes) (omega (arith, length-drop w.input.start w.input.bytes, stop, w.input.within))

  -- the offer and what is left after it were left before
  before : (rest : List ℕ) → Left r.input rest → Left w.input (p ++ rest)
  before rest l =
      record {
        front = front_before w.input.bytes rest w.input.start w.input.end n stop long (rw (s.start, s.end, s.bytes) at l.front);
        all = λ t. omega (arith, rw (s.start, s.end) at (l.all (rw s.rest t)), length-append p rest, long, stop);
      }

  some : (w.input.start ≡ w.input.end → ⊥) → 0 < n
  some apart = offer_some (at_hand w.input) (omega (arith, apart, w.input.order, hand_length w.input))

  -- the offer is the recording's next
  next : (rest : List ℕ) → Left r.input rest → ready w.input ≡ true → (w.input.start ≡ w.input.end → ⊥) → offers (p ++ rest) ≡ p ∷ offers rest
  next rest l h apart =
      let q : offer_length (p ++ rest) ≡ n = same_offer w.input (p ++ rest) h (before rest l) in
      offers_more (p ++ rest) (omega (arith, length-append p rest, long, some apart))
      ∙ rw (q, take_at p rest n long, drop_at p rest n long)

  line_owed : ready w.input ≡ true → (w.input.start ≡ w.input.end → ⊥) → Quiet w → (rest : List ℕ) → Left r.input rest
      → owed c w (p ++ rest) ≡ written w ++ owed c r rest
  unfolding owed lines_of
  line_owed h apart k rest l =
      let x : Outcome = outcome_of c w in
      let more : List ℕ = lines_of c ((w.offset + length p) % 2 ^ 64) x.step.state x.buffer (offers rest) in
      ap (λ (x : List (List ℕ)). w.output.bytes ++ lines_of c w.offset w.state w.unit x) (next rest l h apart)
      ∙ sym (append_assoc w.output.bytes (line w.offset x.step.answer) more)
      ∙ rw (nothing w k, s.text, s.offset, s.state, s.unit, long)

  pub turned_serve : ready w.input ≡ true → (Offered w.input → ⊥) → Quiet w → Turned c w (Ok tt) r
  turned_serve h more k =
      record {
        took = p;
        left = before;
        same = line_owed h (λ e. more (ended w.input h e, e)) k;
        failed = λ q. refl;
        told = tt;
        reads = inl (record { bytes = s.bytes; end = s.end; rest = s.rest });
        unreadable = λ t. rw s.rest t;
      }

-- no offer may be cut: the input has not ended
pub unended : (w : Window) → ready w ≡ false → has_ended w.rest ≡ false
unfolding ready
unended w h = (either_false _ _ h).0

-- no write is due: a line fits
pub roomy : (w : Walk) (t : Bool) → due w t ≡ false → length w.output.bytes ≤ 65536 → length w.output.bytes + 63 ≤ 65536
unfolding full due
roomy w t h m = omega (arith, ltb-false (65536 - length w.output.bytes) 63 (either_false _ _ h).0)

-- where a turn may wait, only lines of the rest are owed
pub owed_waits : (c : Settings) (w : Walk) (rest : List ℕ) → Waits w → owed c w rest ≡ lines_of c w.offset w.state w.unit (offers rest)
unfolding owed
owed_waits c w rest h = go w.output.bytes h.empty
  where
    go : (o : List ℕ) → length o ≡ 0 → o ++ lines_of c w.offset w.state w.unit (offers rest) ≡ lines_of c w.offset w.state w.unit (offers rest)
    go [] e = refl
    go (x ∷ o) e = absurd (omega (arith, e))

-- ---- the start and the end
pub owed_fresh : (w : Walk) (recording : List ℕ) → w.output.bytes ≡ [] → w.offset ≡ 0 → w.state ≡ Idle → w.unit ≡ replicate 65535 0
    → owed listing_settings w recording ≡ listing recording
unfolding owed listing
owed_fresh w recording e f g u = rw (e, f, g, u)

pub owed_end : {rest : List ℕ} (c : Settings) (w : Walk) → has_ended w.input.rest ≡ true → w.input.start ≡ w.input.end → Left w.input rest
    → owed c w rest ≡ w.output.bytes
unfolding owed lines_of offers offers_within
owed_end {rest = []} c w h e l = append-nil w.output.bytes
owed_end {rest = x ∷ rest} c w h e l = absurd (omega (arith, l.all h))
