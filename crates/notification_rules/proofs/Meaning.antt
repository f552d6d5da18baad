-- Each line tests what its row means, so the first line that applies has the number of the first row that does.
use mathlib.Core.List.{Memᴰ}
use mathlib.Core.Option.{Option, none, some}
use Rattle.std.proofs.lemmas.Bool.{not-true}
use Rattle.std.proofs.Common.{ℕ, ◌+◌, ◌*◌, ◌-◌, ◌/◌, ◌%◌, ◌≤◌, arith, ◌≡◌, refl, sym, ap, ◌∙◌, ◌↔◌, ◌≢◌, inl, inr, Bool, true, false, not, List, [], ◌∷◌, ◌++◌, map, length, bit_xor, eqb, leb, eq-eqb, eqb-true, le-leb, leb-true, Decides}
use Rattle.std.proofs.lemmas.Bool.Decides.{Decides-eqb, Decides-not}
use Rattle.wire.specs.Bytes.{bit, byte_at, Bytes}
use Rattle.wire.specs.Choice.{both, either, first, first_of, Line, pick, without}
use Rattle.wire.specs.Meaning.{◌means◌}
use Rattle.wire.specs.Part.{Part}
use Rattle.wire.proofs.Choice.{both_true, first_of_past, never, not_first}
use Rattle.wire.proofs.Meaning.{gives_last, gives_row, or_else_is, or_else}
use Rattle.rules.specs.declared.Address.{Address}
use Rattle.rules.specs.Address.{address_bytes}
use Rattle.rules.specs.Check.{checksum_form, shared_refusal, shared_lines, form_lines, order_lines, wrong_syntax}
use Rattle.rules.specs.Section.{section_syntax_indicator}
use Rattle.rules.proofs.Check.{shared_numbered}
use Rattle.rules.proofs.Meaning.{gives_refusal, Place15}
use Rattle.notification_rules.specs.Answers.{Finding, Found, Nobody, Refused}
use Rattle.notification_rules.specs.Cut.{Cut, cut_of, every}
use Rattle.notification_rules.specs.Format.{answer_to, Written, body_written, Descriptor, descriptor_written, Loop, loop_written, tag_of}
use Rattle.notification_rules.specs.Loop.{action_type, body_length, content, loop_cut, loops_of, loop_size, Pair, pairs_of, platform_id_hash, tag}
use Rattle.notification_rules.specs.Meaning.{Filled, Finds, HoldsOther, NotificationMeans, OtherLength, Short}
use Rattle.notification_rules.specs.Finding.{chosen, found, known, loop_lines, misfit, finding_number, finding_of, notification_form, other_action, other_length, platform_lines, refusal, searched, wrong_hash}
use Rattle.notification_rules.specs.Target.{answers, first_pair, Location, location_of, nowhere, right_length, somewhere}
use Rattle.notification_rules.proofs.Answered.{written_is_found}
use Rattle.notification_rules.proofs.Parts.{every_one}
use Rattle.notification_rules.proofs.Rewritten.{filled_exactly, taken_is_written}
use Rattle.notification_rules.proofs.Taken.{descriptors_cut, loop_content, loops_in, loops_all, loops_back}

-- ---- 33, of one descriptor
masked_tells : (n : ℕ) → Decides (both (leb 6 n) (eqb (n % 6) 0)) ((k : ℕ) × (n ≡ 6 + 6 * k))
unfolding both
masked_tells n = (
  λ p.
      let w = both_true _ _ p in
      let l : 6 ≤ n = leb-true _ _ w.0 in
      let e : n % 6 ≡ 0 = eqb-true _ _ w.1 in
      (n / 6 - 1, omega arith),
  λ w.
      let l : 6 ≤ n = omega (arith, w.1) in
      let e : n % 6 ≡ 0 = omega (arith, w.1) in
      rw (le-leb _ _ l, e),
)

ranges_tells : (n : ℕ) → Decides (eqb (n % 12) 0) ((k : ℕ) × (n ≡ 12 * k))
ranges_tells n = (
  λ p. let e : n % 12 ≡ 0 = eqb-true _ _ p in (n / 12, omega arith),
  λ w. let e : n % 12 ≡ 0 = omega (arith, w.1) in eq-eqb _ _ e,
)

module _ (t n : ℕ) where
  of_07 : t ≡ 0x07 → OtherLength t n → (k : ℕ) × (n ≡ 6 + 6 * k) → ⊥
  of_07 e (inl w) = w.1
  of_07 e (inr (inl w)) = absurd (omega (arith, w.0))
  of_07 e (inr (inr w)) = absurd (omega (arith, w.0))

  of_0_e : t ≡ 0x0E → OtherLength t n → (k : ℕ) × (n ≡ 12 * k) → ⊥
  of_0_e e (inl w) = absurd (omega (arith, w.0))
  of_0_e e (inr (inl w)) = w.1
  of_0_e e (inr (inr w)) = absurd (omega (arith, w.0))

  of_13 : t ≡ 0x13 → OtherLength t n → n ≢ 9
  of_13 e (inl w) = absurd (omega (arith, w.0))
  of_13 e (inr (inl w)) = absurd (omega (arith, w.0))
  of_13 e (inr (inr w)) = w.1

  of_none : t ≢ 0x07 → t ≢ 0x0E → t ≢ 0x13 → OtherLength t n → ⊥
  of_none a b c (inl w) = a w.0
  of_none a b c (inr (inl w)) = b w.0
  of_none a b c (inr (inr w)) = c w.0

  other_tells : Decides (not (right_length t n)) (OtherLength t n)
  unfolding right_length pick
  other_tells = go (eqb t 0x07) (eqb t 0x0E) (eqb t 0x13) (Decides-eqb t 0x07) (Decides-eqb t 0x0E) (Decides-eqb t 0x13)
    where
      go : (a b c : Bool) → Decides a (t ≡ 0x07) → Decides b (t ≡ 0x0E) → Decides c (t ≡ 0x13)
          → Decides (not (pick a (both (leb 6 n) (eqb (n % 6) 0)) (pick b (eqb (n % 12) 0) (pick c (eqb n 9) true)))) (OtherLength t n)
      go true b c ha hb hc =
          let h = Decides-not _ (masked_tells n) in
          (λ p. inl (ha.0 refl, h.0 p), λ w. h.1 (of_07 (ha.0 refl) w))
      go false true c ha hb hc =
          let h = Decides-not _ (ranges_tells n) in
          (λ p. inr (inl (hb.0 refl, h.0 p)), λ w. h.1 (of_0_e (hb.0 refl) w))
      go false false true ha hb hc =
          let h = Decides-not _ (Decides-eqb n 9) in
          (λ p. inr (inr (hc.0 refl, h.0 p)), λ w. h.1 (of_13 (hc.0 refl) w))
      go false false false ha hb hc =
          (λ p. absurd (never p), λ w. absurd (of_none (λ e. never (ha.1 e)) (λ e. never (hb.1 e)) (λ e. never (hc.1 e)) w))

-- ---- 33, of a section
abbrev right : Descriptor → Bool
right d = right_length (tag_of d) (length (body_written d))

every_map : {A B : Type 0} (f : B → Bool) (g : A → B) (xs : List A) → every f (map g xs) ≡ every (λ x. f (g x)) xs
unfolding every
every_map f g [] = refl
every_map f g (x ∷ xs) = rw (every_map f g xs)

not_every : {A : Type 0} (f : A → Bool) (xs : List A) → every f xs ≡ false → (x : A) × Memᴰ x xs × (f x ≡ false)
unfolding every both
not_every {A} f [] h = absurd (never (sym h))
not_every {A} f (x ∷ xs) h = go (f x) refl h (not_every f xs)
  where
    go : (t : Bool) → f x ≡ t → both t (every f xs) ≡ false → (every f xs ≡ false → (y : A) × Memᴰ y xs × (f y ≡ false))
        → (y : A) × Memᴰ y (x ∷ xs) × (f y ≡ false)
    go true e h ih = let r = ih h in (r.0, Memᴰ.tail r.1, r.2)
    go false e h ih = (x, Memᴰ.head refl, e)

known_is : (l : Loop) → known (content (loop_written l)) ≡ every right l.descriptors
unfolding known
known_is l =
    ap known (loop_content l)
    ∙ ap (λ (c : Cut). every (λ d. right_length (tag d) (body_length d)) c.items) (descriptors_cut l.descriptors)
    ∙ every_map (λ d. right_length (tag d) (body_length d)) descriptor_written l.descriptors

module _ (s : List ℕ) where
  abbrev all : Filled s → List Loop
  all f = loops_in f.platform f.pairs

  other_is : (f : Filled s) → other_length s ≡ not (every (λ l. known (content (loop_written l))) (all f))
  unfolding other_length loop_cut
  other_is f =
      let e : loop_cut s ≡ record { items = map loop_written (all f); left = [] } =
      ap (cut_of loop_size) (sym f.is) ∙ loops_back f.platform f.pairs (loops_all Short f.platform f.pairs f.short f.shorts) in
      ap (λ (c : Cut). not (every (λ l. known (content l)) c.items)) e
      ∙ ap not (every_map (λ l. known (content l)) loop_written (all f))

  holds_tells : Filled s → Decides (other_length s) (HoldsOther s)
  holds_tells f = (
    λ p.
        let l = not_every (λ l. known (content (loop_written l))) (all f) (not-true _ (sym (other_is f) ∙ p)) in
        let d = not_every right l.0.descriptors (sym (known_is l.0) ∙ l.2) in
        record {
          filled = f;
          loop = l.0;
          inside = l.1;
          descriptor = d.0;
          there = d.1;
          other = (other_tells (tag_of d.0) (length (body_written d.0))).0 (ap not d.2);
        },
    λ w. other_is w.filled ∙ go w (every (λ l. known (content (loop_written l))) (all w.filled)) refl,
  )
    where
      go : (w : HoldsOther s) (t : Bool) → every (λ l. known (content (loop_written l))) (all w.filled) ≡ t → not t ≡ true
      go w true e =
          let k = every_one (λ l. known (content (loop_written l))) (all w.filled) w.loop e w.inside in
          let r = every_one right w.loop.descriptors w.descriptor (sym (known_is w.loop) ∙ k) w.there in
          let o = (other_tells (tag_of w.descriptor) (length (body_written w.descriptor))).1 w.other in
          absurd (never (ap not (sym r) ∙ o))
      go w false e = refl

-- ---- 15, 30, 31
either_left : {p : Type 0} (t : Bool) → Decides t p → Decides (either t false) p
unfolding either
either_left true h = h
either_left false h = h

-- private_indicator is not looked at, so that 24 never applies
syntax : (s : List ℕ) → Place15 notification_form s (15 means (bit 7 (byte_at s 1) ≢ 1) ∷ [])
unfolding checksum_form wrong_syntax section_syntax_indicator both first
syntax s = record { gives = λ g. gives_row _ 15 (either_left _ (Decides-not _ (Decides-eqb (bit 7 (byte_at s 1)) 1))) (g refl) }

action : (s : List ℕ) → Decides (other_action s) (byte_at s 3 ≢ 0x01)
unfolding other_action action_type
action s = Decides-not _ (Decides-eqb (byte_at s 3) 0x01)

hash : (s : List ℕ) → Decides (wrong_hash s) (byte_at s 4 ≢ bit_xor (bit_xor (byte_at s 8) (byte_at s 9)) (byte_at s 10))
unfolding wrong_hash platform_id_hash
hash s = Decides-not _ (Decides-eqb (byte_at s 4) (bit_xor (bit_xor (byte_at s 8) (byte_at s 9)) (byte_at s 10)))

-- ---- 3 and 4
unfoldable is_found : Finding → Bool
is_found (Found p) = true
is_found Nobody = false
is_found (Refused n) = false

-- of a finding that is no refusal
found_three : (x : Finding) → is_found x ≡ true → finding_number x ≡ 3
unfolding is_found
found_three (Found p) h = refl
found_three Nobody h = absurd (never h)
found_three (Refused n) h = absurd (never h)

three_found : (x : Finding) → finding_number x ≡ first (is_found x) 3 4 → finding_number x ≡ 3 → is_found x ≡ true
unfolding is_found first
three_found (Found p) e h = refl
three_found Nobody e h = absurd (omega arith)
three_found (Refused n) e h = absurd (omega (arith, sym e ∙ h))

found_number : (l : Location) → finding_number (found l) ≡ first (is_found (found l)) 3 4
unfolding is_found found first
found_number nowhere = refl
found_number (somewhere d) = refl

chosen_number : (platform : Part) (x : Option Pair) → finding_number (chosen platform x) ≡ first (is_found (chosen platform x)) 3 4
unfolding is_found chosen first
chosen_number platform none = refl
chosen_number platform (some x) = found_number (location_of platform x)

searched_number : (device : Address) (ls : List Part) → finding_number (searched device ls) ≡ first (is_found (searched device ls)) 3 4
unfolding is_found searched first
searched_number device [] = refl
searched_number device (platform ∷ loops) = chosen_number platform (first_pair (answers device platform) (pairs_of loops))

number_pick : (t : Bool) (x y : Finding) → finding_number (pick t x y) ≡ pick t (finding_number x) (finding_number y)
unfolding pick
number_pick true x y = refl
number_pick false x y = refl

module _ (device : Address) (s : List ℕ) (b : Bytes s) where
  abbrev lines : List Line
  lines = shared_lines notification_form s ++ (platform_lines s ++ loop_lines s)

  abbrev sought : Finding
  sought = searched device (loops_of s)

  number_finding : finding_number (finding_of device s) ≡ or_else lines (first (is_found sought) 3 4)
  unfolding finding_of refusal without both shared_lines form_lines order_lines platform_lines loop_lines
  number_finding =
      number_pick (eqb (first_of lines) 0) sought (Refused (first_of lines))
      ∙ or_else_is lines (finding_number sought) refl
      ∙ ap (or_else lines) (searched_number device (loops_of s))

  finds_tells : Bytes (address_bytes device) → refusal s ≡ 0 → Decides (is_found sought) (Finds device s)
  unfolding finding_of pick
  finds_tells d r =
      let finding : finding_of device s ≡ sought = rw (eq-eqb (refusal s) 0 r) in
      let number : (w : Written s) → finding_number sought ≡ (answer_to device w.value).number =
      λ w. ap finding_number (sym finding ∙ ap (finding_of device) (sym w.is)) ∙ (written_is_found device w.value d w.conforms).number in (
        λ p. let w = taken_is_written s b r in record { written = w; found = sym (number w) ∙ found_three sought p },
        λ w. three_found sought (searched_number device (loops_of s)) (number w.written ∙ w.found),
      )

  nothing_refused : shared_refusal notification_form s ≡ 0 → other_action s ≡ false → wrong_hash s ≡ false → misfit s ≡ false → other_length s ≡ false
      → refusal s ≡ 0
  unfolding refusal shared_refusal platform_lines loop_lines first_of
  nothing_refused h e30 e31 e32 e33 =
      first_of_past (shared_lines notification_form s) _ (shared_numbered notification_form s) h
      ∙ sym (not_first 30 _ e30 (not_first 31 _ e31 (not_first 32 _ e32 (not_first 33 _ e33 refl))))

  unfilled_tells : Decides (misfit s) (¬ Filled s)
  unfilled_tells = go (misfit s) (filled_exactly s b)
    where
      go : (t : Bool) → (t ≡ false) ↔ Filled s → Decides t (¬ Filled s)
      go true h = (λ _ f. never (sym (h.1 f)), λ _. refl)
      go false h = (λ e. absurd (never e), λ n. absurd (n (h.0 refl)))

pub notification_means : NotificationMeans
unfolding or_else shared_lines form_lines order_lines platform_lines loop_lines
notification_means device s d b n =
    rw (number_finding device s b)
    ((gives_refusal notification_form s _ _ (syntax s) (λ h _.
    gives_row _ 30 (action s) (λ e30.
    gives_row _ 31 (hash s) (λ e31.
    gives_row _ 32 (unfilled_tells device s b) (λ e32.
    gives_row _ 33 (holds_tells s ((filled_exactly s b).0 e32)) (λ e33.
    gives_row _ 3 (finds_tells device s b d (nothing_refused device s b h e30 e31 e32 e33)) (λ _.
    gives_last 4 tt))))))).exactly n)
