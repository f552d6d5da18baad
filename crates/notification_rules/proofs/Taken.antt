-- What table 13 writes is cut back into what was written, and no line applies to it.
use Prim.Native.Nat.{ℕ, ◌+◌, ◌*◌, ◌-◌, ◌/◌, ◌%◌, ◌^◌, ◌≤◌}
use native.Mathlib.Omega.{arith}
use mathlib.Core.Path.{◌≡◌, refl, sym, ap, ◌∙◌}
use mathlib.Core.Logic.{◌⊎◌, inl, inr}
use mathlib.Core.Bool.{Bool, true, false, not}
use mathlib.Core.List.Memᴰ
use mathlib.Core.List.{List, [], ◌∷◌, ◌++◌, append_assoc, flatten, map, Memᴰ}
use lib.ListN.{length, length-append}
use lib.Seq.{take_at, drop_at}
use lib.Dec.{eqb}
use borrow.Author.Tests.{eq-eqb, ne_eqb, le-leb, le-ltb}
use Rattle.wire.specs.Bytes.{byte_at, bytes_of, bit, bits, number_at}
use Rattle.wire.specs.Choice.{pick, both, first_of}
use Rattle.wire.proofs.Bytes.{length_bytes_of, number_at_bytes_of}
use Rattle.wire.proofs.Choice.{yes_both, not_either, not_first}
use Rattle.rules.specs.Crc.{crc32}
use Rattle.rules.specs.Section.{sealed, table_id, section_syntax_indicator, section_length, current_next_indicator, section_number, last_section_number}
use Rattle.rules.specs.Check.{too_short, other_table, wrong_length, checksum_form, wrong_syntax, wrong_crc, not_current, out_of_order, form_lines, order_lines, shared_lines}
use Rattle.rules.proofs.Written.{sealed_length, sealed_right}
use Rattle.notification_rules.specs.Cut.{Cut, cut_of, every, odd}
use Rattle.notification_rules.specs.Loop.{action_type, platform_id_hash, content, tag, body_length, descriptor_size, loop_size, loop_cut, filled}
use Rattle.notification_rules.specs.Target.{mac_address, mac_address_range, stream_location, right_length}
use Rattle.notification_rules.specs.Finding.{notification_form, other_action, wrong_hash, fits, misfit, known, other_length, platform_lines, loop_lines, refusal}
use Rattle.notification_rules.specs.Format.{Descriptor, masked, ranges, location, other, Loop, Notification, tag_of, range_written, body_written, descriptor_written, content_written, loop_written, pair_written, loops_written, head_written, notification_written, Held, Fits, FitsLoop, Conforms}
use Rattle.notification_rules.specs.Meaning.{by_turns, Short}
use Rattle.notification_rules.proofs.Items.{descriptor_two, loop_two}
use Rattle.notification_rules.proofs.Written.{cut_back}

-- ---- lengths
pub sixes : (xs : List ℕ) → length (flatten (map (bytes_of 6) xs)) ≡ 6 * length xs
unfolding flatten
sixes [] = refl
sixes (x ∷ xs) = omega (arith, length-append (bytes_of 6 x) (flatten (map (bytes_of 6) xs)), length_bytes_of 6 x, sixes xs)

pub range_length : (r : ℕ × ℕ) → length (range_written r) ≡ 12
range_length r = omega (arith, length-append (bytes_of 6 r.0) (bytes_of 6 r.1), length_bytes_of 6 r.0, length_bytes_of 6 r.1)

pub twelves : (rs : List (ℕ × ℕ)) → length (flatten (map range_written rs)) ≡ 12 * length rs
unfolding flatten
twelves [] = refl
twelves (r ∷ rs) = omega (arith, length-append (range_written r) (flatten (map range_written rs)), range_length r, twelves rs)

right_length_is : (d : Descriptor) → Held d → right_length (tag_of d) (length (body_written d)) ≡ true
unfolding right_length pick body_written bytes_of
right_length_is (masked mask xs) h =
    let b : List ℕ = bytes_of 6 mask ++ flatten (map (bytes_of 6) xs) in
    let n : length b ≡ 6 + 6 * length xs =
    omega (arith, length-append (bytes_of 6 mask) (flatten (map (bytes_of 6) xs)), length_bytes_of 6 mask, sixes xs) in
    let some : 6 ≤ length b = omega arith in
    let even : length b % 6 ≡ 0 = omega arith in
    sym (yes_both _ (le-leb 6 _ some) (sym (eq-eqb _ 0 even)))
right_length_is (ranges rs) h =
    let even : length (flatten (map range_written rs)) % 12 ≡ 0 = omega (arith, twelves rs) in
    eq-eqb _ 0 even
right_length_is (location l) h = refl
right_length_is (other t b) h =
    rw (ne_eqb t mac_address h.1.0, ne_eqb t mac_address_range h.1.1, ne_eqb t stream_location h.1.2)

-- ---- one loop
pub loop_long : (l : Loop) → length (loop_written l) ≡ 2 + length (content_written l.descriptors)
loop_long l =
    let x : ℕ = 2 ^ 12 * l.reserved4 + length (content_written l.descriptors) in
    length-append (bytes_of 2 x) (content_written l.descriptors) ∙ rw (length_bytes_of 2 x)

pub loop_content : (l : Loop) → content (loop_written l) ≡ content_written l.descriptors
loop_content l =
    let x : ℕ = 2 ^ 12 * l.reserved4 + length (content_written l.descriptors) in
    drop_at (bytes_of 2 x) (content_written l.descriptors) 2 (length_bytes_of 2 x)

loop_says : (l : Loop) → Short l → (s : List ℕ) → loop_size (loop_written l ++ s) ≡ length (loop_written l)
unfolding loop_size
loop_says l h s =
    let b : List ℕ = content_written l.descriptors in
    let x : ℕ = 2 ^ 12 * l.reserved4 + length b in
    let e : number_at 2 (loop_written l ++ s) 0 ≡ x % 256 ^ 2 =
    ap (λ (l : List ℕ). number_at 2 l 0) (append_assoc (bytes_of 2 x) b s)
    ∙ number_at_bytes_of 2 x [] (b ++ s) in
    rw (e, loop_long l) (omega arith)

pub descriptors_cut : (ds : List Descriptor) → cut_of descriptor_size (content_written ds) ≡ record { items = map descriptor_written ds; left = [] }
unfolding descriptor_size
descriptors_cut ds =
    cut_back descriptor_size (λ s. omega (arith, descriptor_two s)) descriptor_written (λ d. Unit {0})
    (λ d h s. omega arith) ds λ d m. tt

every_right : (ds : List Descriptor) → ((d : Descriptor) → Memᴰ d ds → Fits d)
    → every (λ d. right_length (tag d) (body_length d)) (map descriptor_written ds) ≡ true
unfolding every both
every_right [] r = refl
every_right (d ∷ ds) r =
    rw (right_length_is d (r d (Memᴰ.head refl)).held) (every_right ds (λ e m. r e (Memᴰ.tail m)))

loop_known : (l : Loop) → FitsLoop l → known (content (loop_written l)) ≡ true
unfolding known
loop_known l f =
    ap known (loop_content l)
    ∙ ap (λ (c : Cut). every (λ d. right_length (tag d) (body_length d)) c.items) (descriptors_cut l.descriptors)
    ∙ every_right l.descriptors f.descriptors

loop_filled : (l : Loop) → filled (content (loop_written l)) ≡ true
unfolding filled
loop_filled l = rw (loop_content l, descriptors_cut l.descriptors)

-- ---- the loops
abbrev pub loops_in : Loop → List (Loop × Loop) → List Loop
loops_in platform pairs = platform ∷ by_turns pairs

turns_written : (ps : List (Loop × Loop)) → flatten (map pair_written ps) ≡ flatten (map loop_written (by_turns ps))
unfolding flatten by_turns
turns_written [] = refl
turns_written (p ∷ ps) =
    append_assoc (loop_written p.0) (loop_written p.1) (flatten (map pair_written ps))
    ∙ ap (λ (s : List ℕ). loop_written p.0 ++ (loop_written p.1 ++ s)) (turns_written ps)

pub loops_in_is : (platform : Loop) (pairs : List (Loop × Loop)) → loops_written platform pairs ≡ flatten (map loop_written (loops_in platform pairs))
unfolding flatten
loops_in_is platform pairs = ap (λ (s : List ℕ). loop_written platform ++ s) (turns_written pairs)

pub turns_odd : (l : Loop) (ps : List (Loop × Loop)) → odd (map loop_written (l ∷ by_turns ps)) ≡ true
unfolding odd by_turns
turns_odd l [] = refl
turns_odd l (p ∷ ps) = ap (λ (b : Bool). not (not b)) (turns_odd l ps)

-- what holds of each loop of a pair holds of each loop
pub turns_all : (good : Loop → Type 0) (ps : List (Loop × Loop)) → ((p : Loop × Loop) → Memᴰ p ps → good p.0 × good p.1)
    → (l : Loop) → Memᴰ l (by_turns ps) → good l
unfolding by_turns
turns_all good [] h l m = absurd (Memᴰ.not-nil m)
turns_all good (p ∷ ps) h l m = go (turns_all good ps (λ q j. h q (Memᴰ.tail j)) l) (Memᴰ.cases_cons m)
  where
    two : (Memᴰ l (by_turns ps) → good l) → (l ≡ p.1) ⊎ Memᴰ l (by_turns ps) → good l
    two ih (inl e) = rw e (h p (Memᴰ.head refl)).1
    two ih (inr k) = ih k

    go : (Memᴰ l (by_turns ps) → good l) → (l ≡ p.0) ⊎ Memᴰ l (p.1 ∷ by_turns ps) → good l
    go ih (inl e) = rw e (h p (Memᴰ.head refl)).0
    go ih (inr k) = two ih (Memᴰ.cases_cons k)

pub loops_all : (good : Loop → Type 0) (platform : Loop) (pairs : List (Loop × Loop)) → good platform
    → ((p : Loop × Loop) → Memᴰ p pairs → good p.0 × good p.1) → (l : Loop) → Memᴰ l (loops_in platform pairs) → good l
loops_all good platform pairs h hs l m = go (Memᴰ.cases_cons m)
  where
    go : (l ≡ platform) ⊎ Memᴰ l (by_turns pairs) → good l
    go (inl e) = rw e h
    go (inr k) = turns_all good pairs hs l k

-- loops by turns are cut back
pub loops_back : (platform : Loop) (pairs : List (Loop × Loop)) → ((l : Loop) → Memᴰ l (loops_in platform pairs) → Short l)
    → cut_of loop_size (loops_written platform pairs) ≡ record { items = map loop_written (loops_in platform pairs); left = [] }
loops_back platform pairs h =
    ap (cut_of loop_size) (loops_in_is platform pairs)
    ∙ cut_back loop_size (λ s. omega (arith, loop_two s)) loop_written Short loop_says (loops_in platform pairs) h

pub every_filled : (ls : List Loop) → every (λ l. filled (content l)) (map loop_written ls) ≡ true
unfolding every both
every_filled [] = refl
every_filled (l ∷ ls) = rw (loop_filled l) (every_filled ls)

every_known : (ls : List Loop) → ((l : Loop) → Memᴰ l ls → FitsLoop l) → every (λ l. known (content l)) (map loop_written ls) ≡ true
unfolding every both
every_known [] f = refl
every_known (l ∷ ls) f = rw (loop_known l (f l (Memᴰ.head refl))) (every_known ls (λ k m. f k (Memᴰ.tail m)))

loop_short : (ls : List Loop) (l : Loop) → Memᴰ l ls → 2 + length (content_written l.descriptors) ≤ length (flatten (map loop_written ls))
unfolding flatten
loop_short [] l m = absurd (Memᴰ.not-nil m)
loop_short (k ∷ ls) l m = go (Memᴰ.cases_cons m) (loop_short ls l)
  where
    go : (l ≡ k) ⊎ Memᴰ l ls → (Memᴰ l ls → 2 + length (content_written l.descriptors) ≤ length (flatten (map loop_written ls)))
        → 2 + length (content_written l.descriptors) ≤ length (loop_written k ++ flatten (map loop_written ls))
    go (inl e) ih = omega (
      arith,
      ap (λ (x : Loop). length (content_written x.descriptors)) e,
      loop_long k,
      length-append (loop_written k) (flatten (map loop_written ls)),
    )
    go (inr n) ih = omega (arith, ih n, length-append (loop_written k) (flatten (map loop_written ls)))

-- ---- none of the lines applies
module _ (n : Notification) (t : Conforms n) where
  abbrev loops : List ℕ
  loops = loops_written n.platform n.pairs

  abbrev all : List Loop
  all = loops_in n.platform n.pairs

  abbrev head : List ℕ
  head = head_written n (length loops + 13)

  abbrev crc : List ℕ
  crc = bytes_of 4 (crc32 (head ++ loops))

  abbrev s : List ℕ
  s = notification_written n

  twelve : length head ≡ 12
  unfolding head_written
  twelve = refl

  size : length s ≡ length loops + 16
  unfolding notification_written head_written
  size = sealed_length (head ++ loops) ∙ omega arith

  short : (l : Loop) → Memᴰ l all → Short l
  short l m = omega (arith, loop_short all l m, ap length (loops_in_is n.platform n.pairs), size, t.size)

  fit : (l : Loop) → Memᴰ l all → FitsLoop l
  fit = loops_all FitsLoop n.platform n.pairs t.platform t.pairs

  pub loops_cut : loop_cut s ≡ record { items = map loop_written all; left = [] }
  unfolding loop_cut notification_written sealed
  loops_cut =
      let a : length ((head ++ loops) ++ crc) - 4 ≡ length (head ++ loops) =
      omega (arith, length-append (head ++ loops) crc, length_bytes_of 4 (crc32 (head ++ loops))) in
      rw (a, take_at (head ++ loops) crc (length (head ++ loops)) refl, drop_at head loops 12 twelve)
      (loops_back n.platform n.pairs short)

  long : section_length s ≡ length loops + 13
  unfolding section_length number_at notification_written sealed head_written
  long =
      let k : length loops ≤ 4080 = omega (arith, size, t.size) in
      let r = t.reserved3 in
      omega arith

  no12 : too_short notification_form s ≡ false
  unfolding too_short
  no12 =
      let f : 2 ≤ length loops = omega (arith, loop_short all n.platform (Memᴰ.head refl), ap length (loops_in_is n.platform n.pairs)) in
      let l : 18 ≤ length s = omega (arith, size, f) in
      le-ltb _ 18 l

  no13 : other_table notification_form s ≡ false
  unfolding other_table table_id notification_written sealed head_written
  no13 = refl

  no14 : wrong_length s ≡ false
  unfolding wrong_length
  no14 =
      let l : section_length s + 3 ≡ length s = omega (arith, long, size) in
      let m : section_length s ≤ 4093 = omega (arith, l, t.size) in
      sym (not_either _ (le-ltb 4093 _ m) (ap not (sym (eq-eqb _ _ l))))

  no24 : checksum_form notification_form s ≡ false
  unfolding checksum_form both
  no24 = refl

  no15 : wrong_syntax notification_form s ≡ false
  unfolding wrong_syntax section_syntax_indicator notification_written sealed head_written both
  no15 =
      let r = t.reserved3 in
      let b : ℕ = 2 ^ 7 + 2 ^ 4 * n.reserved3 + bits 11 8 (length loops + 13) in
      let e : b / 128 % 2 ≡ 1 = omega arith in
      sym (not_either _ (ap not (eq-eqb _ 1 e)) refl)

  no16 : wrong_crc s ≡ false
  unfolding notification_written
  no16 = sealed_right (head ++ loops)

  no17 : not_current s ≡ false
  unfolding not_current current_next_indicator notification_written sealed head_written
  no17 = let e : bit 0 (2 ^ 6 * n.reserved2 + 2 * n.version_number + 1) ≡ 1 = omega arith in ap (λ (b : ℕ). eqb b 0) e

  no18 : out_of_order s ≡ false
  unfolding out_of_order section_number last_section_number notification_written sealed head_written
  no18 = le-ltb n.last_section_number n.section_number t.number

  no30 : other_action s ≡ false
  unfolding other_action action_type notification_written sealed head_written
  no30 = refl

  no31 : wrong_hash s ≡ false
  unfolding wrong_hash platform_id_hash notification_written sealed head_written
  no31 = ap not (eq-eqb (byte_at s 4) (byte_at s 4) refl)

  no32 : misfit s ≡ false
  unfolding misfit fits both
  no32 = rw (loops_cut, turns_odd n.platform n.pairs, every_filled all)

  no33 : other_length s ≡ false
  unfolding other_length
  no33 = rw (loops_cut, every_known all fit)

pub written_is_taken : (n : Notification) → Conforms n → refusal (notification_written n) ≡ 0
unfolding refusal shared_lines form_lines order_lines platform_lines loop_lines first_of
written_is_taken n t =
    sym (not_first 12 _ (no12 n t) (not_first 13 _ (no13 n t) (not_first 14 _ (no14 n t) (not_first 24 _ (no24 n t)
    (not_first 15 _ (no15 n t) (not_first 16 _ (no16 n t) (not_first 17 _ (no17 n t) (not_first 18 _ (no18 n t)
    (not_first 30 _ (no30 n t) (not_first 31 _ (no31 n t) (not_first 32 _ (no32 n t) (not_first 33 _ (no33 n t) refl))))))))))))
