-- What is taken is what table 13 writes: each descriptor, each loop and the first 12 bytes are read as values, and these write the same bytes.
use Prim.Native.Nat.{ℕ, zero, suc, ◌+◌, ◌*◌, ◌-◌, ◌/◌, ◌%◌, ◌^◌, ◌≤◌, ◌<◌}
use native.Mathlib.Nat.{div-div-eq-div-mul, suc-mul}
use native.Mathlib.Decide.{dec_lt, ℕ_discrete}
use native.Mathlib.Omega.{arith}
use mathlib.Core.Path.{◌≡◌, refl, sym, ap, ap₂, ◌∙◌}
use mathlib.Core.Logic.{◌↔◌, ◌⊎◌, inl, inr}
use mathlib.Core.Bool.{Bool, true, false, not}
use mathlib.Core.List.Memᴰ
use mathlib.Core.List.{List, [], ◌∷◌, ◌++◌, append-nil, flatten, map, Memᴰ}
use lib.ListN.{length, take, drop, length-drop, take-append-drop, get_or-append, get_or-eq_default}
use lib.Seq.{drop-drop, get_or-append-add, length-take-le, take-add, take_all, take-take}
use Rattle.wire.specs.Bytes.{Bytes, byte_at, bytes_of, bits, number_at}
use Rattle.wire.proofs.Bytes.{bytes_of_number_at, number_at_lt}
use Rattle.wire.proofs.Choice.{never}
use borrow.Author.Tests.{eqb-true, leb-true, not-false}
use lib.Bits.{bit_xor}
use Rattle.wire.specs.Choice.{pick, both}
use Rattle.wire.proofs.Bytes.{bytes_from, take_bytes}
use Rattle.wire.proofs.Choice.{both_true, none_first, none_parts}
use Rattle.rules.specs.Section.{crc_offset, current_next_indicator, last_section_number, sealed, section_length, section_number, section_syntax_indicator, table_id}
use Rattle.rules.specs.Check.{shared_refusal, shared_lines}
use Rattle.rules.proofs.Read.{sealed_is}
use Rattle.notification_rules.specs.Cut.{Size, cut_of, is_nil, odd}
use Rattle.notification_rules.specs.Loop.{action_type, body, body_length, content, descriptor_items, descriptor_size, filled, loop_cut, loop_size, platform_id_hash, tag}
use Rattle.notification_rules.specs.Target.{right_length}
use Rattle.notification_rules.specs.Finding.{fits, known, misfit, notification_form, other_action, platform_lines, loop_lines, refusal, wrong_hash}
use Rattle.notification_rules.specs.Format.{Descriptor, masked, ranges, location, other, Loop, Notification, tag_of, range_written, nine_written, body_written, descriptor_written, content_written, loop_written, loops_written, head_written, notification_written, Held, Fits, FitsLoop, Conforms, Written}
use Rattle.notification_rules.specs.Meaning.{by_turns, Filled, Short}
use Rattle.notification_rules.proofs.Parts.{descriptor_long, every_one, loop_long, rejoined}
use Rattle.rules.proofs.Check.{shared_numbered}
use Rattle.rules.proofs.Sound.{Unrefused, unrefused}
use Rattle.notification_rules.proofs.Sound.{platform_numbered, sound}
use Rattle.notification_rules.proofs.Taken.{every_filled, loops_in, loops_all, loops_back, loops_in_is, turns_odd}

-- ---- bytes of a part
bytes_left : (a b : List ℕ) → Bytes (a ++ b) → Bytes a
bytes_left a b h i = go (dec_lt i (length a))
  where
    go : Dec (i < length a) → byte_at a i < 2 ^ 8
    go (yes g) = let e : byte_at (a ++ b) i ≡ byte_at a i = get_or-append a b 0 i g in omega (arith, h i)
    go (no g) =
        let l : length a ≤ i = omega arith in
        let e : byte_at a i ≡ 0 = get_or-eq_default a 0 l in
        omega arith

bytes_right : (a b : List ℕ) → Bytes (a ++ b) → Bytes b
bytes_right a b h i = let e : byte_at (a ++ b) (length a + i) ≡ byte_at b i = get_or-append-add a b i 0 in omega (arith, h (length a + i))

pub bytes_take : (k : ℕ) (s : List ℕ) → Bytes s → Bytes (take k s)
bytes_take k s h = bytes_left (take k s) (drop k s) (rw (take-append-drop k s) h)

pub bytes_drop : (k : ℕ) (s : List ℕ) → Bytes s → Bytes (drop k s)
bytes_drop k s h = bytes_right (take k s) (drop k s) (rw (take-append-drop k s) h)

-- ---- values of n bytes each, back to back
record Read {A : Type 0} (write : A → List ℕ) (good : A → Type 0) (b : List ℕ) : Type 0 where
  value : A
  is : write value ≡ b
  holds : good value

abbrev All : {A : Type 0} → (A → Type 0) → List A → Type 0
All good xs = (x : _) → Memᴰ x xs → good x

all_more : {A : Type 0} (good : A → Type 0) (x : A) (xs : List A) → good x → All good xs → All good (x ∷ xs)
all_more good x xs h r y m = go (Memᴰ.cases_cons m)
  where
    go : (y ≡ x) ⊎ Memᴰ y xs → good y
    go (inl e) = rw e h
    go (inr k) = r y k

module _ {A : Type 0} (write : A → List ℕ) (good : A → Type 0) (n : ℕ)
    (one : (b : List ℕ) → Bytes b → length b ≡ n → Read write good b) where
  read_all : (k : ℕ) (b : List ℕ) → Bytes b → length b ≡ k * n → Read (λ xs. flatten (map write xs)) (All good) b
  unfolding flatten
  read_all zero [] h l = record { value = []; is = refl; holds = λ x m. absurd (Memᴰ.not-nil m) }
  read_all zero (x ∷ b) h l = absurd (omega arith)
  read_all (suc k) b h l =
      let e : suc k * n ≡ k * n + n = suc-mul k n in
      let first = one (take n b) (bytes_take n b h) (length-take-le n b (omega arith)) in
      let rest = read_all k (drop n b) (bytes_drop n b h) (length-drop n b ∙ omega arith) in
      record {
        value = first.value ∷ rest.value;
        is = ap₂ (λ (x y : List ℕ). x ++ y) first.is rest.is ∙ take-append-drop n b;
        holds = all_more good first.value rest.value first.holds rest.holds;
      }

six : (b : List ℕ) → Bytes b → length b ≡ 6 → Read (bytes_of 6) (λ a. a < 2 ^ 48) b
six b h l =
    record {
      value = number_at 6 b 0;
      is = bytes_of_number_at 6 b 0 h (omega arith) ∙ take_all 6 b (omega arith);
      holds = number_at_lt 6 b 0 h;
    }

twelve : (b : List ℕ) → Bytes b → length b ≡ 12 → Read range_written (λ r. (r.0 < 2 ^ 48) × (r.1 < 2 ^ 48)) b
twelve b h l =
    let low = six (take 6 b) (bytes_take 6 b h) (length-take-le 6 b (omega arith)) in
    let high = six (drop 6 b) (bytes_drop 6 b h) (length-drop 6 b ∙ omega arith) in
    record {
      value = (low.value, high.value);
      is = ap₂ (λ (x y : List ℕ). x ++ y) low.is high.is ∙ take-append-drop 6 b;
      holds = (low.holds, high.holds);
    }

-- two stretches side by side
stretch : (b : List ℕ) (i n m : ℕ) → take n (drop i b) ++ take m (drop (i + n) b) ≡ take (n + m) (drop i b)
stretch b i n m = ap (λ (l : List ℕ). take n (drop i b) ++ take m l) (sym (drop-drop n i b)) ∙ sym (take-add n m (drop i b))

nine : (b : List ℕ) → Bytes b → length b ≡ 9 → Read nine_written (λ l. Held (location l)) b
nine b h l =
    let two : (i : ℕ) → i + 2 ≤ 9 → bytes_of 2 (number_at 2 b i) ≡ take 2 (drop i b) = λ i g. bytes_of_number_at 2 b i h (omega arith) in
    record {
      value = record {
        network_id = number_at 2 b 0;
        original_network_id = number_at 2 b 2;
        transport_stream_id = number_at 2 b 4;
        service_id = number_at 2 b 6;
        component_tag = number_at 1 b 8;
      };
      is = rw (two 0 (omega arith), two 2 (omega arith), two 4 (omega arith), two 6 (omega arith), bytes_of_number_at 1 b 8 h (omega arith))
          (rw (stretch b 6 2 1, stretch b 4 2 3, stretch b 2 2 5, stretch b 0 2 7) (take_all 9 b (omega arith)));
      holds = (number_at_lt 2 b 0 h, number_at_lt 2 b 2 h, number_at_lt 2 b 4 h, number_at_lt 2 b 6 h, number_at_lt 1 b 8 h);
    }

-- ---- one descriptor
record Typed (t : ℕ) (b : List ℕ) : Type 0 where
  value : Descriptor
  tag : tag_of value ≡ t
  body : body_written value ≡ b
  held : Held value

typed : (t : ℕ) (b : List ℕ) → t < 2 ^ 8 → Bytes b → right_length t (length b) ≡ true → Typed t b
unfolding body_written right_length pick
typed t b ht hb r = go (ℕ_discrete t 0x07) (ℕ_discrete t 0x0E) (ℕ_discrete t 0x13)
  where
    go : Dec (t ≡ 0x07) → Dec (t ≡ 0x0E) → Dec (t ≡ 0x13) → Typed t b
    go (yes e) y z =
        let u = both_true _ _ (rw e at r) in
        let some : 6 ≤ length b = leb-true _ _ u.0 in
        let even : length b % 6 ≡ 0 = eqb-true _ _ u.1 in
        let mask = six (take 6 b) (bytes_take 6 b hb) (length-take-le 6 b some) in
        let rest = read_all (bytes_of 6) (λ a. a < 2 ^ 48) 6 six (length b / 6 - 1) (drop 6 b) (bytes_drop 6 b hb) (length-drop 6 b ∙ omega arith) in
        record {
          value = masked mask.value rest.value;
          tag = sym e;
          body = ap₂ (λ (x y : List ℕ). x ++ y) mask.is rest.is ∙ take-append-drop 6 b;
          held = (mask.holds, rest.holds);
        }
    go (no x) (yes e) z =
        let even : length b % 12 ≡ 0 = eqb-true _ _ (rw e at r) in
        let all = read_all range_written (λ r. (r.0 < 2 ^ 48) × (r.1 < 2 ^ 48)) 12 twelve (length b / 12) b hb (omega arith) in
        record { value = ranges all.value; tag = sym e; body = all.is; held = all.holds }
    go (no x) (no y) (yes e) =
        let l = nine b hb (eqb-true _ _ (rw e at r)) in
        record { value = location l.value; tag = sym e; body = l.is; held = l.holds }
    go (no x) (no y) (no z) = record { value = other t b; tag = refl; body = refl; held = (ht, (x, y, z), hb) }

-- ---- the descriptors of a loop
apart_is : (d : List ℕ) → length d ≡ descriptor_size d → tag d ∷ length (body d) ∷ body d ≡ d
unfolding descriptor_size
apart_is [] h = absurd (omega arith)
apart_is (x ∷ []) h = absurd (omega arith)
apart_is (x ∷ y ∷ r) h = let e : length r ≡ y = omega arith in ap (λ (n : ℕ). x ∷ n ∷ r) e

-- as values
all_typed : (ds : List (List ℕ)) → ((d : List ℕ) → Memᴰ d ds → length d ≡ descriptor_size d)
    → ((d : List ℕ) → Memᴰ d ds → right_length (tag d) (body_length d) ≡ true) → Bytes (flatten ds)
    → Read content_written (All Fits) (flatten ds)
unfolding flatten descriptor_size
all_typed [] l r h = record { value = []; is = refl; holds = λ x m. absurd (Memᴰ.not-nil m) }
all_typed (d ∷ ds) l r h =
    let own = bytes_left d (flatten ds) h in
    let long : length d ≡ descriptor_size d = l d (Memᴰ.head refl) in
    let n : length (body d) ≡ body_length d = omega (arith, length-drop 2 d) in
    let first = typed (tag d) (body d) (own 0) (bytes_drop 2 d own) (rw n (r d (Memᴰ.head refl))) in
    let rest = all_typed ds (λ e m. l e (Memᴰ.tail m)) (λ e m. r e (Memᴰ.tail m)) (bytes_right d (flatten ds) h) in
    let k : length (body_written first.value) ≡ length (body d) = ap (λ (l : List ℕ). length l) first.body in
    let w : descriptor_written first.value ≡ d =
    ap₂ (λ (t : ℕ) (l : List ℕ). t ∷ length l ∷ l) first.tag first.body ∙ apart_is d long in
    record {
      value = first.value ∷ rest.value;
      is = ap₂ (λ (x y : List ℕ). x ++ y) w rest.is;
      holds = all_more Fits first.value rest.value (record { held = first.held; counted = omega (arith, own 1) }) rest.holds;
    }

-- by tag and bytes alone
all_plain : (ds : List (List ℕ)) → ((d : List ℕ) → Memᴰ d ds → length d ≡ descriptor_size d)
    → content_written (map (λ d. other (tag d) (body d)) ds) ≡ flatten ds
unfolding flatten body_written
all_plain [] l = refl
all_plain (d ∷ ds) l =
    ap₂ (λ (x y : List ℕ). x ++ y) (apart_is d (l d (Memᴰ.head refl))) (all_plain ds (λ e m. l e (Memᴰ.tail m)))

-- ---- one loop
-- what a cut leaves nothing of is its items, joined
nil_is : (s : List ℕ) → is_nil s ≡ true → s ≡ []
nil_is [] h = refl
nil_is (x ∷ s) h = absurd (never h)

all_joined : (size : Size) (s : List ℕ) → is_nil (cut_of size s).left ≡ true → s ≡ flatten (cut_of size s).items
all_joined size s h =
    sym (rejoined size s) ∙ ap (λ (l : List ℕ). flatten (cut_of size s).items ++ l) (nil_is (cut_of size s).left h)
    ∙ append-nil (flatten (cut_of size s).items)

-- a loop as it is cut, filled by its descriptors
record Item (l : List ℕ) : Type 0 where
  long : length l ≡ loop_size l
  full : filled (content l) ≡ true

-- with its first four bits, and any descriptors that fill it
abbrev loop_of : List ℕ → List Descriptor → Loop
loop_of l ds = record { reserved4 = number_at 2 l 0 / 2 ^ 12; descriptors = ds }

loop_is : (l : List ℕ) → Bytes l → Item l → (ds : List Descriptor) → content_written ds ≡ content l
    → (loop_written (loop_of l ds) ≡ l) × Short (loop_of l ds) × (number_at 2 l 0 / 2 ^ 12 < 2 ^ 4)
unfolding loop_size
loop_is l h p ds e =
    let x : ℕ = number_at 2 l 0 in
    let small : x < 256 ^ 2 = number_at_lt 2 l 0 h in
    let n : length (content_written ds) ≡ x % 2 ^ 12 = ap (λ (l : List ℕ). length l) e ∙ length-drop 2 l ∙ omega (arith, p.long) in
    let w : 2 ^ 12 * (x / 2 ^ 12) + length (content_written ds) ≡ x = omega arith in (
      ap₂ (λ (k : ℕ) (c : List ℕ). bytes_of 2 k ++ c) w e
          ∙ ap (λ (a : List ℕ). a ++ drop 2 l) (bytes_of_number_at 2 l 0 h (omega (arith, p.long)))
          ∙ take-append-drop 2 l,
      omega arith,
      omega arith,
    )

items_long : (l d : List ℕ) → Memᴰ d (descriptor_items (content l)) → length d ≡ descriptor_size d
items_long l d m = descriptor_long (content l) d m

joined : (l : List ℕ) → Item l → content l ≡ flatten (descriptor_items (content l))
unfolding filled
joined l p = all_joined descriptor_size (content l) p.full

plain_read : (l : List ℕ) → Bytes l → Item l → Read loop_written Short l
plain_read l h p =
    let ds : List Descriptor = map (λ d. other (tag d) (body d)) (descriptor_items (content l)) in
    let r = loop_is l h p ds (all_plain (descriptor_items (content l)) (items_long l) ∙ sym (joined l p)) in
    record { value = loop_of l ds; is = r.0; holds = r.1 }

typed_read : (l : List ℕ) → Bytes l → Item l × (known (content l) ≡ true) → Read loop_written FitsLoop l
unfolding known
typed_read l h p =
    let b : Bytes (flatten (descriptor_items (content l))) = rw (joined l p.0) at (bytes_drop 2 l h) in
    let ds = all_typed (descriptor_items (content l)) (items_long l)
    (λ d m. every_one (λ d. right_length (tag d) (body_length d)) (descriptor_items (content l)) d p.1 m) b in
    let r = loop_is l h p.0 ds.value (ds.is ∙ sym (joined l p.0)) in
    record { value = loop_of l ds.value; is = r.0; holds = record { reserved = r.2; descriptors = ds.holds } }

-- ---- the loops
module _ (P : List ℕ → Type 0) (good : Loop → Type 0) (one : (l : List ℕ) → Bytes l → P l → Read loop_written good l) where
  loops_read : (ls : List (List ℕ)) → ((l : List ℕ) → Memᴰ l ls → P l) → Bytes (flatten ls)
      → (xs : List Loop) × (map loop_written xs ≡ ls) × All good xs
  unfolding flatten
  loops_read [] f h = ([], refl, λ x m. absurd (Memᴰ.not-nil m))
  loops_read (l ∷ ls) f h =
      let first = one l (bytes_left l (flatten ls) h) (f l (Memᴰ.head refl)) in
      let rest = loops_read ls (λ k m. f k (Memᴰ.tail m)) (bytes_right l (flatten ls) h) in (
        first.value ∷ rest.0,
        ap₂ (λ (x : List ℕ) (y : List (List ℕ)). x ∷ y) first.is rest.1,
        all_more good first.value rest.0 first.holds rest.2,
      )

turns : (xs : List Loop) → odd xs ≡ true → (platform : Loop) × (pairs : List (Loop × Loop)) × (xs ≡ platform ∷ by_turns pairs)
unfolding odd by_turns
turns [] h = absurd (never h)
turns (x ∷ []) h = (x, [], refl)
turns (x ∷ y ∷ zs) h =
    let r = turns zs (go (odd zs) h) in
    (x, (y, r.0) ∷ r.1, ap (λ (l : List Loop). x ∷ y ∷ l) r.2)
  where
    go : (b : Bool) → not (not b) ≡ true → b ≡ true
    go true e = refl
    go false e = e

odd_map : {A B : Type 0} (f : A → B) (xs : List A) → odd (map f xs) ≡ odd xs
unfolding odd
odd_map f [] = refl
odd_map f (x ∷ xs) = ap not (odd_map f xs)

pairs_all : (good : Loop → Type 0) (ps : List (Loop × Loop)) → All good (by_turns ps) → (p : Loop × Loop) → Memᴰ p ps → good p.0 × good p.1
unfolding by_turns
pairs_all good [] f p m = absurd (Memᴰ.not-nil m)
pairs_all good (q ∷ ps) f p m = go (pairs_all good ps (λ x k. f x (Memᴰ.tail (Memᴰ.tail k))) p) (Memᴰ.cases_cons m)
  where
    go : (Memᴰ p ps → good p.0 × good p.1) → (p ≡ q) ⊎ Memᴰ p ps → good p.0 × good p.1
    go ih (inl e) = rw e (f q.0 (Memᴰ.head refl), f q.1 (Memᴰ.tail (Memᴰ.head refl)))
    go ih (inr k) = ih k

-- loops by turns, as any way of reading a loop gives them
record Turned (good : Loop → Type 0) (b : List ℕ) : Type 0 where
  platform : Loop
  pairs : List (Loop × Loop)
  is : loops_written platform pairs ≡ b
  holds : All good (platform ∷ by_turns pairs)

-- 32 does not apply
module _ (s : List ℕ) (b : Bytes s) (f : fits (loop_cut s) ≡ true) where
  abbrev items : List (List ℕ)
  items = (loop_cut s).items

  item : (l : List ℕ) → Memᴰ l items → Item l
  unfolding fits loop_cut
  item l m =
      let parts = both_true _ _ (both_true _ _ f).1 in
      record {
        long = loop_long (drop 12 (take (crc_offset s) s)) l m;
        full = every_one (λ l. filled (content l)) items l parts.1 m;
      }

  all_items : drop 12 (take (crc_offset s) s) ≡ flatten items
  unfolding fits loop_cut
  all_items = all_joined loop_size (drop 12 (take (crc_offset s) s)) (both_true _ _ f).0

  turned : (P : List ℕ → Type 0) (good : Loop → Type 0) → ((l : List ℕ) → Bytes l → P l → Read loop_written good l)
      → ((l : List ℕ) → Memᴰ l items → P l) → Turned good (drop 12 (take (crc_offset s) s))
  unfolding fits
  turned P good one h =
      let parts = both_true _ _ (both_true _ _ f).1 in
      let ls = loops_read P good one items h (rw all_items at (bytes_drop 12 (take (crc_offset s) s) (bytes_take (crc_offset s) s b))) in
      let ts = turns ls.0 (sym (odd_map loop_written ls.0) ∙ ap odd ls.1 ∙ parts.0) in
      record {
        platform = ts.0;
        pairs = ts.1;
        is = loops_in_is ts.0 ts.1 ∙ ap (λ (xs : List Loop). flatten (map loop_written xs)) (sym ts.2)
            ∙ ap (λ (ls : List (List ℕ)). flatten ls) ls.1 ∙ sym all_items;
        holds = rw ts.2 at ls.2;
      }

-- 32 is met exactly where the bytes are not so
pub filled_exactly : (s : List ℕ) → Bytes s → (misfit s ≡ false) ↔ Filled s
unfolding misfit fits loop_cut both
filled_exactly s b = (there, back)
  where
    there : misfit s ≡ false → Filled s
    there h =
        let t = turned s b (not-false _ h) Item Short plain_read (item s b (not-false _ h)) in
        record {
          platform = t.platform;
          pairs = t.pairs;
          short = t.holds t.platform (Memᴰ.head refl);
          shorts = pairs_all Short t.pairs (λ l m. t.holds l (Memᴰ.tail m));
          is = t.is;
        }

    back : Filled s → misfit s ≡ false
    back f =
        let e : loop_cut s ≡ record { items = map loop_written (loops_in f.platform f.pairs); left = [] } =
        ap (cut_of loop_size) (sym f.is)
        ∙ loops_back f.platform f.pairs (loops_all Short f.platform f.pairs f.short f.shorts) in
        rw (e, turns_odd f.platform f.pairs, every_filled (loops_in f.platform f.pairs))

-- ---- what each of 12 to 18, 30 and 31 says
record Head (s : List ℕ) : Type 0 where
  shared : Unrefused notification_form s
  action : action_type s ≡ 0x01
  hash : platform_id_hash s ≡ bit_xor (bit_xor (byte_at s 8) (byte_at s 9)) (byte_at s 10)

head : (s : List ℕ) → refusal s ≡ 0 → Head s
unfolding refusal shared_refusal platform_lines other_action wrong_hash
head s p =
    let lines = none_parts (shared_lines notification_form s) (platform_lines s ++ loop_lines s) (shared_numbered notification_form s) p in
    let plat = none_parts (platform_lines s) (loop_lines s) (platform_numbered s) lines.1 in
    let t30 = none_first _ _ (omega arith) plat.0 in
    let t31 = none_first _ _ (omega arith) t30.1 in
    record {
      shared = unrefused notification_form s lines.0;
      action = eqb-true _ _ (not-false _ t30.0);
      hash = eqb-true _ _ (not-false _ t31.0);
    }

-- ---- a byte, by its bits
-- bit 7 is 1; x and y after it gives section_length
length_byte : (x y : ℕ) → x < 256 → y < 256 → x / 128 % 2 ≡ 1 → 2 ^ 7 + 2 ^ 4 * (x / 16 % 8) + (x * 256 + y) % 4096 / 256 % 16 ≡ x
length_byte x y hx hy h7 =
    let q7 : x / 128 ≡ 1 = omega arith in
    let q4 : x / 16 % 8 + 8 ≡ x / 16 = omega arith in
    let low : (x * 256 + y) % 4096 ≡ x % 16 * 256 + y = omega arith in
    let high : (x % 16 * 256 + y) / 256 ≡ x % 16 = omega arith in
    let same : x % 16 % 16 ≡ x % 16 = omega arith in
    rw (low, high, same) (omega arith)

-- bit 0 is 1
version_byte : (x : ℕ) → x < 256 → (x / 1 % 2 ≡ 0 → ⊥) → 2 ^ 6 * (x / 64 % 4) + 2 * (x / 2 % 32) + 1 ≡ x
version_byte x hx h0 =
    let one : x % 2 ≡ 1 = omega arith in
    let by64 : x / 2 / 32 ≡ x / 64 = div-div-eq-div-mul x 2 32 in
    let top : x / 64 % 4 ≡ x / 64 = omega arith in
    rw top (omega arith)

three : (x y z : ℕ) → x < 256 → y < 256 → z < 256
    → (bits 23 16 (x * 65536 + (y * 256 + z)) ≡ x) × (bits 15 8 (x * 65536 + (y * 256 + z)) ≡ y) × (bits 7 0 (x * 65536 + (y * 256 + z)) ≡ z)
three x y z hx hy hz =
    let a : (x * 65536 + (y * 256 + z)) / 65536 ≡ x = omega arith in
    let b : (x * 65536 + (y * 256 + z)) / 256 ≡ x * 256 + y = omega arith in
    let c : (x * 256 + y) % 256 ≡ y = omega arith in
    let d : x % 256 ≡ x = omega arith in
    let e : (x * 65536 + (y * 256 + z)) / 1 % 256 ≡ z = omega arith in
    (rw (a, d), rw (b, c), e)

-- ---- the section
module _ (s : List ℕ) (b : Bytes s) (p : refusal s ≡ 0) where
  f : Head s
  f = head s p

  t : Turned FitsLoop (drop 12 (take (crc_offset s) s))
  t =
      turned s b (sound s p).fill (λ l. Item l × (known (content l) ≡ true)) FitsLoop typed_read
      (λ l m. (item s b (sound s p).fill l m, every_one (λ l. known (content l)) (loop_cut s).items l (sound s p).right m))

  abbrev body_bytes : List ℕ
  body_bytes = drop 12 (take (crc_offset s) s)

  n : Notification
  n =
      record {
        reserved3 = bits 6 4 (byte_at s 1);
        reserved2 = bits 7 6 (byte_at s 5);
        version_number = bits 5 1 (byte_at s 5);
        section_number = byte_at s 6;
        last_section_number = byte_at s 7;
        platform_id = number_at 3 s 8;
        processing_order = byte_at s 11;
        platform = t.platform;
        pairs = t.pairs;
      }

  abbrev loops : List ℕ
  loops = loops_written t.platform t.pairs

  body_long : length body_bytes + 16 ≡ length s
  body_long = omega (arith, length-drop 12 (take (crc_offset s) s), length-take-le (crc_offset s) s (omega arith), f.shared.long)

  counted : length loops + 13 ≡ (byte_at s 1 * 256 + byte_at s 2) % 4096
  unfolding section_length number_at
  counted =
      let two : number_at 2 s 1 ≡ byte_at s 1 * 256 + byte_at s 2 = omega arith in
      let l : length loops ≡ length body_bytes = ap (λ (l : List ℕ). length l) t.is in
      omega (arith, f.shared.whole, body_long, ap (λ (k : ℕ). k % 4096) two)

  platform_is : number_at 3 s 8 ≡ byte_at s 8 * 65536 + (byte_at s 9 * 256 + byte_at s 10)
  unfolding number_at
  platform_is = omega arith

  byte_2 : bits 7 0 ((byte_at s 1 * 256 + byte_at s 2) % 4096) ≡ byte_at s 2
  byte_2 = omega (arith, b 1, b 2)

  head_is : head_written n (length loops + 13) ≡ take 12 s
  unfolding n head_written bytes_from table_id section_syntax_indicator current_next_indicator action_type platform_id_hash
  head_is =
      let t = three (byte_at s 8) (byte_at s 9) (byte_at s 10) (b 8) (b 9) (b 10) in
      rw (
        counted,
        platform_is,
        t.0,
        t.1,
        t.2,
        length_byte (byte_at s 1) (byte_at s 2) (b 1) (b 2) f.shared.syntax,
        byte_2,
        version_byte (byte_at s 5) (b 5) f.shared.current,
        ← f.hash,
      )
      (ap₂ (λ (t a : ℕ). t ∷ byte_at s 1 ∷ byte_at s 2 ∷ a ∷ byte_at s 4 ∷ byte_at s 5 ∷ byte_at s 6 ∷ byte_at s 7 ∷ byte_at s 8 ∷ byte_at s 9 ∷ byte_at s 10
      ∷ byte_at s 11 ∷ []) (sym f.shared.table) (sym f.action)
      ∙ sym (take_bytes 12 0 s (omega (arith, f.shared.long))))

  written : notification_written n ≡ s
  unfolding notification_written n
  written =
      ap₂ (λ (x y : List ℕ). sealed (x ++ y)) (head_is ∙ sym (take-take 12 (crc_offset s) s (omega (arith, f.shared.long)))) t.is
      ∙ ap sealed (take-append-drop 12 (take (crc_offset s) s))
      ∙ sealed_is s b (omega (arith, f.shared.long)) f.shared.crc

  conforms : Conforms n
  unfolding n section_number last_section_number
  conforms =
      record {
        reserved3 = omega arith;
        reserved2 = omega arith;
        version = omega arith;
        order = b 11;
        platform_id = number_at_lt 3 s 8 b;
        highest = b 7;
        number = f.shared.order;
        platform = t.holds t.platform (Memᴰ.head refl);
        pairs = pairs_all FitsLoop t.pairs (λ l m. t.holds l (Memᴰ.tail m));
        size = rw written f.shared.short;
      }

-- what no line applies to is what table 13 writes
pub taken_is_written : (s : List ℕ) → Bytes s → refusal s ≡ 0 → Written s
taken_is_written s b p = record { value = n s b p; conforms = conforms s b p; is = written s b p }
