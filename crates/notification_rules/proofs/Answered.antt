-- The search over what was cut back gives what the pairs that were written say, and the nine bytes stand where their lengths put them.
use Prim.Native.Nat.{ℕ, zero, suc, ◌+◌, ◌*◌, ◌/◌, ◌%◌, ◌^◌, ◌<◌}
use native.Mathlib.Nat.{mod-eq_of_lt, mod-one, mod-lt, one-le-pow, pow-succ'}
use native.Mathlib.Omega.{arith}
use mathlib.Core.Path.{◌≡◌, refl, sym, ap, ap₂, ◌∙◌}
use mathlib.Core.Bool.{Bool, true, false, cond, ◌&&◌, ◌||◌}
use mathlib.Core.Logic.{◌⊎◌, inl, inr}
use mathlib.Core.List.Memᴰ
use mathlib.Core.List.{List, [], ◌∷◌, ◌++◌, append_assoc, append-nil, flatten, map, Memᴰ}
use mathlib.Core.Option.{Option, none, some, or_else, Option-elim}
use lib.Arith.{digits_div, mod-mul}
use lib.Bits.{bit_and, and_shr, and_mod, and_le_r}
use lib.Dec.{eqb, leb, lit<}
use lib.ListN.{length, drop, length-append}
use borrow.Author.Tests.{eq-eqb, ne_eqb, eqb-true, eqb-false}
use Rattle.wire.specs.Bytes.{bytes_of, bit, Bytes, number_at}
use Rattle.wire.specs.Choice.{pick, both}
use Rattle.wire.specs.Part.{Part, part}
use Rattle.wire.proofs.Bytes.{append_bytes, bytes_of_bytes, length_bytes_of, number_at_bytes_of}
use Rattle.rules.specs.declared.Address.{Address}
use Rattle.rules.specs.Address.{address_bytes}
use Rattle.rules.specs.Section.{sealed}
use Rattle.notification_rules.specs.Answers.{Finding, Found, Nobody}
use Rattle.notification_rules.specs.Cut.{Cut, is_nil, any, from_offset}
use Rattle.notification_rules.specs.Loop.{descriptor_items, descriptors_of, loops_of, Pair, pairs_of}
use Rattle.notification_rules.specs.Range.{in_range}
use Rattle.notification_rules.specs.Target.{address_number, same_under, covers, by, cover_from, cover_of, is_cover, Location, nowhere, somewhere, located, is_location, location_of, answers, first_pair}
use Rattle.notification_rules.specs.Target as target
use Rattle.notification_rules.specs.Finding.{found, chosen, searched, finding_number, finding_of, finding_offset, part_of}
use Rattle.notification_rules.specs.Format.{Descriptor, masked, ranges, location, other, Loop, Notification, tag_of, range_written, body_written, descriptor_written, content_written, loop_written, pair_written, head_written, notification_written, Held, Fits, FitsLoop, Conforms, device_number, same_where, one, targets, covered, location_in, location_to, found_at, found_nobody, answer_to, Gives, WrittenIsFound}
use Rattle.notification_rules.specs.Meaning.{by_turns}
use Rattle.notification_rules.proofs.Items.{covered_any}
use Rattle.notification_rules.proofs.Parts.{Stands, stands_after, stands_bytes, stands_first, stands_second}
use Rattle.notification_rules.proofs.Entries.{masks_cover, other_covers, ranges_cover}
use Rattle.notification_rules.proofs.Found.{unrefused}
use Rattle.notification_rules.proofs.Range.{in_range_is}
use Rattle.notification_rules.proofs.Taken.{range_length, loop_content, descriptors_cut, loops_cut, written_is_taken}

-- ---- bit by bit
pow_pos : (k : ℕ) → 0 < 2 ^ k
pow_pos k = one-le-pow k 2 (lit< tt)

-- two numbers of a digit and a rest each
digit_eqb : (c u v x y : ℕ) → x < c → y < c → eqb (u * c + x) (v * c + y) ≡ (eqb u v && eqb x y)
digit_eqb c u v x y h g = go (eqb u v) refl (eqb x y) refl
  where
    go : (p : Bool) → eqb u v ≡ p → (q : Bool) → eqb x y ≡ q → eqb (u * c + x) (v * c + y) ≡ (p && q)
    go true e true f =
        eq-eqb _ _ (ap₂ (λ (a b : ℕ). a * c + b) (eqb-true u v e) (eqb-true x y f))
    go true e false f =
        let w : u * c ≡ v * c = ap (λ (a : ℕ). a * c) (eqb-true u v e) in
        ne_eqb (u * c + x) (v * c + y) (λ z. eqb-false x y f (omega arith))
    go false e q f =
        ne_eqb _ _ (λ z. eqb-false u v e (sym (digits_div u h) ∙ ap (λ (a : ℕ). a / c) z ∙ digits_div v g))

-- one bit of each
bit_eqb : (p q r : ℕ) → p < 2 → q < 2 → r < 2 → eqb (bit_and p q) (bit_and r q) ≡ (eqb q 0 || eqb p r)
bit_eqb zero zero zero a b c = refl
bit_eqb zero zero (suc zero) a b c = refl
bit_eqb zero zero (suc (suc r)) a b c = absurd (omega arith)
bit_eqb zero (suc zero) zero a b c = refl
bit_eqb zero (suc zero) (suc zero) a b c = refl
bit_eqb zero (suc zero) (suc (suc r)) a b c = absurd (omega arith)
bit_eqb zero (suc (suc q)) r a b c = absurd (omega arith)
bit_eqb (suc zero) zero zero a b c = refl
bit_eqb (suc zero) zero (suc zero) a b c = refl
bit_eqb (suc zero) zero (suc (suc r)) a b c = absurd (omega arith)
bit_eqb (suc zero) (suc zero) zero a b c = refl
bit_eqb (suc zero) (suc zero) (suc zero) a b c = refl
bit_eqb (suc zero) (suc zero) (suc (suc r)) a b c = absurd (omega arith)
bit_eqb (suc zero) (suc (suc q)) r a b c = absurd (omega arith)
bit_eqb (suc (suc p)) q r a b c = absurd (omega arith)

-- bit k of both
and_bit : (k a m : ℕ) → bit k (bit_and a m) ≡ bit_and (bit k a) (bit k m)
and_bit k a m = ap (λ (x : ℕ). x % 2) (and_shr a m k) ∙ and_mod (a / 2 ^ k) (m / 2 ^ k) 1

low_bits : (k m a d : ℕ) → eqb (bit_and a m % 2 ^ k) (bit_and d m % 2 ^ k) ≡ same_where k m a d
unfolding same_where
low_bits zero m a d = rw (mod-one (bit_and a m), mod-one (bit_and d m))
low_bits (suc k) m a d =
    let x : ℕ = bit_and a m in
    let y : ℕ = bit_and d m in
    let e : x % 2 ^ suc k ≡ bit k x * 2 ^ k + x % 2 ^ k = ap (λ (n : ℕ). x % n) (pow-succ' 2 k) ∙ mod-mul x (lit< tt) (pow_pos k) in
    let f : y % 2 ^ suc k ≡ bit k y * 2 ^ k + y % 2 ^ k = ap (λ (n : ℕ). y % n) (pow-succ' 2 k) ∙ mod-mul y (lit< tt) (pow_pos k) in
    ap₂ eqb e f
    ∙ digit_eqb (2 ^ k) (bit k x) (bit k y) (x % 2 ^ k) (y % 2 ^ k) (mod-lt x (pow_pos k)) (mod-lt y (pow_pos k))
    ∙ ap₂ ◌&&◌
    (ap₂ eqb (and_bit k a m) (and_bit k d m)
    ∙ bit_eqb (bit k a) (bit k m) (bit k d) (mod-lt (a / 2 ^ k) (lit< tt)) (mod-lt (m / 2 ^ k) (lit< tt)) (mod-lt (d / 2 ^ k) (lit< tt)))
    (low_bits k m a d)

all_bits : (k m a d : ℕ) → m < 2 ^ k → eqb (bit_and a m) (bit_and d m) ≡ same_where k m a d
all_bits k m a d h =
    let below : (x : ℕ) → bit_and x m < 2 ^ k = λ x. omega (arith, and_le_r x m) in
    ap₂ eqb (sym (mod-eq_of_lt (below a))) (sym (mod-eq_of_lt (below d))) ∙ low_bits k m a d

-- ---- whom a descriptor covers
six : (a : ℕ) (t : List ℕ) → a < 2 ^ 48 → number_at 6 (bytes_of 6 a ++ t) 0 ≡ a
six a t h = number_at_bytes_of 6 a [] t ∙ mod-eq_of_lt h

six_alone : (a : ℕ) → a < 2 ^ 48 → number_at 6 (bytes_of 6 a) 0 ≡ a
six_alone a h = ap (λ (l : List ℕ). number_at 6 l 0) (sym (append-nil (bytes_of 6 a))) ∙ six a [] h

six_second : (a b : ℕ) → b < 2 ^ 48 → number_at 6 (bytes_of 6 a ++ bytes_of 6 b) 6 ≡ b
six_second a b h =
    ap₂ (λ (l : List ℕ) (i : ℕ). number_at 6 (bytes_of 6 a ++ l) i) (sym (append-nil (bytes_of 6 b))) (sym (length_bytes_of 6 a))
    ∙ number_at_bytes_of 6 b (bytes_of 6 a) [] ∙ mod-eq_of_lt h

device_is : (device : Address) → address_number device ≡ device_number device
unfolding address_number number_at
device_is device = omega arith

-- a range that was written, byte by byte or by its numbers
range_is : (device : Address) → Bytes (address_bytes device) → (low high : ℕ) → low < 2 ^ 48 → high < 2 ^ 48
    → in_range device (range_written (low, high)) ≡ (leb low (device_number device) && leb (device_number device) high)
unfolding both address_number
range_is device b low high f g =
    in_range_is device (range_written (low, high)) b (append_bytes (bytes_of 6 low) (bytes_of 6 high) (bytes_of_bytes 6 low) (bytes_of_bytes 6 high))
    ∙ rw (six low (bytes_of 6 high) f, six_second low high g, device_is device)

-- a test of what was written, and the same of what was meant
any_one : {A : Type 0} (write : A → List ℕ) (f : List ℕ → Bool) (g : A → Bool) (xs : List A)
    → ((x : A) → Memᴰ x xs → f (write x) ≡ g x) → any f (map write xs) ≡ one g xs
unfolding any one pick
any_one write f g [] h = refl
any_one write f g (x ∷ xs) h =
    go (g x) (h x (Memᴰ.head refl)) (any_one write f g xs (λ y m. h y (Memᴰ.tail m)))
  where
    go : (b : Bool) → f (write x) ≡ b → any f (map write xs) ≡ one g xs → pick (f (write x)) true (any f (map write xs)) ≡ (b || one g xs)
    go true e ih = rw e
    go false e ih = rw e ih

all_long : {A : Type 0} (write : A → List ℕ) (n : ℕ) → ((x : A) → length (write x) ≡ n) → (xs : List A) (e : List ℕ)
    → Memᴰ e (map write xs) → length e ≡ n
all_long write n h [] e m = absurd (Memᴰ.not-nil m)
all_long write n h (x ∷ xs) e m = go (all_long write n h xs e) (Memᴰ.cases_cons m)
  where
    go : (Memᴰ e (map write xs) → length e ≡ n) → (e ≡ write x) ⊎ Memᴰ e (map write xs) → length e ≡ n
    go ih (inl q) = ap (λ (l : List ℕ). length l) q ∙ h x
    go ih (inr k) = ih k

covers_is : (device : Address) → Bytes (address_bytes device) → (d : Descriptor) → Held d
    → covers device (descriptor_written d) ≡ targets (device_number device) d
unfolding targets body_written same_under both
covers_is device b (masked mask xs) h =
    masks_cover device (bytes_of 6 mask) (map (bytes_of 6) xs) (length_bytes_of 6 mask) (all_long (bytes_of 6) 6 (length_bytes_of 6) xs)
    ∙ any_one (bytes_of 6) (same_under device (bytes_of 6 mask)) (λ a. same_where 48 mask a (device_number device)) xs
    (λ a m. rw (six_alone a (h.1 a m), six_alone mask h.0, device_is device) (all_bits 48 mask a (device_number device) h.0))
covers_is device b (ranges rs) h =
    ranges_cover device (map range_written rs) (all_long range_written 12 range_length rs)
    ∙ any_one range_written (in_range device) (λ r. leb r.0 (device_number device) && leb (device_number device) r.1) rs
    (λ r m. range_is device b r.0 r.1 (h r m).0 (h r m).1)
covers_is device b (location l) h = other_covers device (descriptor_written (location l)) (λ e. omega arith) (λ e. omega arith)
covers_is device b (other t c) h = other_covers device (descriptor_written (other t c)) h.1.0 h.1.1

-- ---- a loop that was written
list_cover : (device : Address) → Bytes (address_bytes device) → (o : ℕ) (ds : List Descriptor) → ((d : Descriptor) → Memᴰ d ds → Fits d)
    → is_cover (pick (is_nil (content_written ds)) (by 0) (cover_from device (from_offset o (map descriptor_written ds)))) ≡ covered (device_number device) ds
unfolding flatten pick is_cover covered
list_cover device b o [] h = refl
list_cover device b o (d ∷ ds) h =
    covered_any device o (map descriptor_written (d ∷ ds))
    ∙ any_one descriptor_written (covers device) (targets (device_number device)) (d ∷ ds) (λ e m. covers_is device b e (h e m).held)

module _ (l : Loop) (f : FitsLoop l) where
  items_are : (o : ℕ) → descriptors_of (part o (loop_written l)) ≡ from_offset (o + 2) (map descriptor_written l.descriptors)
  unfolding descriptors_of
  items_are o =
      ap (λ (b : List ℕ). from_offset (o + 2) (descriptor_items b)) (loop_content l)
      ∙ ap (λ (c : Cut). from_offset (o + 2) c.items) (descriptors_cut l.descriptors)

  cover_is : (device : Address) → Bytes (address_bytes device) → (o : ℕ) → is_cover (cover_of device (part o (loop_written l))) ≡ covered (device_number device) l.descriptors
  unfolding cover_of
  cover_is device b o =
      ap₂ (λ (x : List ℕ) (ds : List Part). is_cover (pick (is_nil x) (by 0) (cover_from device ds))) (loop_content l) (items_are o)
      ∙ list_cover device b (o + 2) l.descriptors f.descriptors

-- the nine bytes of a 0x13, and their offset
part_at : Location → Option Part
part_at nowhere = none
part_at (somewhere d) = some (part (d.offset + 2) (drop 2 d.bytes))

nine_is : (o : ℕ) (ds : List Descriptor) → part_at (located (from_offset o (map descriptor_written ds))) ≡ location_in o ds
unfolding located from_offset location_in pick part_at
nine_is o [] = refl
nine_is o (d ∷ ds) = go (eqb (tag_of d) 0x13) (nine_is (o + length (descriptor_written d)) ds)
  where
    go : (b : Bool)
        → part_at (located (from_offset (o + length (descriptor_written d)) (map descriptor_written ds))) ≡ location_in (o + length (descriptor_written d)) ds
        → part_at (pick b (somewhere (part o (descriptor_written d))) (located (from_offset (o + length (descriptor_written d)) (map descriptor_written ds))))
        ≡ cond b (some (part (o + 2) (body_written d))) (location_in (o + length (descriptor_written d)) ds)
    go true ih = refl
    go false ih = ih

located_is : (l : Loop) → FitsLoop l → (o : ℕ) → part_at (located (descriptors_of (part o (loop_written l)))) ≡ location_in (o + 2) l.descriptors
located_is l f o = ap (λ (ds : List Part). part_at (located ds)) (items_are l f o) ∙ nine_is (o + 2) l.descriptors

else_is : (a b : Location) → part_at (target.or_else a b) ≡ or_else (part_at a) (part_at b)
unfolding target.or_else or_else part_at
else_is nowhere b = refl
else_is (somewhere d) b = refl

-- ---- the search
finding_at : Option Part → Finding
finding_at none = Nobody
finding_at (some p) = Found p.offset

pair_is : (platform : Part) (c : Bool) (x : Pair) (l : Location) → location_of platform x ≡ l → (later : Option Pair) (o : Option Part)
    → chosen platform later ≡ finding_at o
    → chosen platform (pick (both c (is_location l)) (some x) later) ≡ finding_at (or_else (cond c (part_at l) none) o)
unfolding chosen pick both is_location found part_at finding_at or_else
pair_is platform true x nowhere e later o h = h
pair_is platform true x (somewhere d) e later o h = ap found e
pair_is platform false x nowhere e later o h = h
pair_is platform false x (somewhere d) e later o h = h

search_is : (device : Address) → Bytes (address_bytes device) → (platform : Loop) → FitsLoop platform → (o : ℕ) (ps : List (Loop × Loop))
    → ((p : Loop × Loop) → Memᴰ p ps → FitsLoop p.0 × FitsLoop p.1)
    → chosen (part 12 (loop_written platform))
    (first_pair (answers device (part 12 (loop_written platform))) (pairs_of (from_offset o (map loop_written (by_turns ps)))))
    ≡ finding_at (location_to (device_number device) (location_in 14 platform.descriptors) o ps)
unfolding by_turns from_offset pairs_of first_pair location_to chosen answers location_of finding_at
search_is device b platform f o [] h = refl
search_is device b platform f o (p ∷ ps) h =
    let here : Part = part 12 (loop_written platform) in
    let general : Option Part = location_in 14 platform.descriptors in
    let t : ℕ = length (loop_written p.0) in
    let x : Pair = record { target = part o (loop_written p.0); operational = part (o + t) (loop_written p.1) } in
    let fits = h p (Memᴰ.head refl) in
    let e : o + t + length (loop_written p.1) ≡ o + length (pair_written p) =
    omega (arith, length-append (loop_written p.0) (loop_written p.1)) in
    let located_so : part_at (location_of here x) ≡ or_else (location_in (o + t + 2) p.1.descriptors) general =
    else_is (located (descriptors_of x.operational)) (located (descriptors_of here))
    ∙ ap₂ or_else (located_is p.1 fits.1 (o + t)) (located_is platform f 12) in
    let rest : Option Part = location_to (device_number device) general (o + length (pair_written p)) ps in
    pair_is here (is_cover (cover_of device x.target)) x (location_of here x) refl _ rest
    (ap (λ (k : ℕ). chosen here (first_pair (answers device here) (pairs_of (from_offset k (map loop_written (by_turns ps)))))) e
    ∙ search_is device b platform f (o + length (pair_written p)) ps (λ q m. h q (Memᴰ.tail m)))
    ∙ ap₂ (λ (c : Bool) (l : Option Part). finding_at (or_else (cond c l none) rest)) (cover_is p.0 fits.0 device b o) located_so

-- ---- the nine bytes
record Nine (s : List ℕ) (p : Part) : Type 0 where
  stands : Stands s p
  long : length p.bytes ≡ 9

nine_long : (d : Descriptor) → Held d → tag_of d ≡ 0x13 → length (body_written d) ≡ 9
unfolding body_written bytes_of
nine_long (masked mask xs) h e = absurd (omega arith)
nine_long (ranges rs) h e = absurd (omega arith)
nine_long (location l) h e = refl
nine_long (other t b) h e = absurd (h.1.2 e)

-- of the one or the other
else_one : (a b : Option Part) (p : Part) → or_else a b ≡ some p → (a ≡ some p) ⊎ (b ≡ some p)
unfolding or_else
else_one none b p e = inr e
else_one (some q) b p e = inl e

cond_one : (c : Bool) (a : Option Part) (p : Part) → cond c a none ≡ some p → a ≡ some p
cond_one true a p e = e
cond_one false a p e = absurd cc

module _ (s : List ℕ) where
  content_stands : (l : Loop) (o : ℕ) → Stands s (part o (loop_written l)) → Stands s (part (o + 2) (content_written l.descriptors))
  unfolding bytes_of
  content_stands l o t =
      stands_second s o (bytes_of 2 (2 ^ 12 * l.reserved4 + length (content_written l.descriptors))) (content_written l.descriptors) t

  nine_stands : (o : ℕ) (ds : List Descriptor) → ((d : Descriptor) → Memᴰ d ds → Fits d) → Stands s (part o (content_written ds))
      → (p : Part) → location_in o ds ≡ some p → Nine s p
  unfolding location_in flatten
  nine_stands o [] f t p e = absurd cc
  nine_stands o (d ∷ ds) f t p e =
      go (eqb (tag_of d) 0x13) refl e
      (nine_stands (o + length (descriptor_written d)) ds (λ x m. f x (Memᴰ.tail m))
      (stands_second s o (descriptor_written d) (content_written ds) t) p)
    where
      go : (b : Bool) → eqb (tag_of d) 0x13 ≡ b
          → cond b (some (part (o + 2) (body_written d))) (location_in (o + length (descriptor_written d)) ds) ≡ some p
          → (location_in (o + length (descriptor_written d)) ds ≡ some p → Nine s p) → Nine s p
      go true q e ih =
          let here : part (o + 2) (body_written d) ≡ p = cc in
          let first = stands_first s o (descriptor_written d) (content_written ds) t in
          rw (← here)
          (record {
            stands = stands_after s (part o (descriptor_written d)) 2 (omega arith) first;
            long = nine_long d (f d (Memᴰ.head refl)).held (eqb-true _ _ q);
          })
      go false q e ih = ih e

  pairs_stand : (device : ℕ) (general : Option Part) → ((p : Part) → general ≡ some p → Nine s p) → (o : ℕ) (ps : List (Loop × Loop))
      → ((q : Loop × Loop) → Memᴰ q ps → FitsLoop q.0 × FitsLoop q.1) → Stands s (part o (flatten (map pair_written ps)))
      → (p : Part) → location_to device general o ps ≡ some p → Nine s p
  unfolding location_to flatten
  pairs_stand device general g o [] f t p e = absurd cc
  pairs_stand device general g o (x ∷ ps) f t p e =
      go (else_one _ _ p e)
      (pairs_stand device general g (o + length (pair_written x)) ps (λ q m. f q (Memᴰ.tail m))
      (stands_second s o (pair_written x) (flatten (map pair_written ps)) t) p)
    where
      here : (location_in (o + length (loop_written x.0) + 2) x.1.descriptors ≡ some p) ⊎ (general ≡ some p) → Nine s p
      here (inl q) =
          nine_stands (o + length (loop_written x.0) + 2) x.1.descriptors (f x (Memᴰ.head refl)).1.descriptors
          (content_stands x.1 (o + length (loop_written x.0))
          (stands_second s o (loop_written x.0) (loop_written x.1) (stands_first s o (pair_written x) (flatten (map pair_written ps)) t)))
          p q
      here (inr q) = g p q

      go : (cond (covered device x.0.descriptors)
          (or_else (location_in (o + length (loop_written x.0) + 2) x.1.descriptors) general) none ≡ some p)
          ⊎ (location_to device general (o + length (pair_written x)) ps ≡ some p)
          → (location_to device general (o + length (pair_written x)) ps ≡ some p → Nine s p) → Nine s p
      go (inl q) ih = here (else_one _ general p (cond_one (covered device x.0.descriptors) _ p q))
      go (inr q) ih = ih q

-- ---- the answer
gives : (device : Address) (s : List ℕ) (o : Option Part) → finding_of device s ≡ finding_at o → ((p : Part) → o ≡ some p → Nine s p)
    → Gives device s (Option-elim o found_nobody found_at)
unfolding finding_at Option-elim
gives device s none e h =
    record { finding = e; number = ap finding_number e; offset = ap finding_offset e; given = ap (part_of s) e }
gives device s (some p) e h =
    let nine = h p refl in
    record {
      finding = e;
      number = ap finding_number e;
      offset = ap finding_offset e;
      given = ap (part_of s) e ∙ ap (part p.offset) (stands_bytes s p 9 nine.long nine.stands);
    }

module _ (n : Notification) (t : Conforms n) where
  abbrev s : List ℕ
  s = notification_written n

  abbrev pairs : List ℕ
  pairs = flatten (map pair_written n.pairs)

  loops_stand : Stands s (part 12 (loop_written n.platform ++ pairs))
  unfolding notification_written sealed head_written
  loops_stand =
      record {
        front = head_written n (length (loop_written n.platform ++ pairs) + 13);
        back = _;
        is = append_assoc (head_written n (length (loop_written n.platform ++ pairs) + 13)) (loop_written n.platform ++ pairs) _;
        offset = refl;
      }

  general_stands : (p : Part) → location_in 14 n.platform.descriptors ≡ some p → Nine s p
  general_stands =
      nine_stands s 14 n.platform.descriptors t.platform.descriptors
      (content_stands s n.platform 12 (stands_first s 12 (loop_written n.platform) pairs loops_stand))

  pub found_is : (device : Address) → Bytes (address_bytes device) → Gives device s (answer_to device n)
  unfolding answer_to loops_of from_offset searched
  found_is device b =
      gives device s _
      (unrefused device s (written_is_taken n t)
      ∙ ap (λ (c : Cut). searched device (from_offset 12 c.items)) (loops_cut n t)
      ∙ search_is device b n.platform t.platform (12 + length (loop_written n.platform)) n.pairs t.pairs)
      (pairs_stand s (device_number device) _ general_stands (12 + length (loop_written n.platform)) n.pairs t.pairs
      (stands_second s 12 (loop_written n.platform) pairs loops_stand))

pub written_is_found : WrittenIsFound
written_is_found device n b t = found_is n t device b
