-- Where whole pairs stand up to the end, the first of them is two loops, and whole pairs stand after it.
use Prim.Native.Nat.{ℕ, ◌+◌, ◌-◌, ◌≤◌, ◌<◌}
use native.Mathlib.Omega.{arith}
use native.Mathlib.Decide.{dec_le}
use mathlib.Core.Path.{◌≡◌, refl, sym, ap, ap₂, ◌∙◌}
use mathlib.Core.Bool.{Bool, true, false, not}
use mathlib.Core.Logic.{◌⊎◌, inl, inr}
use mathlib.Core.List.{List, [], ◌∷◌, ◌++◌}
use lib.ListN.{length, take, drop, length-append, length-drop}
use lib.Seq.{drop-drop, length-take-le, take_at, drop_at}
use borrow.Author.Tests.{lt-ltb, le-ltb, not-false}
use denote.Ref.{Bor}
use Rattle.wire.specs.Bytes.{byte_at}
use Rattle.wire.specs.Choice.{pick, both, either}
use Rattle.wire.proofs.Choice.{both_right, never}
use Rattle.rules.specs.declared.Address.{Address}
use Rattle.wire.specs.Part.{part}
use Rattle.notification_rules.specs.Cut.{Cut, cut_of, stop, more, is_nil, any, odd, from_offset}
use Rattle.notification_rules.specs.Loop.{loop_size, descriptor_size, content, Pair, pairs_of, descriptors_of, descriptor_items}
use Rattle.notification_rules.specs.Target.{is_cover, cover_of, covers, hit, entry_size, entry_bytes, first_pair}
use Rattle.std.specs.List.{IsSplitAt}
use Rattle.notification_rules.proofs.Cuts.{nil_true, nil_false, nil_length}
use Rattle.notification_rules.proofs.Items.{loop_two, loops_stop, loops_more, stops, goes_on, descriptors_stop, descriptors_more, covered_any}
use Rattle.notification.proofs.Fits.{drop_take}
use Rattle.notification.specs.Readers.{loop_at, Has, Holds, Turns, pairs_from, pair_at, answers_by, pair_or_end, StopsAt}

pub cut_here : (s : List ℕ) (o : ℕ) → o ≤ length s → o + loop_size (drop o s) ≤ length s
    → cut_of loop_size (drop o s) ≡ more (loop_at s o) (cut_of loop_size (drop (o + loop_size (drop o s)) s))
unfolding loop_at
cut_here s o i h =
    let l : loop_size (drop o s) ≤ length (drop o s) = rw (length-drop o s) (omega arith) in
    loops_more (drop o s) l ∙ rw (drop-drop (loop_size (drop o s)) o s)

cut_none : (s : List ℕ) (o : ℕ) → o ≤ length s → length s < o + loop_size (drop o s) → cut_of loop_size (drop o s) ≡ stop (drop o s)
cut_none s o i h = loops_stop (drop o s) (rw (length-drop o s) (omega arith))

pub length_loop_at : (s : List ℕ) (o : ℕ) → o ≤ length s → o + loop_size (drop o s) ≤ length s
    → length (loop_at s o) ≡ loop_size (drop o s)
unfolding loop_at
length_loop_at s o i h = length-take-le (loop_size (drop o s)) (drop o s) (rw (length-drop o s) (omega arith))

-- the part that the code cuts is what the loop holds
pub content_at : (s : List ℕ) (o n : ℕ) → n ≡ loop_size (drop o s) → take (o + n - (o + 2)) (drop (o + 2) s) ≡ content (loop_at s o)
unfolding loop_at
content_at s o n e =
    let k : o + n - (o + 2) ≡ n - 2 = omega arith in
    rw (k, ← e, drop_take 2 n (drop o s), drop-drop 2 o s)

pub content_length : (s : List ℕ) (o n : ℕ) → n ≡ loop_size (drop o s) → o + loop_size (drop o s) ≤ length s
    → 2 + length (take (o + n - (o + 2)) (drop (o + 2) s)) ≡ loop_size (drop o s)
content_length s o n e h =
    let l : o + n - (o + 2) ≤ length (drop (o + 2) s) = rw (length-drop (o + 2) s) (omega arith) in
    rw (length-take-le (o + n - (o + 2)) (drop (o + 2) s) l) (omega (arith, loop_two (drop o s)))

module _ (s : List ℕ) (o : ℕ) (t : Turns s o) (l : o < length s) where
  pub first_whole : o + loop_size (drop o s) ≤ length s
  first_whole = go (dec_le (o + loop_size (drop o s)) (length s))
    where
      go : Dec (o + loop_size (drop o s) ≤ length s) → o + loop_size (drop o s) ≤ length s
      go (yes h) = h
      go (no h) =
          let e : is_nil (drop o s) ≡ true = ap (λ (c : Cut). is_nil c.left) (sym (cut_none s o t.inside (omega arith)))
          ∙ t.full in
          let z : length s - o ≡ 0 = sym (length-drop o s) ∙ nil_length (drop o s) e in
          absurd (omega arith)

  module _ (n : ℕ) (e : n ≡ o + loop_size (drop o s)) where
    one_cut : cut_of loop_size (drop o s) ≡ more (loop_at s o) (cut_of loop_size (drop n s))
    one_cut = rw e (cut_here s o t.inside first_whole)

    odd_rest : odd (cut_of loop_size (drop n s)).items ≡ true
    unfolding odd
    odd_rest = not-false (odd (cut_of loop_size (drop n s)).items) (ap (λ (c : Cut). odd c.items) (sym one_cut) ∙ t.even)

    pub second_whole : n + loop_size (drop n s) ≤ length s
    unfolding odd
    second_whole = go (dec_le (n + loop_size (drop n s)) (length s))
      where
        go : Dec (n + loop_size (drop n s) ≤ length s) → n + loop_size (drop n s) ≤ length s
        go (yes h) = h
        go (no h) =
            let w = first_whole in
            absurd (never (ap (λ (c : Cut). odd c.items) (sym (cut_none s n (omega arith) (omega arith))) ∙ odd_rest))

    module _ (m : ℕ) (f : m ≡ n + loop_size (drop n s)) where
      two_cut : cut_of loop_size (drop o s) ≡ more (loop_at s o) (more (loop_at s n) (cut_of loop_size (drop m s)))
      two_cut =
          let w = first_whole in
          one_cut ∙ rw f (ap (more (loop_at s o)) (cut_here s n (omega arith) second_whole))

      pub next_turns : Turns s m
      unfolding odd
      next_turns =
          let w = second_whole in
          record {
            inside = omega arith;
            full = ap (λ (c : Cut). is_nil c.left) (sym two_cut) ∙ t.full;
            even = not_not (odd (cut_of loop_size (drop m s)).items) (ap (λ (c : Cut). odd c.items) (sym two_cut) ∙ t.even);
          }
        where
          not_not : (b : Bool) → not (not b) ≡ false → b ≡ false
          not_not true h = absurd (never (sym h))
          not_not false h = refl

      pairs_here : pairs_from s o ≡ pair_at s o ∷ pairs_from s m
      unfolding pairs_from pairs_of from_offset pair_at
      pairs_here =
          let w = first_whole in
          let p : length (loop_at s o) ≡ loop_size (drop o s) = length_loop_at s o t.inside w in
          let q : length (loop_at s n) ≡ loop_size (drop n s) = length_loop_at s n (omega arith) second_whole in
          rw (two_cut, p, ← e, q, ← f)

      module _ (test : Pair → Bool) where
        pub skips : test (pair_at s o) ≡ false → first_pair test (pairs_from s m) ≡ first_pair test (pairs_from s o)
        unfolding first_pair pick
        skips z = rw (pairs_here, z)

        pub hits : test (pair_at s o) ≡ true → pair_or_end s o ≡ first_pair test (pairs_from s o)
        unfolding first_pair pick pair_or_end
        hits z = rw (pairs_here, z, lt-ltb o (length s) l)

pub ends : (s : List ℕ) (o : ℕ) (test : Pair → Bool) → o ≤ length s → length s ≤ o → pair_or_end s o ≡ first_pair test (pairs_from s o)
unfolding pair_or_end first_pair pick pairs_from from_offset pairs_of
ends s o test h g =
    rw (le-ltb o (length s) g, cut_none s o h (omega (arith, loop_two (drop o s))))

-- one of two tests holds, or none does
pub one_holds : (t u : Bool) → (t ≡ true) ⊎ ((t ≡ false) × (u ≡ true)) → either t u ≡ true
unfolding either
one_holds t u (inl e) = rw e
one_holds t u (inr e) = rw (e.0, e.1)

pub none_holds : (t u : Bool) → t ≡ false → u ≡ false → either t u ≡ false
unfolding either
none_holds t u e f = rw (e, f)

-- a pair that begins before the end ends before it
pub pair_whole : {s x y : Bor (List ℕ)} {o : ℕ} → Turns s.now o → o < length s.now → Holds s o x → Holds s (o + 2 + length x.now) y
    → o + 4 + length x.now + length y.now ≤ length s.now
pair_whole {s} {x} {y} {o} t l h k = omega (arith, second_whole s.now o t l (o + 2 + length x.now) (omega (arith, h.size)), k.size)

-- ---- the pair at o, before the end, with what the code has read of it: what its two loops hold, and whether the second has a location
pub record Seen (s : Bor (List ℕ)) (o : ℕ) (x y : Bor (List ℕ)) (b : Bool) : Type 0 where
  turns : Turns s.now o
  before : o < length s.now
  target : Holds s o x
  operational : Holds s (o + 2 + length x.now) y
  located : Has y.now b

pub seen : {s x y : Bor (List ℕ)} {o : ℕ} {b : Bool} → Turns s.now o → o < length s.now → Holds s o x → Holds s (o + 2 + length x.now) y
    → Has y.now b → Seen s o x y b
seen t l h k e = record { turns = t; before = l; target = h; operational = k; located = e }

module _ (device : Address) (general : Bool) (s : Bor (List ℕ)) (o : ℕ) (x y : Bor (List ℕ)) (b : Bool) (q : Seen s o x y b) where
  abbrev test : Pair → Bool
  test = answers_by device general

  abbrev here : ℕ
  here = o + 2 + length x.now

  abbrev after : ℕ
  after = o + 4 + length x.now + length y.now

  second : here ≡ o + loop_size (drop o s.now)
  second = omega (arith, q.target.size)

  next : after ≡ here + loop_size (drop here s.now)
  next = omega (arith, q.operational.size)

  answers_by_is : (k : Bool) → is_cover (cover_of device (part o (loop_at s.now o))) ≡ k → test (pair_at s.now o) ≡ both k (either b general)
  unfolding answers_by pair_at descriptors_of
  answers_by_is k h = rw (h, ← second, ← q.operational.is.bytes, ← q.located (here + 2))

  cover_empty : length x.now ≡ 0 → is_cover (cover_of device (part o (loop_at s.now o))) ≡ true
  unfolding cover_of pick is_cover
  cover_empty z = rw (← q.target.is.bytes, nil_true x.now z)

  cover_some : (length x.now ≡ 0 → ⊥)
      → is_cover (cover_of device (part o (loop_at s.now o))) ≡ any (covers device) (descriptor_items x.now)
  unfolding cover_of pick descriptors_of
  cover_some z = rw (← q.target.is.bytes, nil_false x.now (pos x.now z), covered_any device (o + 2) (descriptor_items x.now))
    where
      pos : (w : List ℕ) → (length w ≡ 0 → ⊥) → 0 < length w
      pos [] z = absurd (z refl)
      pos (v ∷ w) z = omega arith

  pub answers_empty : length x.now ≡ 0 → either b general ≡ true → test (pair_at s.now o) ≡ true
  unfolding both
  answers_empty z h = answers_by_is true (cover_empty z) ∙ h

  pub answers_some : (length x.now ≡ 0 → ⊥) → either b general ≡ true → (k : Bool) → any (covers device) (descriptor_items x.now) ≡ k
      → test (pair_at s.now o) ≡ k
  answers_some z h k a = answers_by_is k (cover_some z ∙ a) ∙ rw h (both_right k)

  pub answers_nowhere : either b general ≡ false → test (pair_at s.now o) ≡ false
  unfolding both
  answers_nowhere h = answers_by_is _ refl ∙ rw h (and_false (is_cover (cover_of device (part o (loop_at s.now o)))))
    where
      and_false : (k : Bool) → both k false ≡ false
      and_false true = refl
      and_false false = refl

  -- with what the search has passed from `from` on, it stops here, or goes on
  module _ (from : ℕ) (passed : first_pair test (pairs_from s.now o) ≡ first_pair test (pairs_from s.now from)) where
    pub stops_here : test (pair_at s.now o) ≡ true → StopsAt device general s.now from o
    stops_here z = record { first = hits s.now o q.turns q.before here second after next test z ∙ passed; turns = q.turns }

    pub passes : test (pair_at s.now o) ≡ false → Turns s.now after × (first_pair test (pairs_from s.now after) ≡ first_pair test (pairs_from s.now from))
    passes z = (next_turns s.now o q.turns q.before here second after next, skips s.now o q.turns q.before here second after next test z ∙ passed)

-- ---- descriptors of a target loop
module _ (device : Address) (s : List ℕ) (n : ℕ) (e : n ≡ descriptor_size s) where
  pub no_descriptor : length s < n → any (covers device) (descriptor_items s) ≡ false
  unfolding any
  no_descriptor h = ap (λ (c : Cut). any (covers device) c.items) (descriptors_stop s (omega arith))

  module _ (d b : List ℕ) (h : IsSplitAt s n d b) where
    one_descriptor : any (covers device) (descriptor_items s) ≡ pick (covers device d) true (any (covers device) (descriptor_items b))
    unfolding any
    one_descriptor =
        rw (h.1, h.2, e) (ap (λ (c : Cut). any (covers device) c.items) (descriptors_more s (omega (arith, h.0))))

    pub descriptor_hit : covers device d ≡ true → any (covers device) (descriptor_items s) ≡ true
    unfolding pick
    descriptor_hit z = rw (one_descriptor, z)

    pub descriptor_miss : covers device d ≡ false → any (covers device) (descriptor_items b) ≡ any (covers device) (descriptor_items s)
    unfolding pick
    descriptor_miss z = rw (one_descriptor, z)

-- ---- entries of a descriptor, of which x stands at the front of what is left, a, and b after it
module _ (device : Address) (d : List ℕ) (n : ℕ) (g : 0 < n) where
  abbrev pub struck : List ℕ → Bool
  struck a = any (hit device d) (cut_of (λ _. n) a).items

  pub no_entry : (a : List ℕ) → length a < n → struck a ≡ false
  unfolding any
  no_entry a h = ap (λ (c : Cut). any (hit device d) c.items) (stops (λ _. n) (λ _. g) a h)

  module _ (a x b : List ℕ) (e : a ≡ x ++ b) (l : length x ≡ n) where
    one_entry : struck a ≡ pick (hit device d x) true (struck b)
    unfolding any
    one_entry =
        let h : n ≤ length a = omega (arith, ap length e ∙ length-append x b) in
        ap (λ (c : Cut). any (hit device d) c.items) (goes_on (λ _. n) (λ _. g) a h)
        ∙ rw (e, take_at x b n l, drop_at x b n l)

    pub entry_hit : hit device d x ≡ true → struck a ≡ true
    unfolding pick
    entry_hit z = rw (one_entry, z)

    pub entry_miss : hit device d x ≡ false → struck b ≡ struck a
    unfolding pick
    entry_miss z = rw (one_entry, z)

-- what the entries say is what the descriptor says
pub covers_by : (device : Address) (d a : List ℕ) (t n : ℕ) (k : Bool) → t ≡ byte_at d 0 → n ≡ entry_size t → a ≡ entry_bytes d
    → any (hit device d) (cut_of (λ _. n) a).items ≡ k → covers device d ≡ k
unfolding covers
covers_by device d a t n k et en ea h =
    ap₂ (λ (m : ℕ) (z : List ℕ). any (hit device d) (cut_of (λ _. m) z).items) (sym (en ∙ ap entry_size et)) (sym ea) ∙ h
