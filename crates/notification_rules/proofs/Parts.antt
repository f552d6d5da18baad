-- The items of a cut, joined, are the bytes that were cut; so each of them stands where `from_offset` puts it.
use Prim.Native.Nat.{ℕ, zero, suc, ◌+◌, ◌≤◌, ◌<◌}
use native.Mathlib.Omega.{arith}
use mathlib.Core.Path.{◌≡◌, refl, sym, ap, ◌∙◌}
use mathlib.Core.Bool.{Bool, true, false}
use mathlib.Core.Logic.{◌⊎◌, inl, inr}
use mathlib.Core.List.Memᴰ
use mathlib.Core.List.{List, [], ◌∷◌, ◌++◌, append_assoc, flatten, Memᴰ}
use lib.ListN.{length, take, drop, length-append, length-drop, take-append-drop}
use lib.Seq.{length-take-le, take_at, drop_at}
use Rattle.wire.specs.Bytes.{number_at}
use Rattle.wire.specs.Choice.{both}
use Rattle.wire.proofs.Choice.{never}
use Rattle.wire.specs.Part.{Part, part}
use Rattle.notification_rules.specs.Cut.{Size, Cut, stop, more, whole, cut_of, every, from_offset}
use Rattle.notification_rules.specs.Loop.{descriptor_size, loop_size, descriptor_items}
use Rattle.notification_rules.proofs.Cuts.{whole_true, cut_stop, cut_more}
use Rattle.notification_rules.proofs.Items.{front, descriptor_two, loop_two}

-- ---- what holds of nothing, and of an item and what follows it, holds of a cut
module _ (size : Size) (P : List ℕ → Cut → Type 0)
    (none : (s : List ℕ) → whole size s ≡ false → P s (stop s))
    (some : (s : List ℕ) → whole size s ≡ true → P (drop (size s) s) (cut_of size (drop (size s) s))
    → P s (more (take (size s) s) (cut_of size (drop (size s) s)))) where
  up_to : (k : ℕ) (s : List ℕ) → length s < k → P s (cut_of size s)
  up_to zero s h = absurd (omega arith)
  up_to (suc k) s h = go (whole size s) refl (up_to k (drop (size s) s))
    where
      go : (b : Bool) → whole size s ≡ b → (length (drop (size s) s) < k → P (drop (size s) s) (cut_of size (drop (size s) s)))
          → P s (cut_of size s)
      go true e ih = rw (cut_more size s e) (some s e (ih (rw (length-drop (size s) s) (omega (arith, whole_true size s e)))))
      go false e ih = rw (cut_stop size s e) (none s e)

  pub induct : (s : List ℕ) → P s (cut_of size s)
  induct s = up_to (suc (length s)) s (omega arith)

-- the items, joined, and what is left
pub rejoined : (size : Size) (s : List ℕ) → flatten (cut_of size s).items ++ (cut_of size s).left ≡ s
unfolding flatten
rejoined size =
    induct size (λ s c. flatten c.items ++ c.left ≡ s) (λ s h. refl)
    λ s h ih. append_assoc (take (size s) s) _ _ ∙ ap (λ (l : List ℕ). take (size s) s ++ l) ih ∙ take-append-drop (size s) s

-- an item is as long as it says, where its own bytes say it
item_long : (size : Size) → ((s : List ℕ) → size (take (size s) s) ≡ size s) → (s d : List ℕ) → Memᴰ d (cut_of size s).items
    → length d ≡ size d
item_long size own s d =
    induct size (λ s c. Memᴰ d c.items → length d ≡ size d) (λ s h m. absurd (Memᴰ.not-nil m))
    (λ s h ih m. go s h ih (Memᴰ.cases_cons m)) s
  where
    go : (s : List ℕ) → whole size s ≡ true → (Memᴰ d (cut_of size (drop (size s) s)).items → length d ≡ size d)
        → (d ≡ take (size s) s) ⊎ Memᴰ d (cut_of size (drop (size s) s)).items → length d ≡ size d
    go s h ih (inl e) = rw (e, length-take-le (size s) s (whole_true size s h).1) (sym (own s))
    go s h ih (inr m) = ih m

-- a descriptor's length is its second byte
pub descriptor_long : (s d : List ℕ) → Memᴰ d (descriptor_items s) → length d ≡ descriptor_size d
unfolding descriptor_size
descriptor_long = item_long descriptor_size own
  where
    own : (s : List ℕ) → descriptor_size (take (descriptor_size s) s) ≡ descriptor_size s
    own s = ap (λ (n : ℕ). 2 + n) (front (descriptor_size s) 1 s (omega (arith, descriptor_two s)))

-- a loop's length is in its first two bytes
pub loop_long : (s l : List ℕ) → Memᴰ l (cut_of loop_size s).items → length l ≡ loop_size l
unfolding loop_size number_at
loop_long = item_long loop_size own
  where
    own : (s : List ℕ) → loop_size (take (loop_size s) s) ≡ loop_size s
    own s =
        rw (front (loop_size s) 0 s (omega (arith, loop_two s)), front (loop_size s) 1 s (omega (arith, loop_two s)))

-- ---- members
pub every_one : {A : Type 0} (f : A → Bool) (xs : List A) (x : A) → every f xs ≡ true → Memᴰ x xs → f x ≡ true
unfolding every both
every_one f [] x h m = absurd (Memᴰ.not-nil m)
every_one f (y ∷ ys) x h m = go (f y) refl h (every_one f ys x) (Memᴰ.cases_cons m)
  where
    go : (b : Bool) → f y ≡ b → both b (every f ys) ≡ true → (every f ys ≡ true → Memᴰ x ys → f x ≡ true)
        → (x ≡ y) ⊎ Memᴰ x ys → f x ≡ true
    go true e h ih (inl q) = ap f q ∙ e
    go true e h ih (inr m) = ih h m
    go false e h ih q = absurd (never h)

pub offset_member : (o : ℕ) (bs : List (List ℕ)) (p : Part) → Memᴰ p (from_offset o bs) → Memᴰ p.bytes bs
unfolding from_offset
offset_member o [] p m = absurd (Memᴰ.not-nil m)
offset_member o (b ∷ bs) p m = go (Memᴰ.cases_cons m) (offset_member (o + length b) bs p)
  where
    go : (p ≡ part o b) ⊎ Memᴰ p (from_offset (o + length b) bs)
        → (Memᴰ p (from_offset (o + length b) bs) → Memᴰ p.bytes bs) → Memᴰ p.bytes (b ∷ bs)
    go (inl e) ih = Memᴰ.head (ap (λ (q : Part). q.bytes) e)
    go (inr n) ih = Memᴰ.tail (ih n)

-- ---- where parts stand
-- the part's bytes stand in s at its offset: what stands before and after it
pub record Stands (s : List ℕ) (p : Part) : Type 0 where
  pub front : List ℕ
  pub back : List ℕ
  pub is : s ≡ front ++ (p.bytes ++ back)
  pub offset : p.offset ≡ length front

-- of two that stand side by side, each stands
pub stands_first : (s : List ℕ) (o : ℕ) (x y : List ℕ) → Stands s (part o (x ++ y)) → Stands s (part o x)
stands_first s o x y t =
    record {
      front = t.front;
      back = y ++ t.back;
      is = t.is ∙ ap (λ (l : List ℕ). t.front ++ l) (append_assoc x y t.back);
      offset = t.offset;
    }

pub stands_second : (s : List ℕ) (o : ℕ) (x y : List ℕ) → Stands s (part o (x ++ y)) → Stands s (part (o + length x) y)
stands_second s o x y t =
    record {
      front = t.front ++ x;
      back = t.back;
      is = t.is ∙ ap (λ (l : List ℕ). t.front ++ l) (append_assoc x y t.back) ∙ sym (append_assoc t.front x (y ++ t.back));
      offset = ap (λ (n : ℕ). n + length x) t.offset ∙ sym (length-append t.front x);
    }

pub offset_stands : (s : List ℕ) (o : ℕ) (bs : List (List ℕ)) (left : List ℕ) (p : Part)
    → Stands s (part o (flatten bs ++ left)) → Memᴰ p (from_offset o bs) → Stands s p
unfolding from_offset flatten
offset_stands s o [] left p t m = absurd (Memᴰ.not-nil m)
offset_stands s o (b ∷ bs) left p t m =
    go (Memᴰ.cases_cons m) (offset_stands s (o + length b) bs left p (stands_second s o b (flatten bs ++ left) whole))
  where
    whole : Stands s (part o (b ++ (flatten bs ++ left)))
    whole = rw (← append_assoc b (flatten bs) left) t

    go : (p ≡ part o b) ⊎ Memᴰ p (from_offset (o + length b) bs) → (Memᴰ p (from_offset (o + length b) bs) → Stands s p) → Stands s p
    go (inl e) ih = rw e (stands_first s o b (flatten bs ++ left) whole)
    go (inr n) ih = ih n

-- without its first bytes a part stands as many bytes later
pub stands_after : (s : List ℕ) (p : Part) (k : ℕ) → k ≤ length p.bytes → Stands s p
    → Stands s (part (p.offset + k) (drop k p.bytes))
stands_after s p k h t =
    record {
      front = t.front ++ take k p.bytes;
      back = t.back;
      is = t.is ∙ ap (λ (l : List ℕ). t.front ++ (l ++ t.back)) (sym (take-append-drop k p.bytes))
          ∙ ap (λ (l : List ℕ). t.front ++ l) (append_assoc (take k p.bytes) (drop k p.bytes) t.back)
          ∙ sym (append_assoc t.front (take k p.bytes) (drop k p.bytes ++ t.back));
      offset = omega (arith, t.offset, length-append t.front (take k p.bytes), length-take-le k p.bytes h);
    }

-- its bytes are those that stand at its offset
pub stands_bytes : (s : List ℕ) (p : Part) (n : ℕ) → length p.bytes ≡ n → Stands s p → take n (drop p.offset s) ≡ p.bytes
stands_bytes s p n e t =
    ap (λ (l : List ℕ). take n (drop p.offset l)) t.is
    ∙ ap (λ (l : List ℕ). take n l) (drop_at t.front (p.bytes ++ t.back) p.offset (sym t.offset))
    ∙ take_at p.bytes t.back n e
