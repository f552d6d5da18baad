-- A descriptor's entries are cut back into the addresses that were written, the mask stands before them; other tags have none.
use Prim.Native.Nat.{ℕ, zero, suc, ◌+◌, ◌*◌, ◌^◌, ◌≤◌, ◌<◌}
use native.Mathlib.Omega.{arith}
use mathlib.Core.Path.{◌≡◌, refl, sym, ap, ap₂, ◌∙◌}
use mathlib.Core.Bool.{Bool, true, false}
use mathlib.Core.List.{List, [], ◌∷◌, ◌++◌, flatten, map, Memᴰ}
use lib.ListN.{length, get_or-append}
use lib.Seq.{drop_at}
use borrow.Author.Tests.{ne_eqb}
use Rattle.wire.specs.Bytes.{number_at}
use Rattle.wire.specs.Choice.{pick}
use Rattle.notification_rules.specs.Cut.{Cut, cut_of, any}
use Rattle.rules.specs.declared.Address.{Address}
use Rattle.notification_rules.specs.Range.{in_range}
use Rattle.notification_rules.specs.Target.{mac_address, mac_address_range, same_under, entry_size, entry_bytes, hit, covers}
use Rattle.notification_rules.specs.Loop.{tag}
use Rattle.notification_rules.proofs.Items.{stops, entry_some}
use Rattle.notification_rules.proofs.Written.{cut_back}

same_list : (xs : List (List ℕ)) → map (λ x. x) xs ≡ xs
same_list [] = refl
same_list (x ∷ xs) = ap (λ (ys : List (List ℕ)). x ∷ ys) (same_list xs)

-- entries of n bytes, back to back
entries_back : (n : ℕ) → 0 < n → (xs : List (List ℕ)) → ((e : List ℕ) → Memᴰ e xs → length e ≡ n)
    → (cut_of (λ _. n) (flatten xs)).items ≡ xs
entries_back n g xs h =
    ap (λ (ys : List (List ℕ)). (cut_of (λ _. n) (flatten ys)).items) (sym (same_list xs))
    ∙ ap (λ (c : Cut). c.items) (cut_back (λ _. n) (λ s. g) (λ x. x) (λ x. length x ≡ n) (λ x e s. sym e) xs h)
    ∙ same_list xs

number_front : (n : ℕ) (s t : List ℕ) (i : ℕ) → i + n ≤ length s → number_at n (s ++ t) i ≡ number_at n s i
unfolding number_at
number_front zero s t i h = refl
number_front (suc n) s t i h =
    ap₂ (λ (b r : ℕ). b * 256 ^ n + r) (get_or-append s t 0 i (omega arith)) (number_front n s t (i + 1) (omega arith))

same_tests : {A : Type 0} (f g : A → Bool) → ((x : A) → f x ≡ g x) → (xs : List A) → any f xs ≡ any g xs
unfolding any
same_tests f g e [] = refl
same_tests f g e (x ∷ xs) = ap₂ (λ (b r : Bool). pick b true r) (e x) (same_tests f g e xs)

-- a 0x07 covers by one of its addresses, under its mask
pub masks_cover : (device : Address) (mask : List ℕ) (entries : List (List ℕ)) → length mask ≡ 6
    → ((e : List ℕ) → Memᴰ e entries → length e ≡ 6)
    → covers device (0x07 ∷ length (mask ++ flatten entries) ∷ (mask ++ flatten entries)) ≡ any (same_under device mask) entries
unfolding covers entry_bytes entry_size pick hit same_under
masks_cover device mask xs m h =
    ap (λ (a : List ℕ). any (hit device d) (cut_of (λ _. 6) a).items) (drop_at mask (flatten xs) 6 m)
    ∙ ap (any (hit device d)) (entries_back 6 (omega arith) xs h)
    ∙ same_tests (hit device d) (same_under device mask) same xs
  where
    d : List ℕ
    d = 0x07 ∷ length (mask ++ flatten xs) ∷ (mask ++ flatten xs)

    same : (e : List ℕ) → hit device (0x07 ∷ length (mask ++ flatten xs) ∷ (mask ++ flatten xs)) e ≡ same_under device mask e
    same e = rw (number_front 6 mask (flatten xs) 0 (omega (arith, m)))

-- a 0x0E by one of its pairs
pub ranges_cover : (device : Address) (entries : List (List ℕ)) → ((e : List ℕ) → Memᴰ e entries → length e ≡ 12)
    → covers device (0x0E ∷ length (flatten entries) ∷ flatten entries) ≡ any (in_range device) entries
unfolding covers entry_bytes entry_size pick hit
ranges_cover device xs h =
    ap (any (hit device (0x0E ∷ length (flatten xs) ∷ flatten xs))) (entries_back 12 (omega arith) xs h)
    ∙ same_tests (hit device (0x0E ∷ length (flatten xs) ∷ flatten xs)) (in_range device) (λ e. refl) xs

-- ---- another tag has no entries, and covers nobody
no_entries : (d : List ℕ) → (tag d ≡ mac_address → ⊥) → (tag d ≡ mac_address_range → ⊥) → entry_bytes d ≡ []
unfolding entry_bytes pick
no_entries d m r = rw (ne_eqb (tag d) mac_address m, ne_eqb (tag d) mac_address_range r)

pub other_covers : (device : Address) (d : List ℕ) → (tag d ≡ mac_address → ⊥) → (tag d ≡ mac_address_range → ⊥) → covers device d ≡ false
unfolding covers any
other_covers device d m r =
    ap (λ (a : List ℕ). any (hit device d) (cut_of (λ _. entry_size (tag d)) a).items) (no_entries d m r)
    ∙ ap (λ (c : Cut). any (hit device d) c.items) (stops (λ _. entry_size (tag d)) (λ _. entry_some (tag d)) []
    (entry_some (tag d)))
