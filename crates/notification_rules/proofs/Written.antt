-- Bytes that are items back to back, each as long as its size says, are cut back into these items.
use Prim.Native.Nat.{ℕ, ◌≤◌, ◌<◌}
use native.Mathlib.Omega.{arith}
use mathlib.Core.Path.{◌≡◌, refl, ◌∙◌}
use mathlib.Core.List.{List, [], ◌∷◌, ◌++◌, flatten, map, Memᴰ}
use lib.ListN.{length, length-append}
use lib.Seq.{take_at, drop_at}
use Rattle.notification_rules.specs.Cut.{Size, cut_of}
use Rattle.notification_rules.proofs.Items.{stops, goes_on}

-- ---- for any size and any way of writing
module _ (size : Size) (some : (s : List ℕ) → 0 < size s) {A : Type 0} (write : A → List ℕ) (good : A → Type 0)
    (long : (a : A) → good a → (s : List ℕ) → size (write a ++ s) ≡ length (write a)) where
  pub cut_back : (xs : List A) → ((a : A) → Memᴰ a xs → good a)
      → cut_of size (flatten (map write xs)) ≡ record { items = map write xs; left = [] }
  unfolding flatten
  cut_back [] g = stops size some [] (some [])
  cut_back (a ∷ xs) g =
      let n : size (write a ++ flatten (map write xs)) ≡ length (write a) = long a (g a (Memᴰ.head refl))
      (flatten (map write xs)) in
      let w : size (write a ++ flatten (map write xs)) ≤ length (write a ++ flatten (map write xs)) = omega
      (arith, length-append (write a) (flatten (map write xs))) in
      goes_on size some (write a ++ flatten (map write xs)) w
      ∙ rw (
        n,
        take_at (write a) (flatten (map write xs)) (length (write a)) refl,
        drop_at (write a) (flatten (map write xs))
            (length (write a)) refl,
        cut_back xs (λ b m. g b (Memᴰ.tail m)),
      )
