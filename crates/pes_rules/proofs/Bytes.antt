-- What is cut out of bytes is bytes: each place of a part is a place of the whole.
use Prim.Native.Nat.{ℕ, zero, suc, ◌+◌, ◌-◌, ◌≤◌, ◌<◌}
use native.Mathlib.Nat.{sub-zero, suc-sub-suc, zero-sub}
use native.Mathlib.Decide.{dec_le}
use native.Mathlib.Omega.{arith}
use mathlib.Core.Path.{◌≡◌, refl, sym}
use mathlib.Core.List.{List, [], ◌∷◌}
use lib.Dec.{lit<}
use lib.ListN.{length, take, drop, length-take, get_or-eq_default}
use lib.Seq.{get_or-drop, get_or-take, slice}
use Rattle.wire.specs.Bytes.{Bytes, byte_at}

-- a part, as code cuts it
pub slice_is : (f t : ℕ) (s : List ℕ) → slice f t s ≡ take (t - f) (drop f s)
slice_is zero t s = rw (sub-zero t)
slice_is (suc f) zero s = rw (zero-sub (suc f))
slice_is (suc f) (suc t) [] = sym (rw (suc-sub-suc t f) (nil (t - f)))
  where
    nil : (n : ℕ) → ◌≡◌ {A = List ℕ} (take n []) []
    nil zero = refl
    nil (suc n) = refl
slice_is (suc f) (suc t) (x ∷ s) = rw (suc-sub-suc t f) (slice_is f t s)

pub slice_bytes : (f t : ℕ) (s : List ℕ) → Bytes s → Bytes (slice f t s)
slice_bytes f t s h i = rw (get_or-drop f (take t s) i 0) (go (dec_le (suc (f + i)) t))
  where
    go : Dec (f + i < t) → byte_at (take t s) (f + i) < 256
    go (yes p) = rw (get_or-take t s (f + i) 0 p) (h (f + i))
    go (no p) =
        let l : length (take t s) ≤ f + i = omega (arith, length-take t s) in
        rw (get_or-eq_default (take t s) 0 l) (lit< tt)
