-- Parts of lists put side by side: each law is the library's on `take` and `drop`, at the lengths that the code has.
use Rattle.std.proofs.Math.Decide.{dec_le}
use Rattle.std.proofs.Math.Seq.{append_snoc, set_at, take-length, take-suc, drop-length}
use Rattle.std.proofs.Common.{ℕ, suc, ◌+◌, ◌-◌, ◌≤◌, ◌<◌, min, add-one, arith, ◌≡◌, List, ◌++◌, get_or, set, length, take, drop, drop-cons, drop_of_length-le, length-drop, length-take-le, take_all}
use Rattle.wire.specs.Bytes.{over}

-- the part of a slice from k on is what `drop k` leaves
pub from : (k : ℕ) (s : List ℕ) → take (length s - k) (drop k s) ≡ drop k s
from k s = take_all (length s - k) (drop k s) (simp length-drop (omega arith))

-- one byte more of s over d
pub over_step : (s d : List ℕ) (i : ℕ) → i < length s → i < length d
    → set (take i s ++ drop i d) i (get_or s i 0) ≡ take (i + 1) s ++ drop (i + 1) d
over_step s d i hs hd =
    let l : length (take i s) ≡ i = length-take-le i s (omega arith) in
    rw (add-one i, drop-cons d i 0 hd, set_at (take i s) (get_or d i 0) (drop (suc i) d) (get_or s i 0) i l, take-suc s i 0 hs, append_snoc)

-- all of s that fits is over d
pub over_end : (s d : List ℕ) (n : ℕ) → n ≡ min (length s) (length d) → take n s ++ drop n d ≡ over s d
over_end s d n e = go (dec_le (length s) (length d))
  where
    go : Dec (length s ≤ length d) → take n s ++ drop n d ≡ over s d
    go (yes h) = let m : n ≡ length s = omega arith in rw (m, take-length, take_all (length d) s h)
    go (no h) =
        let m : n ≡ length d = omega arith in
        let l : length d ≤ length s = omega arith in
        rw (m, drop-length, drop_of_length-le d l)
