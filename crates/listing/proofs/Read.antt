-- A read after the bytes at hand leaves them the same.
use Rattle.std.proofs.Common.{◌≡◌, ℕ, Result, ◌+◌, ◌-◌, ◌≤◌, Bool, true, false, List, ◌++◌, length, take, drop, sym, refl, ap, ◌∙◌, arith, length-drop, take-append-drop, length-take-le, take-take, eqb-true}
use lib.Seq.{take-append-le, drop-append-le}
use Rattle.wire.specs.Choice.{either}
use Rattle.wire.proofs.Choice.{never}
use Rattle.stream.specs.declared.Failure.{Failure}
use Rattle.stream.specs.Words.{count_of}
use Rattle.listing.specs.declared.Window.{Window}
use Rattle.listing.specs.Walk.{has_ended, Came, Kept}

-- what stands before e is the same, whatever is read after it
front : (b ys : List ℕ) (s e : ℕ) → s ≤ e → e ≤ length b → take (e - s) (drop s (take e b ++ ys)) ≡ take (e - s) (drop s (take e b))
front b ys s e h k =
    let l : length (take e b) ≡ e = length-take-le e b k in
    ap (take (e - s)) (drop-append-le s (take e b) ys (omega arith))
    ∙ take-append-le (e - s) (drop s (take e b)) ys (omega (arith, length-drop s (take e b)))

hand_read : (b ys : List ℕ) (s e : ℕ) → s ≤ e → e ≤ length b → take (e - s) (drop s (take e b ++ ys)) ≡ take (e - s) (drop s b)
hand_read b ys s e h k =
    front b ys s e h k
    ∙ sym (front b (drop e b) s e h k)
    ∙ ap (λ (l : List ℕ). take (e - s) (drop s l)) (take-append-drop e b)

-- what was known to have failed before stays so
pub still : (t : Bool) {u : Bool} → u ≡ true → either t u ≡ true
unfolding either
still true e = refl
still false e = e

-- w as it was before a read, v as it is after it, and r with what it gave
pub kept_read : {got : Result ℕ Failure} {v r : Window} (w : Window) (ys : List ℕ) → has_ended w.rest ≡ false
    → v.bytes ≡ take w.end w.bytes ++ ys → v.start ≡ w.start → v.end ≡ w.end → v.rest ≡ w.rest → Came v got r → Kept w r
kept_read {got = got} {v = v} {r = r} w ys o q x y t k =
    let b : List ℕ = w.bytes in
    let s : ℕ = w.start in
    let e : ℕ = w.end in
    let n : ℕ = count_of got in
    let h : e - s ≤ e + n - s = omega (arith, w.order) in
    let f : r.start ≡ s = k.start ∙ x in
    let g : r.end ≡ e + n = k.end ∙ rw y in
    record {
      left = λ rest p. record {
        front = sym (take-take (e - s) (e + n - s) rest h)
            ∙ ap (take (e - s)) (rw (f, g, k.bytes, q) at p.front)
            ∙ take-take (e - s) (e + n - s) (drop s (take e b ++ ys)) h
            ∙ hand_read b ys s e w.order w.within;
        all = λ z. absurd (never (sym o ∙ z));
      };
      ended = λ z. omega (arith, eqb-true n 0 (sym k.ended ∙ z), f, g);
      unreadable = λ z. k.unreadable ∙ still _ (rw t z);
    }
