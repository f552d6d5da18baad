-- What is put where the last put ended stands after it, so puts in a row are one put of all their bytes.
use Rattle.std.proofs.Math.Decide.{dec_le}
use Rattle.std.proofs.Math.Seq.{take-length}
use Rattle.std.proofs.lemmas.List.Edits.{drop-paste, length-paste, take-paste}
use Rattle.std.proofs.Common.{ℕ, ◌+◌, ◌-◌, ◌≤◌, le_refl, arith, ◌≡◌, refl, sym, ap, ◌∙◌, List, ◌++◌, append_assoc, length, take, drop, length-append, drop_at, drop-drop, length-take-le, take_at}
use Rattle.wire.specs.Puts.{Puts, PutsIfRoom}

module _ {b s b' : List ℕ} {at r : ℕ} (p : Puts b at s r b') where
  inside : at ≤ length b
  inside = omega (arith, p.room)

  pub puts_length : length b' ≡ length b
  puts_length = ap length p.bytes ∙ length-paste b at s (length s) p.room (le_refl (length s))

  -- the buffer up to where the bytes end
  pub puts_front : take r b' ≡ take at b ++ s
  puts_front = rw (p.end, p.bytes) (take-paste b at s (length s) inside (le_refl (length s)) ∙ rw (take-length s))

  -- what was put is read back
  pub puts_read : take (r - at) (drop at b') ≡ s
  puts_read =
      let size : r - at ≡ length s = omega (arith, p.end) in
      let front : length (take at b) ≡ at = length-take-le at b inside in
      let rest : List ℕ = drop (at + length s) b in
      rw (size, p.bytes, take-length s, append_assoc (take at b) s rest, drop_at (take at b) (s ++ rest) at front)
      (take_at s rest (length s) refl)

  -- one put after another
  pub puts_then : {t b'' : List ℕ} {q : ℕ} → Puts b' r t q b'' → Puts b at (s ++ t) q b''
  puts_then {t} {b''} {q} k =
      let size = length-append s t in
      let sum : at + length s + length t ≡ at + (length s + length t) = omega arith in
      let rest : drop (r + length t) b' ≡ drop (at + length (s ++ t)) b =
      rw (p.end, p.bytes, size, ← drop-drop (length t) (at + length s), drop-paste b at s (length s) inside (le_refl (length s)))
      (drop-drop (length t) (at + length s) b ∙ ap (λ (n : ℕ). drop n b) sum) in
      record {
        room = omega (arith, size, p.end, k.room, puts_length);
        end = omega (arith, size, p.end, k.end);
        bytes = k.bytes ∙ rw (puts_front, rest, take-length t, take-length (s ++ t), append_assoc (take at b) s t);
      }

-- any two ways to put the same bytes are one
pub puts_once : {b s c d : List ℕ} {at r q : ℕ} → PutsIfRoom b at s r c → PutsIfRoom b at s q d → (r ≡ q) × (c ≡ d)
puts_once {b} {s} {c} {d} {at} {r} {q} x y = go (dec_le (at + length s) (length b))
  where
    go : Dec (at + length s ≤ length b) → (r ≡ q) × (c ≡ d)
    go (yes h) = ((x.fits h).end ∙ sym (y.fits h).end, (x.fits h).bytes ∙ sym (y.fits h).bytes)
    go (no h) =
        let l = x.short (omega arith) in
        let m = y.short (omega arith) in
        (l.0 ∙ sym m.0, l.1 ∙ sym m.1)
