-- No refusal has the number 0 or 5, so a packet is answered 5 exactly where no line applies.
use Prim.Native.Nat.{ℕ, ◌≤◌}
use native.Mathlib.Omega.{arith}
use mathlib.Core.Path.{◌≡◌, refl}
use mathlib.Core.List.{List, []}
use mathlib.Core.Bool.{Bool, true, false}
use lib.ListN.{length}
use lib.Dec.{eqb, lit<}
use borrow.Author.Tests.{eq-eqb, eqb-true, ltb-false, ne_eqb}
use Rattle.wire.specs.Choice.{pick, both, first, first_of, without}
use Rattle.wire.proofs.Choice.{either_false, first_of_without, none_first}
use Rattle.pes_rules.specs.Reading.{Reading}
use Rattle.pes_rules.specs.Packet.{data_offset, wrong_size, other_identifier, wrong_flags, wrong_header_length, refusal, refusal_lines, refused, taken, read_of}

-- ---- the table
pub record None (s : List ℕ) : Type 0 where
  pub no40 : wrong_size s ≡ false
  pub no41 : other_identifier s ≡ false
  pub no42 : wrong_flags s ≡ false
  pub no43 : wrong_header_length s ≡ false

not_five : (s : List ℕ) → refusal s ≡ 5 → ⊥
unfolding without both
not_five s = first_of_without 5 (refusal_lines s) refl (λ e. omega arith)

pub no_refusal : (s : List ℕ) → refusal s ≡ 0 → None s
no_refusal s e =
    let a = none_first _ _ (lit< tt) e in
    let b = none_first _ _ (lit< tt) a.1 in
    let c = none_first _ _ (lit< tt) b.1 in
    let d = none_first _ [] (lit< tt) c.1 in
    record { no40 = a.0; no41 = b.0; no42 = c.0; no43 = d.0 }

pub refusal_none : (s : List ℕ) → None s → refusal s ≡ 0
unfolding first_of first
refusal_none s n = rw (n.no40, n.no41, n.no42, n.no43)

-- ---- the answer
pub answered : (s : List ℕ) → (read_of s).answer ≡ 5 → refusal s ≡ 0
unfolding read_of pick
answered s = go (eqb (refusal s) 0) refl
  where
    go : (t : Bool) → eqb (refusal s) 0 ≡ t → (pick t (taken s) (refused (refusal s))).answer ≡ 5 → refusal s ≡ 0
    go true e h = eqb-true (refusal s) 0 e
    go false e h = absurd (not_five s h)

pub read_taken : (s : List ℕ) → refusal s ≡ 0 → read_of s ≡ taken s
unfolding read_of pick
read_taken s e = rw (eq-eqb (refusal s) 0 e)

pub read_refused : (s : List ℕ) → (refusal s ≡ 0 → ⊥) → read_of s ≡ refused (refusal s)
unfolding read_of pick
read_refused s h = rw (ne_eqb (refusal s) 0 h)

-- ---- the data's place
pub within : (s : List ℕ) → None s → data_offset s ≤ length s
within s n = ltb-false (length s) (data_offset s) (either_false _ _ n.no43).1

pub record Within (offset end : ℕ) (s : List ℕ) : Type 0 where
  pub order : offset ≤ end
  pub inside : end ≤ length s

pub data_within : (s : List ℕ) (r : Reading) → r ≡ read_of s → Within r.offset r.end s
unfolding read_of pick
data_within s r e = rw e (go (eqb (refusal s) 0) refl)
  where
    go : (t : Bool) → eqb (refusal s) 0 ≡ t
        → Within (pick t (taken s) (refused (refusal s))).offset (pick t (taken s) (refused (refusal s))).end s
    go true z = record { order = within s (no_refusal s (eqb-true (refusal s) 0 z)); inside = omega arith }
    go false z = record { order = omega arith; inside = omega arith }
