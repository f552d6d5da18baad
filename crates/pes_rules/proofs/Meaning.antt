-- Each line tests what its row means, so the first line that applies has the number of the first row that does.
use Rattle.std.proofs.lemmas.Bool.{eqb-false, not-true}
use Rattle.std.proofs.Common.{ℕ, ◌+◌, ◌*◌, ◌<◌, arith, ◌≡◌, refl, ◌∙◌, List, Bool, true, false, not, length, eqb, ltb, eqb-true, ltb-true, lt-ltb, Decides}
use Rattle.std.proofs.lemmas.Bool.Decides.{Decides-ltb, Decides-eqb, Decides-not}
use Rattle.wire.specs.Bytes.{bit, bits, byte_at}
use Rattle.wire.specs.Choice.{pick, both, first_of, without}
use Rattle.wire.proofs.Meaning.{gives_last, gives_row, or_else_is, or_else, tells_both, tells_either}
use Rattle.pes_rules.specs.Reading.{Reading}
use Rattle.pes_rules.specs.Meaning.{PacketMeans}
use Rattle.pes_rules.specs.Packet.{data_offset, refusal_lines, flagged, output_data_rate_flag, private_offset, pts_extension_flag, read_of, refused, taken}

answer_pick : (t : Bool) (o r : Reading) → (pick t o r).answer ≡ pick t o.answer r.answer
unfolding pick
answer_pick true o r = refl
answer_pick false o r = refl

number_read : (s : List ℕ) → (read_of s).answer ≡ or_else (refusal_lines s) 5
unfolding read_of without both
number_read s = answer_pick (eqb (first_of (refusal_lines s)) 0) (taken s) (refused (first_of (refusal_lines s))) ∙ or_else_is (refusal_lines s) 5 refl

-- ---- flags
unflagged : (x : ℕ) → x < 2 → Decides (not (eqb x 1)) (x ≡ 0)
unflagged x h = (
  λ p. let other : x ≡ 1 → ⊥ = eqb-false x 1 (not-true _ p) in omega arith,
  λ e. rw e,
)

-- as many bytes as a field has, where it is flagged
flagged_is : (x n : ℕ) → x < 2 → flagged (eqb x 1) n ≡ n * x
unfolding flagged pick
flagged_is x n h = go (eqb x 1) refl
  where
    go : (t : Bool) → eqb x 1 ≡ t → pick t n 0 ≡ n * x
    go true e = rw (eqb-true x 1 e) (omega arith)
    go false e = let other : x ≡ 1 → ⊥ = eqb-false x 1 e in let z : x ≡ 0 = omega arith in rw z (omega arith)

header_tells : (s : List ℕ) → Decides (ltb (data_offset s) (private_offset s)) (bits 3 0 (byte_at s 2) < 2 * bit 7 (byte_at s 2) + 4 * bit 6 (byte_at s 2))
header_tells s =
    let e2 : flagged (pts_extension_flag s) 2 ≡ 2 * bit 7 (byte_at s 2) = flagged_is (bit 7 (byte_at s 2)) 2 (omega arith) in
    let e4 : flagged (output_data_rate_flag s) 4 ≡ 4 * bit 6 (byte_at s 2) = flagged_is (bit 6 (byte_at s 2)) 4 (omega arith) in (
      λ p. let l : data_offset s < private_offset s = ltb-true _ _ p in omega (arith, e2, e4),
      λ h. let l : data_offset s < private_offset s = omega (arith, e2, e4) in lt-ltb _ _ l,
    )

beyond_tells : (s : List ℕ) → Decides (ltb (length s) (data_offset s)) (length s < 3 + bits 3 0 (byte_at s 2))
beyond_tells s = (
  λ p. let l : length s < data_offset s = ltb-true _ _ p in omega arith,
  λ h. let l : length s < data_offset s = omega arith in lt-ltb _ _ l,
)

pub packet_means : PacketMeans
unfolding or_else
packet_means s n =
    rw (number_read s)
    ((gives_row _ 40 (tells_either _ _ (Decides-ltb (length s) 3) (Decides-ltb 65535 (length s))) (λ _.
    gives_row _ 41 (tells_both _ _ (Decides-not _ (Decides-eqb (byte_at s 0) 0x21)) (Decides-not _ (Decides-eqb (byte_at s 0) 0x22))) (λ _.
    gives_row _ 42
    (tells_either _ _ (tells_both _ _ (Decides-eqb (byte_at s 0) 0x21) (unflagged (bit 7 (byte_at s 2)) (omega arith)))
    (tells_both _ _ (Decides-eqb (byte_at s 0) 0x22) (Decides-eqb (bit 6 (byte_at s 2)) 1))) (λ _.
    gives_row _ 43 (tells_either _ _ (header_tells s) (beyond_tells s)) (λ _.
    gives_last 5 tt))))).exactly n)
