-- After i turns the output begins with the first i sections, and what is left of the unit is what comes after the first i pieces.
use Prim.Native.Nat.{ℕ, ◌+◌, ◌*◌, ◌-◌, ◌≤◌, ◌<◌, min}
use native.Mathlib.Nat.{suc-mul, zero-mul}
use native.Mathlib.Numerals.{add-one}
use native.Mathlib.Omega.{arith}
use mathlib.Core.Path.{◌≡◌, refl, sym}
use mathlib.Core.Bool.{Bool}
use mathlib.Core.List.{List, [], flatten}
use lib.ListN.{length, take, drop, length-take}
use lib.Seq.{drop-drop, paste-zero}
use Rattle.std.proofs.lemmas.List.{drop_min, take_min}
use Rattle.rules.specs.declared.Settings.{Settings}
use Rattle.rules.specs.Section.{section_of}
use Rattle.rules.specs.Send.{piece, section_at, section_count, sections, sections_to}
use Rattle.rules.proofs.Send.{Accepted, bytes_more, bytes_to, sections_bytes}
use Rattle.wire.specs.Puts.{Puts}
use Rattle.wire.proofs.Puts.{puts_length, puts_then}

module _ (c : Settings) (llc_snap : Bool) (n : ℕ) (u before : List ℕ) where
  pub record Stage (i : ℕ) (rest : List ℕ) (at : ℕ) (out : List ℕ) : Type 0 where
    pub left : rest ≡ drop (i * n) u
    pub puts : Puts before 0 (flatten (sections_to c llc_snap n u i)) at out

  -- nothing is written yet
  pub stage_start : Stage 0 u 0 before
  unfolding sections_to flatten
  stage_start =
      record {
        left = rw (zero-mul n);
        puts = record { room = omega arith; end = refl; bytes = paste-zero before 0 [] };
      }

  module _ {i : ℕ} {rest : List ℕ} {at : ℕ} {out : List ℕ} (s : Stage i rest at out) where
    -- the next section fits
    pub stage_room : {cut : List ℕ} {m : ℕ} → Accepted c llc_snap n u before → i < section_count n u → m ≡ min n (length rest)
        → cut ≡ take m rest → (length cut ≤ 4080) × (at + (length cut + 16) ≤ length out)
    stage_room {cut} {m} a h e is =
        let size : length cut ≡ m = rw (is, length-take) (omega arith) in
        let placed : at + length rest ≡ length u + 16 * i = rw s.left (omega (arith, s.puts.end, bytes_to c llc_snap n u i)) in
        (omega (arith, a.most), omega (arith, placed, sections_bytes c llc_snap n u a.some, a.room, puts_length s.puts))

    pub stage_next : {cut after : List ℕ} {m last at' : ℕ} {out' : List ℕ} → m ≡ min n (length rest) → cut ≡ take m rest → after ≡ drop m rest
        → last ≡ section_count n u - 1 → Puts out at (section_of c.address llc_snap i last cut) at' out'
        → Stage (i + 1) after at' out'
    unfolding section_at piece
    stage_next {cut} {after} {m} {last} {at'} {out'} e front back ending p =
        let same : cut ≡ take n (drop (i * n) u) = rw (front, e, take_min, s.left) in
        let is : section_of c.address llc_snap i last cut ≡ section_at c llc_snap n u i = rw (same, ending) in
        let next : i * n + n ≡ (i + 1) * n = rw (add-one i) (sym (suc-mul i n)) in
        record {
          left = rw (back, e, drop_min, s.left, drop-drop, next);
          puts = rw (add-one i, bytes_more c llc_snap n u i, ← is) (puts_then s.puts p);
        }

    -- all sections are written
    pub stage_end : i ≡ section_count n u → Puts before 0 (flatten (sections c llc_snap n u)) at out
    unfolding sections
    stage_end e = rw e at s.puts
