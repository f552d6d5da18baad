-- A part of a lent slice: not only which bytes it has, but which part of the slice it is.
use Rattle.std.specs.Prelude.{ℕ, ◌+◌, ◌≡◌, List}
use Rattle.std.specs.Borrow.{Bor}

-- the part's bytes, and the offset of the first of them, counted from the slice's first byte
pub record Part : Type 0 where
  pub offset : ℕ
  pub bytes : List ℕ

abbrev pub part : ℕ → List ℕ → Part
part o b = record { offset = o; bytes = b }

-- r is this part of the slice that begins at `start`, an address: a block of memory and an offset in it
pub record Is (start : ℕ × ℕ) (p : Part) (r : Bor (List ℕ)) : Type 0 where
  pub bytes : r.now ≡ p.bytes
  pub block : r.ref_ptr.0 ≡ start.0
  pub offset : r.ref_ptr.1 ≡ p.offset + start.1
