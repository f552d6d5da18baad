-- Each field is written as bytes, and bytes side by side are bytes.
use Prim.Native.Nat.{ℕ, ◌+◌, ◌*◌, ◌^◌, ◌<◌}
use native.Mathlib.Omega.{arith}
use mathlib.Core.Path.{refl}
use mathlib.Core.List.{List, [], ◌∷◌, ◌++◌, flatten, map, Memᴰ}
use lib.Bits.{bit_xor, xor_lt}
use lib.Dec.{lit<}
use lib.ListN.{length}
use Rattle.wire.specs.Bytes.{bits, Bytes, bytes_of}
use Rattle.wire.proofs.Bytes.{append_bytes, bytes_of_bytes, cons_bytes, nil_bytes}
use Rattle.rules.specs.Crc.{crc32}
use Rattle.rules.specs.Section.{sealed}
use Rattle.notification_rules.specs.Format.{body_written, Conforms, content_written, Descriptor, descriptor_written, Fits, FitsLoop, head_written, Held, location, Loop, loops_written, loop_written, masked, Notification, notification_written, other, pair_written, ranges, range_written, SectionIsBytes, tag_of}

-- one by one
abbrev pub Each : List ℕ → Type 0
Each [] = Unit {0}
Each (b ∷ s) = (b < 256) × Each s

pub each_bytes : (s : List ℕ) → Each s → Bytes s
each_bytes [] h = nil_bytes
each_bytes (b ∷ s) h = cons_bytes b s h.0 (each_bytes s h.1)

all_bytes : {A : Type 0} (write : A → List ℕ) (xs : List A) → ((x : A) → Memᴰ x xs → Bytes (write x)) → Bytes (flatten (map write xs))
unfolding flatten
all_bytes write [] h = nil_bytes
all_bytes write (x ∷ xs) h =
    append_bytes (write x) (flatten (map write xs)) (h x (Memᴰ.head refl)) (all_bytes write xs (λ y m. h y (Memᴰ.tail m)))

-- ---- a descriptor
body_bytes : (d : Descriptor) → Held d → Bytes (body_written d)
unfolding body_written
body_bytes (masked mask xs) h =
    append_bytes (bytes_of 6 mask) (flatten (map (bytes_of 6) xs)) (bytes_of_bytes 6 mask) (all_bytes (bytes_of 6) xs (λ x m. bytes_of_bytes 6 x))
body_bytes (ranges rs) h =
    all_bytes range_written rs (λ r m. append_bytes (bytes_of 6 r.0) (bytes_of 6 r.1) (bytes_of_bytes 6 r.0) (bytes_of_bytes 6 r.1))
body_bytes (location l) h =
    let two : (x : ℕ) (t : List ℕ) → Bytes t → Bytes (bytes_of 2 x ++ t) = λ x t. append_bytes (bytes_of 2 x) t (bytes_of_bytes 2 x) in
    two _ _ (two _ _ (two _ _ (two _ _ (bytes_of_bytes 1 l.component_tag))))
body_bytes (other t b) h = h.2

tag_byte : (d : Descriptor) → Held d → tag_of d < 256
tag_byte (masked mask xs) h = lit< tt
tag_byte (ranges rs) h = lit< tt
tag_byte (location l) h = lit< tt
tag_byte (other t b) h = h.0

descriptor_bytes : (d : Descriptor) → Fits d → Bytes (descriptor_written d)
descriptor_bytes d f =
    cons_bytes (tag_of d) (length (body_written d) ∷ body_written d) (tag_byte d f.held)
    (cons_bytes (length (body_written d)) (body_written d) f.counted (body_bytes d f.held))

-- ---- the loops
loop_bytes : (l : Loop) → FitsLoop l → Bytes (loop_written l)
loop_bytes l f =
    append_bytes (bytes_of 2 (2 ^ 12 * l.reserved4 + length (content_written l.descriptors))) (content_written l.descriptors)
    (bytes_of_bytes 2 _)
    (all_bytes descriptor_written l.descriptors (λ d m. descriptor_bytes d (f.descriptors d m)))

-- ---- the section
module _ (n : Notification) (t : Conforms n) where
  abbrev loops : List ℕ
  loops = loops_written n.platform n.pairs

  loops_bytes : Bytes loops
  loops_bytes =
      append_bytes (loop_written n.platform) (flatten (map pair_written n.pairs)) (loop_bytes n.platform t.platform)
      (all_bytes pair_written n.pairs (λ p m.
      append_bytes (loop_written p.0) (loop_written p.1) (loop_bytes p.0 (t.pairs p m).0) (loop_bytes p.1 (t.pairs p m).1)))

  head_bytes : (k : ℕ) → Bytes (head_written n k)
  unfolding head_written
  head_bytes k =
      let r3 = t.reserved3 in
      let r2 = t.reserved2 in
      let v = t.version in
      let high = t.highest in
      let number = t.number in
      let id : ℕ = n.platform_id in
      let b1 : 2 ^ 7 + 2 ^ 4 * n.reserved3 + bits 11 8 k < 256 = omega arith in
      let x : bits 23 16 id < 256 = omega arith in
      let y : bits 15 8 id < 256 = omega arith in
      let z : bits 7 0 id < 256 = omega arith in
      let b2 : bits 7 0 k < 256 = omega arith in
      let b4 : bit_xor (bit_xor (bits 23 16 id) (bits 15 8 id)) (bits 7 0 id) < 256 =
      xor_lt 8 (bit_xor (bits 23 16 id) (bits 15 8 id)) (bits 7 0 id) (xor_lt 8 (bits 23 16 id) (bits 15 8 id) x y) z in
      let b5 : 2 ^ 6 * n.reserved2 + 2 * n.version_number + 1 < 256 = omega arith in
      let b6 : n.section_number < 256 = omega arith in
      each_bytes (head_written n k)
      (lit< tt, (b1, (b2, (lit< tt, (b4, (b5, (b6, (high, (x, (y, (z, (t.order, tt))))))))))))

  pub written_bytes : Bytes (notification_written n)
  unfolding notification_written sealed
  written_bytes =
      let head : List ℕ = head_written n (length loops + 13) in
      append_bytes (head ++ loops) (bytes_of 4 (crc32 (head ++ loops))) (append_bytes head loops (head_bytes (length loops + 13)) loops_bytes)
      (bytes_of_bytes 4 (crc32 (head ++ loops)))

pub section_is_bytes : SectionIsBytes
section_is_bytes n t = written_bytes n t
