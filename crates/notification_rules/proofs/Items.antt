-- One descriptor, one loop, one entry and the rest: each law puts the cut's two cases into a definition, which then computes.
use Prim.Native.Nat.{ℕ, ◌+◌, ◌≤◌, ◌<◌}
use mathlib.Core.Path.{◌≡◌, refl, ap, ◌∙◌}
use mathlib.Core.Bool.{Bool, true, false}
use mathlib.Core.List.{List, [], ◌∷◌}
use lib.ListN.{length, take, drop}
use lib.Seq.{get_or-take, length-take-le}
use lib.Dec.{eqb}
use native.Mathlib.Omega.{arith}
use Rattle.wire.specs.Choice.{pick, both}
use Rattle.wire.specs.Bytes.{byte_at}
use Rattle.rules.specs.declared.Address.{Address}
use Rattle.wire.specs.Part.{part}
use Rattle.notification_rules.specs.Cut.{Size, Cut, stop, more, cut_of, is_nil, every, any, from_offset}
use Rattle.notification_rules.specs.Loop.{loop_size, descriptor_size, filled, tag, body_length, descriptor_items}
use Rattle.notification_rules.specs.Target.{right_length, stream_location, nowhere, somewhere, located, by, cover_from, is_cover, covers, entry_size}
use Rattle.notification_rules.specs.Finding.{known}
use Rattle.notification_rules.proofs.Cuts.{whole_yes, whole_no, cut_stop, cut_more}

pub loop_two : (s : List ℕ) → 2 ≤ loop_size s
unfolding loop_size
loop_two s = omega arith

pub descriptor_two : (s : List ℕ) → 2 ≤ descriptor_size s
unfolding descriptor_size
descriptor_two s = omega arith

-- ---- the two cases of a cut whose items are never empty
module _ (size : Size) (some : (s : List ℕ) → 0 < size s) where
  pub stops : (s : List ℕ) → length s < size s → cut_of size s ≡ stop s
  stops s h = cut_stop size s (whole_no size s (some s) h)

  pub goes_on : (s : List ℕ) → size s ≤ length s → cut_of size s ≡ more (take (size s) s) (cut_of size (drop (size s) s))
  goes_on s h = cut_more size s (whole_yes size s (some s) h)

descriptor_some : (s : List ℕ) → 0 < descriptor_size s
descriptor_some s = omega (arith, descriptor_two s)

loop_some : (s : List ℕ) → 0 < loop_size s
loop_some s = omega (arith, loop_two s)

pub descriptors_stop : (s : List ℕ) → length s < descriptor_size s → cut_of descriptor_size s ≡ stop s
descriptors_stop = stops descriptor_size descriptor_some

pub descriptors_more : (s : List ℕ) → descriptor_size s ≤ length s
    → cut_of descriptor_size s ≡ more (take (descriptor_size s) s) (cut_of descriptor_size (drop (descriptor_size s) s))
descriptors_more = goes_on descriptor_size descriptor_some

pub loops_stop : (s : List ℕ) → length s < loop_size s → cut_of loop_size s ≡ stop s
loops_stop = stops loop_size loop_some

pub loops_more : (s : List ℕ) → loop_size s ≤ length s
    → cut_of loop_size s ≡ more (take (loop_size s) s) (cut_of loop_size (drop (loop_size s) s))
loops_more = goes_on loop_size loop_some

-- a descriptor's tag and length stand at the front
pub front : (n i : ℕ) (s : List ℕ) → i < n → byte_at (take n s) i ≡ byte_at s i
front n i s h = get_or-take n s i 0 h

-- ---- filled, known
pub filled_stop : (s : List ℕ) → length s < descriptor_size s → filled s ≡ is_nil s
unfolding filled
filled_stop s h = ap (λ (c : Cut). is_nil c.left) (descriptors_stop s h)

pub filled_more : (s : List ℕ) → descriptor_size s ≤ length s → filled s ≡ filled (drop (descriptor_size s) s)
unfolding filled
filled_more s h = ap (λ (c : Cut). is_nil c.left) (descriptors_more s h)

pub known_stop : (s : List ℕ) → length s < descriptor_size s → known s ≡ true
unfolding known every
known_stop s h = ap (λ (c : Cut). every (λ d. right_length (tag d) (body_length d)) c.items) (descriptors_stop s h)

pub known_more : (s : List ℕ) → descriptor_size s ≤ length s
    → known s ≡ both (right_length (byte_at s 0) (byte_at s 1)) (known (drop (descriptor_size s) s))
unfolding known every
known_more s h =
    ap (λ (c : Cut). every (λ d. right_length (tag d) (body_length d)) c.items) (descriptors_more s h)
    ∙ rw (
      front (descriptor_size s) 0 s (omega (arith, descriptor_two s)),
      front (descriptor_size s) 1 s
          (omega (arith, descriptor_two s)),
    )

-- ---- located
pub located_stop : (o : ℕ) (s : List ℕ) → length s < descriptor_size s → located (from_offset o (descriptor_items s)) ≡ nowhere
unfolding located from_offset
located_stop o s h = ap (λ (c : Cut). located (from_offset o c.items)) (descriptors_stop s h)

pub located_more : (o : ℕ) (s : List ℕ) → descriptor_size s ≤ length s
    → located (from_offset o (descriptor_items s))
    ≡ pick (eqb (byte_at s 0) stream_location) (somewhere (part o (take (descriptor_size s) s)))
    (located (from_offset (o + descriptor_size s) (descriptor_items (drop (descriptor_size s) s))))
unfolding located from_offset
located_more o s h =
    ap (λ (c : Cut). located (from_offset o c.items)) (descriptors_more s h)
    ∙ rw (front (descriptor_size s) 0 s (omega (arith, descriptor_two s)), length-take-le (descriptor_size s) s h)

-- ---- covering
pub covered_any : (device : Address) (o : ℕ) (ds : List (List ℕ))
    → is_cover (cover_from device (from_offset o ds)) ≡ any (covers device) ds
unfolding cover_from from_offset is_cover any pick
covered_any device o [] = refl
covered_any device o (d ∷ ds) = go (covers device d) (covered_any device (o + length d) ds)
  where
    go : (b : Bool) → is_cover (cover_from device (from_offset (o + length d) ds)) ≡ any (covers device) ds
        → is_cover (pick b (by o) (cover_from device (from_offset (o + length d) ds))) ≡ pick b true (any (covers device) ds)
    go true ih = refl
    go false ih = ih

-- ---- entries
pub entry_some : (t : ℕ) → 0 < entry_size t
unfolding entry_size pick
entry_some t = go (eqb t 0x07)
  where
    go : (b : Bool) → 0 < pick b 6 12
    go true = omega arith
    go false = omega arith
