-- What the readers of parts of a section give, each by the definitions of notification_rules.
use Rattle.std.specs.Prelude.{ℕ, ◌+◌, ◌≤◌, ◌≡◌, Bool, true, false, not, List, length, take, drop, ltb, Option, Some, None, Result, Ok, Err}
use Rattle.std.proofs.Math.Option.{Option as Maybe, none, some}
use Rattle.std.specs.Borrow.{Bor}
use Rattle.wire.specs.Choice.{pick, both, either}
use Rattle.wire.specs.Part.{Part, part, Is}
use Rattle.rules.specs.declared.Address.{Address}
use Rattle.rules.specs.declared.Refusal.{Refusal}
use Rattle.rules.specs.Told.{number}
use Rattle.notification_rules.specs.Answers.{Finding, Found, Nobody, Refused}
use Rattle.notification_rules.specs.Cut.{Cut, cut_of, is_nil, every, odd, from_offset}
use Rattle.rules.specs.Section.{checked}
use Rattle.notification_rules.specs.Loop.{loop_size, descriptor_size, platform_offset, content, filled, Pair, pairs_of, descriptor_items, descriptors_of}
use Rattle.notification_rules.specs.Target.{mac_address, mac_address_range, stream_location}
use Rattle.notification_rules.specs.Target.{is_cover, cover_of, right_length, Location, nowhere, somewhere, located, is_location, first_pair}
use Rattle.notification_rules.specs.Finding.{known, finding_of}
use Rattle.notification.specs.declared.loops.Fit.{Fit}
use Rattle.notification.specs.declared.loops.Fit.TheVariants.{Exact, OtherLength, Misfit}
use Rattle.notification.specs.declared.loops.Kind.{Kind}
use Rattle.notification.specs.declared.loops.Kind.TheVariants as kind
use Rattle.notification.specs.declared.location.Choice.{Choice}
use Rattle.notification.specs.declared.location.Choice.TheVariants.{Own, Platform}

-- ---- how loops and descriptors fill bytes
-- misfit where they do not fill them exactly, else another length where a known descriptor has one
unfoldable pub fit_of : Bool → Bool → Fit
fit_of fills right = pick fills (pick right Exact OtherLength) Misfit

unfoldable pub worse : Fit → Fit → Fit
worse Exact y = y
worse OtherLength Exact = OtherLength
worse OtherLength OtherLength = OtherLength
worse OtherLength Misfit = Misfit
worse Misfit y = Misfit

-- one descriptor with this tag and n bytes
unfoldable pub length_fit : ℕ → ℕ → Fit
length_fit t n = fit_of true (right_length t n)

unfoldable pub descriptor_fit : List ℕ → Fit
descriptor_fit b = fit_of (filled b) (known b)

-- loops that fill exactly; the first is a target loop where `turn` is false, so that they are even in number
unfoldable pub fits_by : Bool → Cut → Bool
fits_by turn c = both (is_nil c.left) (both (pick turn (odd c.items) (not (odd c.items)))
    (every (λ l. filled (content l)) c.items))

unfoldable pub loop_fit : Bool → List ℕ → Fit
loop_fit turn s = fit_of (fits_by turn (cut_of loop_size s)) (every (λ l. known (content l)) (cut_of loop_size s).items)

-- ---- the kind that a tag says
abbrev pub IsKind : Kind → ℕ → Type 0
IsKind kind.Addresses t = t ≡ mac_address
IsKind kind.Ranges t = t ≡ mac_address_range
IsKind kind.Location t = t ≡ stream_location
IsKind kind.Other t = (t ≡ mac_address → ⊥) × (t ≡ mac_address_range → ⊥) × (t ≡ stream_location → ⊥)

-- ---- a slice without its first k bytes
pub record After (s : Bor (List ℕ)) (k : ℕ) (r : Bor (List ℕ)) : Type 0 where
  pub bytes : r.now ≡ drop k s.now
  pub offset : k ≤ length s.now → Is s.ref_ptr (part k (drop k s.now)) r

-- ---- a loop at an offset
unfoldable pub loop_at : List ℕ → ℕ → List ℕ
loop_at s o = take (loop_size (drop o s)) (drop o s)

-- what a loop at an offset holds
pub record Holds (s : Bor (List ℕ)) (o : ℕ) (r : Bor (List ℕ)) : Type 0 where
  pub is : Is s.ref_ptr (part (o + 2) (content (loop_at s.now o))) r
  pub size : 2 + length r.now ≡ loop_size (drop o s.now)

-- ---- the first 0x13 of a loop
-- b is what the loop s holds from its first 0x13 on, wherever the loop stands
pub record From (s b : List ℕ) : Type 0 where
  pub passed : ℕ
  pub inside : passed ≤ length s
  pub bytes : b ≡ drop passed s
  pub first : (o : ℕ) → located (from_offset o (descriptor_items s)) ≡ somewhere (part (passed + o) (take (descriptor_size b) b))

-- or there is none
abbrev pub Reaches : List ℕ → Option (Bor (List ℕ)) → Type 0
Reaches s (Some r) = From s r.now
Reaches s None = (o : ℕ) → located (from_offset o (descriptor_items s)) ≡ nowhere

-- whether there is one, wherever the loop stands
abbrev pub Has : List ℕ → Bool → Type 0
Has s r = (o : ℕ) → r ≡ is_location (located (from_offset o (descriptor_items s)))

-- ---- the choice of a location
-- the first loop's goes first; the nine bytes stand after tag and length
unfoldable pub choose : Location → Location → Option Choice
choose (somewhere d) l = Some (Own (d.offset + 2))
choose nowhere (somewhere d) = Some (Platform (d.offset + 2))
choose nowhere nowhere = None

-- of what two loops hold, counted from its first byte
unfoldable pub choice_of : List ℕ → List ℕ → Option Choice
choice_of s t = choose (located (from_offset 0 (descriptor_items s))) (located (from_offset 0 (descriptor_items t)))

-- what it tells where the one begins at o and the other at p
abbrev pub told : ℕ → ℕ → Option Choice → Finding
told o p (Some (Own k)) = Found (o + k)
told o p (Some (Platform k)) = Found (p + k)
told o p None = Nobody

-- nine bytes stand there
abbrev pub Inside : List ℕ → List ℕ → Option Choice → Type 0
Inside s t (Some (Own k)) = k + 9 ≤ length s
Inside s t (Some (Platform k)) = k + 9 ≤ length t
Inside s t None = ⊥

-- r is this part of what begins at `start`
abbrev pub Gives : ℕ × ℕ → Part → Option (Bor (List ℕ)) → Type 0
Gives start p (Some r) = Is start p r
Gives start p None = ⊥

-- r is the nine bytes of s from k on, where they stand there
abbrev pub Nine : Bor (List ℕ) → ℕ → Option (Bor (List ℕ)) → Type 0
Nine s k r = k + 9 ≤ length s.now → Gives s.ref_ptr (part k (take 9 (drop k s.now))) r

-- r is the nine bytes that were chosen
abbrev pub Picked : Bor (List ℕ) → Bor (List ℕ) → Option Choice → Option (Bor (List ℕ)) → Type 0
Picked s t (Some (Own k)) r = Nine s k r
Picked s t (Some (Platform k)) r = Nine t k r
Picked s t None r = r ≡ None

-- ---- pairs from an offset on
-- whole pairs stand from here on to the end
pub record Turns (s : List ℕ) (o : ℕ) : Type 0 where
  pub inside : o ≤ length s
  pub full : is_nil (cut_of loop_size (drop o s)).left ≡ true
  pub even : odd (cut_of loop_size (drop o s)).items ≡ false

unfoldable pub pairs_from : List ℕ → ℕ → List Pair
pairs_from s o = pairs_of (from_offset o (cut_of loop_size (drop o s)).items)

unfoldable pub pair_at : List ℕ → ℕ → Pair
pair_at s o =
    record {
      target = part o (loop_at s o);
      operational = part (o + loop_size (drop o s)) (loop_at s (o + loop_size (drop o s)));
    }

-- the pair covers the device and has a location, where `general` says that the platform loop has one
unfoldable pub answers_by : Address → Bool → Pair → Bool
answers_by device general x =
    both (is_cover (cover_of device x.target)) (either (is_location (located (descriptors_of x.operational))) general)

-- the pair at an offset, or none at the end
unfoldable pub pair_or_end : List ℕ → ℕ → Maybe Pair
pair_or_end s o = pick (ltb o (length s)) (some (pair_at s o)) none

-- the search from o on stops at r, the first pair that answers, or at the end
pub record StopsAt (device : Address) (general : Bool) (s : List ℕ) (o r : ℕ) : Type 0 where
  pub first : pair_or_end s r ≡ first_pair (answers_by device general) (pairs_from s o)
  pub turns : Turns s r

-- ---- what stands before the CRC_32 of a section that is not refused
abbrev pub platform_at : List ℕ → Part
platform_at h = part platform_offset (loop_at h platform_offset)

abbrev pub pairs_offset : List ℕ → ℕ
pairs_offset h = platform_offset + loop_size (drop platform_offset h)

-- the choice of the pair whose operational loop stands at o
abbrev pub choice_at : List ℕ → ℕ → Option Choice
choice_at h o = choice_of (content (loop_at h o)) (content (loop_at h platform_offset))

-- what it tells, in the section
abbrev pub told_at : List ℕ → ℕ → Finding
told_at h o = told (o + 2) (platform_offset + 2) (choice_at h o)

-- both loops are there, and one of them has a location, whose nine bytes are there
pub record Locates (h : List ℕ) (o : ℕ) : Type 0 where
  pub platform : pairs_offset h ≤ length h
  pub operational : o + loop_size (drop o h) ≤ length h
  pub inside : Inside (content (loop_at h o)) (content (loop_at h platform_offset)) (choice_at h o)

-- ---- what the one search gives
-- of s, and h before its CRC_32: the pair whose operational loop stands at o answers the device
pub record Answers (device : Address) (s h : List ℕ) (o : ℕ) : Type 0 where
  pub locates : Locates h o
  pub told : finding_of device s ≡ told_at h o

abbrev pub Tells : Address → List ℕ → Result (Option ℕ) Refusal → Type 0
Tells device s (Err r) = finding_of device s ≡ Refused (number r)
Tells device s (Ok None) = finding_of device s ≡ Nobody
Tells device s (Ok (Some o)) = Answers device s (checked s) o
