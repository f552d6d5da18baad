-- Each value conforms, and what it says of the device computes.
use Prim.Native.Nat.{ℕ, ◌^◌, ◌≤◌, ◌<◌}
use native.Mathlib.Omega.{arith}
use mathlib.Core.Path.{◌≡◌, refl, ◌∙◌}
use mathlib.Core.Logic.{◌⊎◌, inl, inr}
use mathlib.Core.List.Memᴰ
use mathlib.Core.List.{List, [], ◌∷◌, flatten, Memᴰ}
use mathlib.Core.Option.{or_else, Option-elim}
use lib.Dec.{lit<, lit≤}
use lib.ListN.{length}
use Rattle.wire.specs.Bytes.{Bytes, bytes_of}
use Rattle.rules.specs.Address.{address_bytes}
use Rattle.rules.specs.Section.{sealed}
use Rattle.notification_rules.specs.Answers.{Finding}
use Rattle.notification_rules.specs.Format.{answer_to, body_written, BothReached, Conforms, covered, Descriptor, Fits, FitsLoop, head_written, Held, location_in, location_to, Loop, notification_written, one, Reached, sample, sample_device, same_where, targets}
use Rattle.notification_rules.proofs.Answered.{written_is_found}
use Rattle.notification_rules.proofs.Bytes.{each_bytes}

no_member : {A : Type 0} (good : A → Type 0) (x : A) → Memᴰ x [] → good x
no_member good x m = absurd (Memᴰ.not-nil m)

one_member : {A : Type 0} (good : A → Type 0) (x : A) → good x → (y : A) → Memᴰ y (x ∷ []) → good y
one_member good x h y m = go (Memᴰ.cases_cons m)
  where
    go : (y ≡ x) ⊎ Memᴰ y [] → good y
    go (inl e) = rw e h
    go (inr n) = absurd (Memᴰ.not-nil n)

-- the target loop's descriptors and the length are what is left to see
conforms : (ds : List Descriptor) → ((d : Descriptor) → Memᴰ d ds → Fits d) → length (notification_written (sample ds)) ≤ 4096
    → Conforms (sample ds)
unfolding body_written bytes_of
conforms ds f l =
    record {
      reserved3 = lit< tt;
      reserved2 = lit< tt;
      version = lit< tt;
      order = lit< tt;
      platform_id = lit< tt;
      highest = lit< tt;
      number = omega arith;
      platform = record { reserved = lit< tt; descriptors = no_member Fits };
      pairs = one_member (λ (p : Loop × Loop). FitsLoop p.0 × FitsLoop p.1) _ (
        record { reserved = lit< tt; descriptors = f },
        record {
          reserved = lit< tt;
          descriptors = one_member Fits _ (record { held = (lit< tt, lit< tt, lit< tt, lit< tt, lit< tt); counted = lit< tt });
        },
      );
      size = l;
    }

device_bytes : Bytes (address_bytes sample_device)
device_bytes = each_bytes (address_bytes sample_device) (lit< tt, (lit< tt, (lit< tt, (lit< tt, (lit< tt, (lit< tt, tt))))))

reached : (ds : List Descriptor) (x : Finding) → Conforms (sample ds) → (answer_to sample_device (sample ds)).finding ≡ x → Reached ds x
reached ds x c e = (c, (written_is_found sample_device (sample ds) device_bytes c).finding ∙ e)

-- a target loop of one descriptor
alone : (d : Descriptor) (x : Finding) → Held d → length (body_written d) < 2 ^ 8 → length (notification_written (sample (d ∷ []))) ≤ 4096
    → (answer_to sample_device (sample (d ∷ []))).finding ≡ x → Reached (d ∷ []) x
alone d x h c l e = reached (d ∷ []) x (conforms (d ∷ []) (one_member Fits d (record { held = h; counted = c })) l) e

abbrev Within : ℕ → Type 0
Within a = a < 2 ^ 48

abbrev Both : ℕ × ℕ → Type 0
Both r = (r.0 < 2 ^ 48) × (r.1 < 2 ^ 48)

pub both_reached : BothReached
unfolding answer_to location_to location_in covered targets one same_where or_else Option-elim body_written flatten bytes_of notification_written sealed head_written
both_reached =
    record {
      empty = reached [] _ (conforms [] (no_member Fits) (lit≤ tt)) refl;
      mask = alone _ _ (lit< tt, one_member Within _ (lit< tt)) (lit< tt) (lit≤ tt) refl;
      other_mask = alone _ _ (lit< tt, one_member Within _ (lit< tt)) (lit< tt) (lit≤ tt) refl;
      range = alone _ _ (one_member Both _ (lit< tt, lit< tt)) (lit< tt) (lit≤ tt) refl;
      other_range = alone _ _ (one_member Both _ (lit< tt, lit< tt)) (lit< tt) (lit≤ tt) refl;
      other_tag = alone _ _ (lit< tt, (λ e. omega arith, λ e. omega arith, λ e. omega arith), λ i. lit< tt) (lit< tt) (lit≤ tt) refl;
    }
