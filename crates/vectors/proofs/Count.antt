-- An offer less is left, and fewer bytes.
use Prim.Native.Nat.{ℕ, ◌+◌, ◌-◌, ◌≤◌, ◌<◌}
use native.Mathlib.Omega.{arith}
use mathlib.Core.Path.{◌≡◌, refl, ap, ◌∙◌}
use mathlib.Core.List.{List, [], ◌∷◌}
use lib.ListN.{length, take, drop, length-drop}
use lib.Seq.{take_all, length-take-le}
use Rattle.rules.specs.Recording.{offer_length, offers_within, offers}
use Rattle.rules.proofs.Offer.{offer_some, offer_within, offers_more}
use Rattle.rules.proofs.Send.{sent_all_fits}

-- what is left left the first n bytes
abbrev pub left : List ℕ → ℕ → List ℕ
left r n = take (length r - n) (drop n r)

left_offer : (r : List ℕ) (n : ℕ) → n ≡ offer_length r → left r n ≡ drop (offer_length r) r
left_offer r n e = take_all (length r - n) (drop n r) (omega (arith, length-drop n r)) ∙ ap (λ (k : ℕ). drop k r) e

pub one_less : (r : List ℕ) (n : ℕ) → 0 < length r → n ≡ offer_length r → length (offers r) ≡ length (offers (left r n)) + 1
one_less r n h e = rw (left_offer r n e) (omega (arith, ap length (offers_more r h)))

pub shorter : (r : List ℕ) (n : ℕ) → 0 < length r → n ≡ offer_length r → length (left r n) + 1 ≤ length r
shorter r n h e = rw (left_offer r n e) (omega (arith, length-drop (offer_length r) r, offer_some r h))

pub none_left : (r : List ℕ) → length r ≡ 0 → length (offers r) ≡ 0
unfolding offers offers_within
none_left [] h = refl
none_left (x ∷ r) h = absurd (omega arith)

-- what counting the offers asks for
pub ruleset counts = (one_less, shorter, none_left, offer_within)

-- what is sent is at the output's start
pub ruleset sends = (sent_all_fits, length-take-le)
