-- An offer is as long as its first three bytes say, or as what is left; each takes a byte or more, so the offers come to an end.
use Rattle.std.proofs.Math.Decide.{dec_le}
use Rattle.std.proofs.Common.{ℕ, zero, suc, ◌+◌, ◌≤◌, ◌<◌, min, arith, ◌≡◌, refl, ap, ◌∙◌, List, [], ◌∷◌, length, take, drop, length-drop, get_or-take, lt-ltb, le-ltb, ne_eqb}
use Rattle.wire.specs.Bytes.{number_at}
use Rattle.wire.specs.Choice.{pick}
use Rattle.rules.specs.Section.{section_length}
use Rattle.rules.specs.Recording.{offer_length, offers_within, offers}

-- ---- the offer of what is left, by the bytes left
pub offer_short : (r : List ℕ) → length r < 3 → offer_length r ≡ length r
unfolding offer_length pick
offer_short r h = rw (lt-ltb (length r) 3 h)

pub offer_long : (r : List ℕ) → 3 ≤ length r → offer_length r ≡ min (3 + section_length r) (length r)
unfolding offer_length pick
offer_long r h = rw (le-ltb (length r) 3 h)

pub offer_within : (r : List ℕ) → offer_length r ≤ length r
offer_within r = go (dec_le 3 (length r))
  where
    go : Dec (3 ≤ length r) → offer_length r ≤ length r
    go (yes h) = omega (arith, offer_long r h)
    go (no h) = omega (arith, offer_short r (omega arith))

-- an offer is empty only where nothing is left
pub offer_some : (r : List ℕ) → 0 < length r → 0 < offer_length r
offer_some r p = go (dec_le 3 (length r))
  where
    go : Dec (3 ≤ length r) → 0 < offer_length r
    go (yes h) = omega (arith, offer_long r h)
    go (no h) = omega (arith, offer_short r (omega arith))

-- section_length stands in the first three bytes
pub section_length_front : (n : ℕ) (r : List ℕ) → 3 ≤ n → section_length (take n r) ≡ section_length r
unfolding section_length number_at
section_length_front n r h = rw (get_or-take n r 1 0 (omega arith), get_or-take n r 2 0 (omega arith))

-- ---- the offers one by one
pub within_more : (k : ℕ) (r : List ℕ) → 0 < length r
    → offers_within (suc k) r ≡ take (offer_length r) r ∷ offers_within k (drop (offer_length r) r)
unfolding offers_within pick
within_more k r some = rw (ne_eqb (length r) 0 (λ z. omega arith))

-- any number of turns that is at least the number of bytes is enough
within_enough : (j k : ℕ) (r : List ℕ) → length r ≤ j → length r ≤ k → offers_within j r ≡ offers_within k r
unfolding offers_within pick
within_enough zero zero [] h i = refl
within_enough zero (suc k) [] h i = refl
within_enough (suc j) zero [] h i = refl
within_enough (suc j) (suc k) [] h i = refl
within_enough zero k (x ∷ r) h i = absurd (omega arith)
within_enough (suc j) zero (x ∷ r) h i = absurd (omega arith)
within_enough (suc j) (suc k) (x ∷ r) h i =
    let s : List ℕ = x ∷ r in
    let some : 0 < offer_length s = offer_some s (omega arith) in
    let l = length-drop (offer_length s) s in
    let e = within_enough j k (drop (offer_length s) s) (omega arith) (omega arith) in
    rw (within_more j s (omega arith), within_more k s (omega arith)) (ap (λ (o : List (List ℕ)). take (offer_length s) s ∷ o) e)

-- the first offer, and the offers of what is left after it
pub offers_more : (r : List ℕ) → 0 < length r → offers r ≡ take (offer_length r) r ∷ offers (drop (offer_length r) r)
unfolding offers
offers_more [] h = absurd (omega arith)
offers_more (x ∷ r) h =
    let s : List ℕ = x ∷ r in
    let some : 0 < offer_length s = offer_some s h in
    let l = length-drop (offer_length s) s in
    let rest : List ℕ = drop (offer_length s) s in
    let e = within_enough (length r) (length rest) rest (omega arith) (omega arith) in
    within_more (length r) s h ∙ ap (λ (o : List (List ℕ)). take (offer_length s) s ∷ o) e
