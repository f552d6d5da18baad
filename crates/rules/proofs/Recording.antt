-- Each offer is cut off the front and takes a byte or more, so as many offers as there are bytes reach the end.
use mathlib.Core.List.{flatten}
use Rattle.std.proofs.Math.ListN.{get_or-append}
use Rattle.std.proofs.Common.{ℕ, zero, suc, ◌+◌, ◌≤◌, ◌<◌, le_refl, arith, ◌≡◌, refl, List, [], ◌∷◌, ◌++◌, length, get_or, drop, length-append, length-drop, take-append-drop, take_at, drop_at, le-ltb}
use Rattle.wire.specs.Bytes.{number_at}
use Rattle.wire.specs.Choice.{pick}
use Rattle.rules.specs.Section.{section_length}
use Rattle.rules.specs.Recording.{offer_length, offers_within, offers}
use Rattle.rules.proofs.Offer.{offer_some, within_more}

within_joined : (k : ℕ) (r : List ℕ) → length r ≤ k → flatten (offers_within k r) ≡ r
unfolding offers_within pick flatten
within_joined zero [] h = refl
within_joined zero (x ∷ r) h = absurd (omega arith)
within_joined (suc k) [] h = refl
within_joined (suc k) (x ∷ r) h =
    let some : 0 < offer_length (x ∷ r) = offer_some (x ∷ r) (omega arith) in
    let left : length (drop (offer_length (x ∷ r)) (x ∷ r)) ≤ k = omega (arith, length-drop (offer_length (x ∷ r)) (x ∷ r)) in
    rw (within_more k (x ∷ r) (omega arith), within_joined k (drop (offer_length (x ∷ r)) (x ∷ r)) left)
    (take-append-drop (offer_length (x ∷ r)) (x ∷ r))

-- the offers of a recording, joined, are the recording
pub offers_joined : (r : List ℕ) → flatten (offers r) ≡ r
unfolding offers
offers_joined r = within_joined (length r) r (le_refl (length r))

-- section_length says where these bytes end
pub record Framed (s : List ℕ) : Type 0 where
  pub head : 3 ≤ length s
  pub whole : 3 + section_length s ≡ length s

framed_length : (s r : List ℕ) → Framed s → offer_length (s ++ r) ≡ length s
unfolding offer_length section_length number_at pick
framed_length s r f =
    let size = length-append s r in
    let long : 3 ≤ length (s ++ r) = omega (arith, f.head) in
    let byte1 = get_or-append s r 0 1 (omega (arith, f.head)) in
    let byte2 = get_or-append s r 0 2 (omega (arith, f.head)) in
    rw (le-ltb (length (s ++ r)) 3 long, byte1, byte2) (omega (arith, f.whole))

within_sections : (k : ℕ) (xs : List (List ℕ)) → length (flatten xs) ≤ k → ((i : ℕ) → i < length xs → Framed (get_or xs i []))
    → offers_within k (flatten xs) ≡ xs
unfolding offers_within pick flatten
within_sections zero [] h f = refl
within_sections zero (s ∷ xs) h f = absurd (omega (arith, length-append s (flatten xs), (f 0 (omega arith)).head))
within_sections (suc k) [] h f = refl
within_sections (suc k) (s ∷ xs) h f =
    let here : Framed s = f 0 (omega arith) in
    let size = length-append s (flatten xs) in
    let rest : offers_within k (flatten xs) ≡ xs =
    within_sections k xs (omega (arith, here.head)) (λ i l. f (suc i) (omega arith)) in
    rw (
      within_more k (s ++ flatten xs) (omega (arith, here.head)),
      framed_length s (flatten xs) here,
      take_at s (flatten xs) (length s) refl,
      drop_at s (flatten xs) (length s) refl,
      rest,
    )

-- sections back to back are offered one by one
pub offers_sections : (xs : List (List ℕ)) → ((i : ℕ) → i < length xs → Framed (get_or xs i [])) → offers (flatten xs) ≡ xs
unfolding offers
offers_sections xs f = within_sections (length (flatten xs)) xs (le_refl (length (flatten xs))) f
