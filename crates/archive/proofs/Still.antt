-- It is the sender by the size that it is given, and 16 pieces of 4,080 bytes hold 65,280.
use Prim.Native.Nat.{ℕ, ◌+◌, ◌≤◌}
use native.Mathlib.Omega.{arith}
use mathlib.Core.Path.{◌≡◌, refl, sym, ◌∙◌}
use mathlib.Core.Logic.{◌↔◌, inl, inr, ⊎_elim}
use mathlib.Core.Bool.{Bool, false}
use mathlib.Core.List.{List}
use lib.ListN.{length}
use Rattle.rules.specs.Demand2.{Sections}
use Rattle.wire.specs.Meaning.{FirstThat}
use Rattle.rules.specs.Meaning.{Good, sender_rows}
use Rattle.rules.specs.Pieces.{InPiecesOf}
use Rattle.rules.specs.Recording.{listing_settings}
use Rattle.rules.specs.Send.{sent_of}
use Rattle.rules.specs.UnitEnd.{NotOneDatagram}
use Rattle.rules.proofs.Demand2.{round_trip}
use Rattle.rules.proofs.Meaning.{sender_means}
use Rattle.rules.proofs.Pieces.{in_pieces}
use Rattle.rules.proofs.Send.{sent_by_number}
use Rattle.archive.specs.Archive.{Says, StillBy4080}

good : Good listing_settings
good = record { range1 = omega arith; range6 = omega arith; limit1 = omega arith; limit255 = omega arith }

-- with either flag, and of any piece size
module _ (llc_snap : Bool) (size : ℕ) (u out : List ℕ) {number : ℕ} {text : List ℕ} (s : Says (sent_of listing_settings llc_snap size u out) number text) where
  in_pieces_said : 1 ≤ size → size ≤ 4080 → length u ≤ 65535 → ¬ ((llc_snap ≡ false) × NotOneDatagram u)
      → InPiecesOf size (size + 16) listing_settings u (length out) number text
  in_pieces_said some most unit one = rw (s.told, s.sent) (in_pieces listing_settings llc_snap size u out some most good unit one)

  -- 54 is the number of one row only
  is_54 : FirstThat 54 (sender_rows listing_settings llc_snap size u out) → (llc_snap ≡ false) × NotOneDatagram u
  unfolding FirstThat
  is_54 (inl w) = absurd (omega (arith, w.0))
  is_54 (inr (_, inl w)) = absurd (omega (arith, w.0))
  is_54 (inr (_, inr (_, inl w))) = absurd (omega (arith, w.0))
  is_54 (inr (_, inr (_, inr (_, inl w)))) = w.1
  is_54 (inr (_, inr (_, inr (_, inr (_, inl w))))) = absurd (omega (arith, w.0))
  is_54 (inr (_, inr (_, inr (_, inr (_, inr (_, inl w)))))) = absurd (omega (arith, w.0))
  is_54 (inr (_, inr (_, inr (_, inr (_, inr (_, inr (_, inl w))))))) = absurd (omega (arith, w.0))
  is_54 (inr (_, inr (_, inr (_, inr (_, inr (_, inr (_, inr w))))))) = absurd w.1

  other_said : 1 ≤ size → size ≤ 4080 → length u ≤ 65535 → (number ≡ 54) ↔ ((llc_snap ≡ false) × NotOneDatagram u)
  unfolding FirstThat
  other_said some most unit =
      let by = sender_means listing_settings llc_snap size u out 54 in (
        λ e. is_54 (by.0 (sym s.told ∙ e)),
        λ w. s.told ∙ by.1
            (inr (λ bad. bad good, inr (⊎_elim (λ l. omega arith) (λ l. omega arith), inr (λ l. omega arith, inl (refl, w))))),
      )

  sections_said : number ≡ 0 → Sections listing_settings llc_snap size u text
  sections_said e =
      rw s.sent (round_trip listing_settings llc_snap size u out _ (sent_by_number listing_settings llc_snap size u out (sym s.told ∙ e))).sections

pub still_by_4080 : StillBy4080
still_by_4080 u out number text unit s =
    let p = in_pieces_said _ _ u out s (omega arith) (omega arith) unit in
    let other = other_said _ _ u out s (omega arith) (omega arith) unit in
    record {
      other = (λ e. (other.0 e).1, λ w. other.1 (refl, w));
      over = λ one. (p (λ w. one w.1)).over;
      within = λ one. (p (λ w. one w.1)).within;
      sections = sections_said _ _ u out s;
    }
