-- The outcome is decided by the refusal's number: what is written where it is 0, else what there was.
use Prim.Native.Nat.{ℕ}
use native.Mathlib.Nat.{zero-add}
use native.Mathlib.Omega.{arith}
use mathlib.Core.Path.{◌≡◌, refl, ap, ◌∙◌}
use mathlib.Core.Bool.{Bool}
use mathlib.Core.List.{List, flatten}
use lib.ListN.{length}
use lib.Seq.{take_all, take-length}
use Rattle.wire.specs.Choice.{first_of}
use Rattle.rules.specs.declared.Settings.{Settings}
use Rattle.std.specs.Prelude.{Ok, Err}
use Rattle.rules.specs.declared.Refusal.{Refusal}
use Rattle.rules.specs.Answers.{Sent, Unsent}
use Rattle.rules.specs.Told.{number, sending_told}
use Rattle.rules.specs.Send.{sections, send_lines, Sends, sent_of, written}
use Rattle.rules.proofs.Send.{accepted, sent_is, unsent_is}
use Rattle.rules.proofs.Told.{numbered}
use Rattle.wire.specs.Puts.{Puts}

module _ (c : Settings) (llc_snap : Bool) (n : ℕ) (u out : List ℕ) where
  pub refused : {r : Refusal} → number r ≡ first_of (send_lines c llc_snap n u out) → Sends (sent_of c llc_snap n u out) (Err r) out
  unfolding sending_told
  refused {r} e =
      rw (unsent_is c llc_snap n u out (λ z. numbered r (e ∙ z))) (record { sending = ap Unsent e; output = refl })

  pub sent : {m : ℕ} {out' : List ℕ} → first_of (send_lines c llc_snap n u out) ≡ 0 → Puts out 0 (flatten (sections c llc_snap n u)) m out'
      → Sends (sent_of c llc_snap n u out) (Ok m) out'
  unfolding written sending_told
  sent h p =
      let bytes : List ℕ = flatten (sections c llc_snap n u) in
      let room = (accepted c llc_snap n u out h).room in
      rw (sent_is c llc_snap n u out h)
      (record {
        sending = ap Sent (p.end ∙ omega arith);
        output = p.bytes ∙ rw (take-length bytes, take_all (length out) bytes room, zero-add);
      })
