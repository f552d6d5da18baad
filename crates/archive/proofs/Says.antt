-- What a sending says, by its answer.
use Prim.Native.Nat.{ℕ}
use mathlib.Core.Path.{sym}
use mathlib.Core.List.{List, []}
use lib.ListN.{take}
use lib.Seq.{length-take-le}
use Rattle.std.proofs.Common.{Ok, Err}
use Rattle.rules.specs.declared.Refusal.{Refusal}
use Rattle.rules.specs.Told.{number, sending_told}
use Rattle.rules.specs.Send.{SendOutcome, Sends, sending_number, sending_length}
use Rattle.rules.proofs.Send.{sent_all_fits}
use Rattle.archive.specs.Archive.{Says}

module _ {o : SendOutcome} {out : List ℕ} where
  pub says_sent : (n : ℕ) → Sends o (Ok n) out → Says o 0 (take n out)
  unfolding sending_told sending_number sending_length
  says_sent n s = record { told = rw (sym s.sending); sent = rw (sym s.sending, s.output) }

  pub says_unsent : (r : Refusal) → Sends o (Err r) out → Says o (number r) []
  unfolding sending_told sending_number sending_length
  says_unsent r s = record { told = rw (sym s.sending); sent = rw (sym s.sending) }

pub ruleset sends = (says_sent, says_unsent, sent_all_fits, length-take-le)
