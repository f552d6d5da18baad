-- Demand 2 of the real contracts: what the check takes and the sender writes is right by table 3, and what the sender has written, given in
-- order to a fresh receiver with the same settings and room enough, gives back exactly the bytes sent. Its words are defined in
-- rules/specs/Sound.antt and Demand2.antt; of the INT and the PES reader specs/Readers.antt speaks.
use Rattle.std.specs.Prelude.{ℕ, ◌-◌, ◌≤◌, ◌≡◌, ◌↔◌, Bool, List, [], ◌∷◌, ◌++◌, map, length, replicate}
use Rattle.wire.specs.Bytes.{Bytes}
use Rattle.rules.specs.declared.Settings.{Settings}
use Rattle.rules.specs.After.{Written}
use Rattle.rules.specs.Recording.{offers}
use Rattle.rules.specs.Row.{datagram, fresh, Handed, Held, nothing, section}
use Rattle.rules.specs.Send.{sending_length, sending_number}
use Rattle.rules.specs.Sound.{Sound, table3}
use Rattle.rules.specs.Told.{refusal_number, sending_told}
use Rattle.demands.specs.Abroad.{default_gave, default_given, send_gave, send_given, size_given}
use Rattle.demands.specs.Allowed.{Allowed}
use Rattle.demands.specs.Functions as contracts
use Rattle.demands.specs.Demand3.{GivenRow}

-- given in order to the code, fresh and with room, the sections give nothing at each but the last, and the unit at the last
abbrev pub GivenBack : Settings → List ℕ → List (List ℕ) → Type 0
GivenBack c u xs =
    (b : List ℕ) → length u ≤ length b → (ds : List Handed) (h : Held) → GivenRow c (fresh b) (map section xs) ds h
    → ds ≡ replicate (length ds - 1) nothing ++ (datagram (length u) u ∷ [])

-- what is written: the sections, from the start of the output; cut as the listing cuts, they are these one by one; and they give the unit back
pub record SentRight (c : Settings) (llc_snap : Bool) (size : ℕ) (u out : List ℕ) (total : ℕ) (output : List ℕ) : Type 0 where
  pub written : Written c llc_snap size u out total output
  pub offered : offers written.bytes ≡ map table3 written.sections.values
  pub back : GivenBack c u (map table3 written.sections.values)

pub record Demand2 : Type 0 where
  -- none of 12 to 19 and 24 applies exactly to what table 3 writes
  pub check : Allowed contracts.check
      (λ κs (s, _) z e. Bytes s.now → (refusal_number z ≡ 0) ↔ Sound s.now)
  pub send : Allowed contracts.send
      (λ κs (settings, (llc_snap, (size, (unit, (out, _))))) z (_, (_, (_, (_, (after, _))))). sending_number (sending_told z) ≡ 0
      → SentRight settings llc_snap size unit.now out.now (sending_length (sending_told z)) after.now)
  -- where no piece size is given, it is 1,008
  pub send_by_default : Allowed contracts.send_by_default
      (λ κs (settings, (llc_snap, (unit, (out, _)))) z (_, (_, (_, (after, _)))). sending_number (sending_told z) ≡ 0
      → SentRight settings llc_snap 1008 unit.now out.now (sending_length (sending_told z)) after.now)
  -- the exported functions
  pub fossknut_check : Allowed contracts.fossknut_check
      (λ κs (s, _) z e. Bytes s.now → (z ≡ 0) ↔ Sound s.now)
  pub fossknut_send : Allowed contracts.fossknut_send
      (λ κs a z e. let given = send_given κs a in let gave = send_gave κs e in z ≡ 0
      → SentRight given.settings given.llc_snap (size_given κs a) given.unit given.output gave.length gave.output)
  pub fossknut_send_by_default : Allowed contracts.fossknut_send_by_default
      (λ κs a z e. let given = default_given κs a in let gave = default_gave κs e in z ≡ 0
      → SentRight given.settings given.llc_snap 1008 given.unit given.output gave.length gave.output)
