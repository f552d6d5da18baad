-- Document 02, request 7, of the real contracts: where no piece size is given and none of 10, 51 and 54 applies, a unit gets 52 exactly where
-- it is longer than 1,008 bytes for each section of the limit, and no section has more than 1,024 bytes. The words are in rules/specs/Pieces.antt.
use Rattle.rules.specs.Pieces.{SmallSections}
use Rattle.rules.specs.Send.{sending_length, sending_number}
use Rattle.rules.specs.Told.{sending_told}
use Rattle.demands.specs.Abroad.{default_gave, default_given}
use Rattle.demands.specs.Allowed.{Allowed}
use Rattle.demands.specs.Functions as contracts

pub record SmallByDefault : Type 0 where
  pub send_by_default : Allowed contracts.send_by_default
      (λ κs (settings, (llc_snap, (unit, (out, _)))) z (_, (_, (_, (after, _)))).
      SmallSections settings llc_snap unit.now out.now (sending_number (sending_told z)) (sending_length (sending_told z)) after.now)
  -- the exported function
  pub fossknut_send_by_default : Allowed contracts.fossknut_send_by_default
      (λ κs a z e. let given = default_given κs a in let gave = default_gave κs e in
      SmallSections given.settings given.llc_snap given.unit given.output z gave.length gave.output)
