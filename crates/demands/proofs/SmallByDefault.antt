-- Each contract is an equation with the rules' outcome, of which the rules' theorem speaks.
use Rattle.rules.proofs.Pieces.{small_by_default}
use Rattle.demands.specs.Abroad.{default_given, SendGiven}
use Rattle.demands.specs.SmallByDefault.{SmallByDefault}

pub of_contracts : SmallByDefault
of_contracts =
    record {
      send_by_default = λ κs (c, (llc_snap, (u, (out, _)))) z e p good unit one.
          rw (p.sending, p.output) (small_by_default c llc_snap u.now out.now good unit one);
      fossknut_send_by_default = λ κs a z e p good unit one. let g : SendGiven = default_given κs a in
          rw (p.number, p.length, p.output) (small_by_default g.settings g.llc_snap g.unit g.output good unit one);
    }
