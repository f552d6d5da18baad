-- Each contract is an equation with the rules' outcome, of which the rules' theorems speak.
use Prim.Native.Nat.{ℕ, ◌≤◌, ◌<◌}
use native.Mathlib.Omega.{arith}
use mathlib.Core.Path.{◌≡◌, ap, sym, ◌∙◌}
use mathlib.Core.Bool.{Bool}
use mathlib.Core.List.{List, ◌++◌, flatten, map}
use lib.ListN.{drop, length, length-map, take}
use lib.Seq.{take_all}
use Rattle.rules.specs.declared.Settings.{Settings}
use Rattle.rules.specs.Answers.{Sent}
use Rattle.rules.specs.Demand2.{Arrives, Demand2 as Carries}
use Rattle.rules.specs.Row.{fresh, section}
use Rattle.rules.specs.Send.{default_piece, sections, sending_length, sending_number, SendOutcome, sent_of}
use Rattle.rules.specs.Sound.{table3}
use Rattle.rules.proofs.Demand2.{round_trip}
use Rattle.rules.proofs.Exactly.{sound_exactly}
use Rattle.rules.proofs.Handed.{arrives_handed, handed_row}
use Rattle.rules.proofs.Send.{SentAll, sent_all, sent_all_bytes, sent_by_number}
use Rattle.demands.specs.Abroad.{default_given, send_given, SendGiven, size_given}
use Rattle.demands.specs.Demand2.{Demand2, GivenBack, SentRight}
use Rattle.demands.proofs.Demand3.{row_handed}

-- the row that arrives by the rules is what the code hands over
given_back : (c : Settings) (u : List ℕ) (xs : List (List ℕ))
    → ((b : List ℕ) → length u ≤ length b → Arrives c b xs u) → 0 < length xs → GivenBack c u xs
given_back c u xs a some b h ds k g =
    let is : ds ≡ handed_row c (fresh b) (map section xs) = row_handed c (fresh b) (map section xs) ds k g in
    rw is (arrives_handed c b xs u (a b h) some)

sent_right : (c : Settings) (llc_snap : Bool) (size : ℕ) (u out : List ℕ) → let o : SendOutcome = sent_of c llc_snap size u out in
    sending_number o.sending ≡ 0 → SentRight c llc_snap size u out (sending_length o.sending) o.output
sent_right c llc_snap size u out h =
    let o : SendOutcome = sent_of c llc_snap size u out in
    let n : ℕ = sending_length o.sending in
    let sent : o.sending ≡ Sent n = sent_by_number c llc_snap size u out h in
    let g : SentAll c llc_snap size u out n = sent_all c llc_snap size u out n sent in
    let bytes : take n o.output ≡ flatten (sections c llc_snap size u) = sent_all_bytes c llc_snap size u out n g in
    let d : Carries c llc_snap size u (take n o.output) = round_trip c llc_snap size u out n sent in
    record {
      written =
          record {
            bytes = take n o.output;
            sections = d.sections;
            long = g.size ∙ ap length (sym bytes);
            is = rw bytes (g.output ∙ ap (λ (x : List ℕ). x ++ drop (length (flatten (sections c llc_snap size u))) out)
                (take_all (length out) (flatten (sections c llc_snap size u)) g.accepted.room));
          };
      offered = d.offered;
      back = given_back c u (map table3 d.sections.values) d.arrives
          (omega (arith, length-map d.sections.values table3, d.sections.cut.some));
    }

pub demand_2 : Demand2
demand_2 =
    record {
      check = λ κs (s, _) z e p b. rw p (sound_exactly s.now b);
      send = λ κs (c, (llc_snap, (size, (u, (out, _))))) z e p q.
          rw (p.sending, p.output) (sent_right c llc_snap size u.now out.now (sym (ap sending_number p.sending) ∙ q));
      send_by_default = λ κs (c, (llc_snap, (u, (out, _)))) z e p q.
          rw (p.sending, p.output) (sent_right c llc_snap default_piece u.now out.now (sym (ap sending_number p.sending) ∙ q));
      fossknut_check = λ κs (s, _) z e p b. rw p (sound_exactly s.now b);
      fossknut_send = λ κs a z e p q. let g : SendGiven = send_given κs a in
          rw (p.length, p.output) (sent_right g.settings g.llc_snap (size_given κs a) g.unit g.output (sym p.number ∙ q));
      fossknut_send_by_default = λ κs a z e p q. let g : SendGiven = default_given κs a in
          rw (p.length, p.output) (sent_right g.settings g.llc_snap default_piece g.unit g.output (sym p.number ∙ q));
    }
