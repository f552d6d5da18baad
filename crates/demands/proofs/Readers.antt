-- Each contract is an equation with the rules' outcome, and the rules' theorems say of that outcome what is asked.
use Prim.Native.Nat.{ℕ, ◌-◌}
use mathlib.Core.Path.{◌≡◌, refl, sym, ap, ap₂, subst, ◌∙◌}
use mathlib.Core.Logic.{◌↔◌}
use mathlib.Core.List.{List}
use mathlib.Core.Bool.{Bool, true, false, cond}
use lib.ListN.{length, length-drop, take}
use lib.Seq.{length-take-le}
use Rattle.wire.specs.Choice.{pick}
use Rattle.wire.specs.Part.{Is, Part}
use Rattle.rules.specs.declared.Address.{Address}
use Rattle.notification_rules.specs.Format.{Answer, answer_to, found_nobody, Gives, refused_with}
use Rattle.notification_rules.specs.Finding.{finding_number, finding_of}
use Rattle.notification_rules.specs.Told.{finding_told, Handed, read_number}
use Rattle.notification_rules.proofs.Answered.{written_is_found}
use Rattle.notification_rules.proofs.Exactly.{others_give_nothing, taken_exactly}
use Rattle.notification_rules.proofs.Meaning.{notification_means}
use Rattle.notification_rules.proofs.Told.{handed_is, read_number_is}
use Rattle.pes_rules.specs.Reading.{Reading}
use Rattle.pes_rules.specs.Packet.{data_of, read_of}
use Rattle.pes_rules.specs.Written.{data_part_of, Gives as GivesPacket, reading_of}
use Rattle.pes_rules.specs.Told.{told}
use Rattle.pes_rules.proofs.Answer.{data_within}
use Rattle.pes_rules.proofs.Exactly.{others_give_nothing as packet_others, taken_exactly as packet_taken}
use Rattle.pes_rules.proofs.Meaning.{packet_means}
use Rattle.pes_rules.proofs.Written.{written_is_read}
use Rattle.caller_numbers.specs.Numbers.{flag_number}
use Rattle.fossknut.specs.Told.{PacketTold}
use Rattle.demands.specs.Abroad.{NotificationGiven, notification_given}
use Rattle.demands.specs.Readers.{Findings, packet_numbers, Packets, Readers}

-- what is equal to the rules' number has its meaning
by : {m z n : ℕ} {p : Type 0} → z ≡ m → (m ≡ n) ↔ p → (z ≡ n) ↔ p
by e h = (λ q. h.0 (sym e ∙ q), λ x. e ∙ h.1 x)

-- ---- what holds of the outcome holds of a number that is the outcome's, and of all that is told with it
findings : (device : Address) (s : List ℕ) (number : ℕ) (Told : Answer → Type 0) → number ≡ finding_number (finding_of device s)
    → ((x : Answer) → Gives device s x → Told x) → Findings device s number Told
findings device s number Told e told =
    let others = others_give_nothing device s in
    record {
      means = λ d b k. by e (notification_means device s d b k);
      written = λ d n c w. told (answer_to device n) (rw w at (written_is_found device n d c));
      taken = λ b h. (taken_exactly device s b).0 (rw e at h);
      nobody = λ h. told found_nobody (others.nobody (sym e ∙ h));
      refused = λ j k. told (refused_with number) (rw e (others.refused (rw e at j) (rw e at k)));
    }

packets : (s : List ℕ) (number : ℕ) (Told : Reading → Part → Type 0) → number ≡ (read_of s).answer
    → ((r : Reading) (p : Part) → GivesPacket s r p → Told r p) → Packets s number Told
packets s number Told e told =
    record {
      means = λ k. by e (packet_means s k);
      written = λ v c w. told (reading_of v) (data_part_of v) (subst (λ (x : List ℕ). GivesPacket x (reading_of v) (data_part_of v)) w (written_is_read v c));
      taken = λ b h. (packet_taken s b).0 (sym e ∙ h);
      refused = λ h. told _ _ (rw e (packet_others s (rw e at h)));
    }

-- ---- a part that is equal to the part handed out
same_part : (start : ℕ × ℕ) (p q : Part) (z : _) → p ≡ q → Is start p z → Is start q z
same_part start p q z e h = rw e at h

-- ---- the numbers of a reading
flag_number_is : (b : Bool) → flag_number b ≡ cond b 1 0
unfolding flag_number pick
flag_number_is true = refl
flag_number_is false = refl

data_count : (s : List ℕ) → length (data_of s) ≡ (read_of s).end - (read_of s).offset
data_count s =
    let w = data_within s (read_of s) refl in
    length-drop (read_of s).offset (take (read_of s).end s) ∙ ap (λ (n : ℕ). n - (read_of s).offset) (length-take-le (read_of s).end s w.inside)

-- what a foreign caller is given of an outcome is what a reading and its data have
given : {s : List ℕ} {r : Reading} {p : Part} {z extended rated extension rate offset count : ℕ}
    → PacketTold (read_of s) z extended rated extension rate offset count → GivesPacket s r p
    → record {
      answer = z;
      extended = extended;
      rated = rated;
      extension = extension;
      rate = rate;
      offset = offset;
      count = count;
    }
    ≡ packet_numbers r p
given {s = s} t g =
    rw (t.answer, t.extended, t.rated, t.extension, t.rate, t.offset, t.length)
    (rw (flag_number_is (read_of s).extended, flag_number_is (read_of s).rated, ← data_count s) (ap₂ packet_numbers g.reading g.given))

pub readers : Readers
readers =
    record {
      finding = λ κs (device, (s, _)) z e p. findings device s.now (finding_number (finding_told z)) _ (ap finding_number p) (λ x g. p ∙ g.finding);
      notification_read = λ κs (device, (s, _)) z e p.
          let number : read_number z ≡ finding_number (finding_of device s.now) = read_number_is device s z p in
          findings device s.now (read_number z) _ number
          (λ x g. (number ∙ g.number, subst (λ (q : Part). Handed s.ref_ptr q z) g.given (handed_is device s z p)));
      fossknut_notification = λ κs a z e p. let given : NotificationGiven = notification_given κs a in
          findings given.device given.section z _ p.number (λ x g. (p.number ∙ g.number, p.offset ∙ g.offset));
      pes_read = λ κs (packet, _) z e p. packets packet.now (told z).answer _ (ap (λ (r : Reading). r.answer) p) (λ r q g. p ∙ g.reading);
      pes_data = λ κs (packet, _) z e p. ((read_of packet.now).answer, packets packet.now _ _ refl (λ r q g. same_part _ _ _ z g.given p));
      fossknut_pes = λ κs (packet, _) z e p. packets packet.now z _ p.answer (λ r q g. given p g);
    }
