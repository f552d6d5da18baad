-- Demands 1 and 2 of the INT reader and the PES reader, of the real contracts: the number is that of the first row that applies; what tables 13
-- and 1 write is answered as its values say, and nothing else is taken; any other number gives nothing. The rows are in specs/Meaning.antt of
-- notification_rules and pes_rules, values and answers in specs/Format.antt of the one and specs/Written.antt of the other.
use Rattle.std.specs.Prelude.{ℕ, ◌≡◌, ◌↔◌, ◌⊎◌, ◌≢◌, List, [], cond, length}
use Rattle.wire.specs.Bytes.{Bytes}
use Rattle.wire.specs.Meaning.{FirstThat}
use Rattle.wire.specs.Part.{Is, Part, part}
use Rattle.rules.specs.declared.Address.{Address}
use Rattle.rules.specs.Address.{address_bytes}
use Rattle.notification_rules.specs.Format.{Answer, answer_to, Conforms, found_nobody, Notification, notification_written, refused_with, Written}
use Rattle.notification_rules.specs.Meaning.{notification_rows}
use Rattle.notification_rules.specs.Finding.{finding_number}
use Rattle.notification_rules.specs.Told.{finding_told, Handed, read_number}
use Rattle.pes_rules.specs.Reading.{Reading}
use Rattle.pes_rules.specs.Meaning.{packet_rows}
use Rattle.pes_rules.specs.Told.{told}
use Rattle.pes_rules.specs.Written.{Conforms as CanWrite, data_part_of, packet_of, reading_of, Values, Written as WrittenPacket, zeros}
use Rattle.demands.specs.Abroad.{notification_given, offset_gave, packet_gave, PacketNumbers}
use Rattle.demands.specs.Allowed.{Allowed}
use Rattle.demands.specs.Functions as contracts

-- ---- a device, a section and the number that is told; `Told` says that all that is told is what an answer has
pub record Findings (device : Address) (s : List ℕ) (number : ℕ) (Told : Answer → Type 0) : Type 0 where
  -- the first of 12 to 18, 30 to 33, 3 and 4 that applies
  pub means : Bytes (address_bytes device) → Bytes s → (k : ℕ) → (number ≡ k) ↔ FirstThat k (notification_rows device s)
  -- a section that table 13 writes is answered as its value says, 3 with the nine bytes and their offset
  pub written : Bytes (address_bytes device) → (n : Notification) → Conforms n → notification_written n ≡ s → Told (answer_to device n)
  -- and 3 and 4 are answered to no other
  pub taken : Bytes s → (number ≡ 3) ⊎ (number ≡ 4) → Written s
  -- "all but 3 hand back an empty part"
  pub nobody : number ≡ 4 → Told found_nobody
  pub refused : number ≢ 3 → number ≢ 4 → Told (refused_with number)

-- ---- a packet and the number that is told; `Told` says that all that is told is what a reading and a data part have
pub record Packets (s : List ℕ) (number : ℕ) (Told : Reading → Part → Type 0) : Type 0 where
  -- the first of 40 to 43 and 5 that applies
  pub means : (k : ℕ) → (number ≡ k) ↔ FirstThat k (packet_rows s)
  -- a packet that table 1 writes is read as its values say
  pub written : (v : Values) → CanWrite v → packet_of v ≡ s → Told (reading_of v) (data_part_of v)
  -- and 5 is answered to no other
  pub taken : Bytes s → number ≡ 5 → WrittenPacket s
  -- "a refusal gives zeros and an empty part"
  pub refused : number ≢ 5 → Told (zeros number) (part 0 [])

-- ---- the same as numbers, as `fossknut_pes` gives it
abbrev pub packet_numbers : Reading → Part → PacketNumbers
packet_numbers r p =
    record {
      answer = r.answer;
      extended = cond r.extended 1 0;
      rated = cond r.rated 1 0;
      extension = r.extension;
      rate = r.rate;
      offset = p.offset;
      count = length p.bytes;
    }

-- ---- what the contracts of the code allow
pub record Readers : Type 0 where
  pub finding : Allowed contracts.finding
      (λ κs (device, (s, _)) z e. Findings device s.now (finding_number (finding_told z)) (λ x. finding_told z ≡ x.finding))
  -- z hands out that part of the section, bytes and offset
  pub notification_read : Allowed contracts.notification_read
      (λ κs (device, (s, _)) z e.
      Findings device s.now (read_number z) (λ x. (read_number z ≡ x.number) × Handed s.ref_ptr x.given z))
  pub fossknut_notification : Allowed contracts.fossknut_notification
      (λ κs a z e. let given = notification_given κs a in
      Findings given.device given.section z (λ x. (z ≡ x.number) × (offset_gave κs e ≡ x.given.offset)))
  pub pes_read : Allowed contracts.pes_read
      (λ κs (packet, _) z e. Packets packet.now (told z).answer (λ r p. told z ≡ r))
  -- z is the data part of the packet, bytes and offset; the number is not told, and is the rows' own
  pub pes_data : Allowed contracts.pes_data
      (λ κs (packet, _) z e. (k : ℕ) × Packets packet.now k (λ r p. Is packet.ref_ptr p z))
  pub fossknut_pes : Allowed contracts.fossknut_pes
      (λ κs (packet, _) z e. Packets packet.now z (λ r p. packet_gave κs z e ≡ packet_numbers r p))
