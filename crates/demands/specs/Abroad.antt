-- What a foreign caller gives to an exported function and is given back, by name. The patterns are the functions' parameters in their order; a
-- call's lifetimes come first.
use Rattle.std.specs.Prelude.{ℕ, List, Bool}
use contract.Lifetimes.{Lfts}
use Rattle.rules.specs.declared.Address.{Address}
use Rattle.rules.specs.declared.Settings.{Settings}
use Rattle.caller_numbers.specs.Numbers.{address_of, flag_of, settings_of}
use Rattle.demands.specs.Allowed.{Args, Exit}
use Rattle.demands.specs.Functions as contracts

-- ---- fossknut_receive: the state is sixteen bytes
pub record ReceiveGiven : Type 0 where
  pub settings : Settings
  pub state : List ℕ
  pub section : List ℕ
  pub buffer : List ℕ

abbrev pub receive_given : (κs : Lfts 4) → Args contracts.fossknut_receive κs → ReceiveGiven
receive_given κs (m1, (m2, (m3, (m4, (m5, (m6, (range, (limit, (state, (s, (buffer, _))))))))))) =
    record { settings = settings_of m1 m2 m3 m4 m5 m6 range limit; state = state.now; section = s.now; buffer = buffer.now }

pub record ReceiveGave : Type 0 where
  pub state : List ℕ
  pub buffer : List ℕ
  pub length : ℕ

abbrev pub receive_gave : (κs : Lfts 4) → Exit contracts.fossknut_receive κs → ReceiveGave
receive_gave κs (_, (_, (_, (_, (_, (_, (_, (_, (state, (_, (buffer, (length, _)))))))))))) =
    record { state = state.now; buffer = buffer.now; length = length.now }

-- ---- fossknut_gap
abbrev pub gap_given : (κs : Lfts 1) → Args contracts.fossknut_gap κs → List ℕ
gap_given κs (state, _) = state.now

abbrev pub gap_gave : (κs : Lfts 1) → Exit contracts.fossknut_gap κs → List ℕ
gap_gave κs (state, _) = state.now

-- ---- fossknut_send and fossknut_send_by_default, which is given no piece size
pub record SendGiven : Type 0 where
  pub settings : Settings
  pub llc_snap : Bool
  pub unit : List ℕ
  pub output : List ℕ

pub record SendGave : Type 0 where
  pub output : List ℕ
  pub length : ℕ

abbrev pub send_given : (κs : Lfts 3) → Args contracts.fossknut_send κs → SendGiven
send_given κs (m1, (m2, (m3, (m4, (m5, (m6, (range, (limit, (llc_snap, (_, (unit, (out, _)))))))))))) =
    record { settings = settings_of m1 m2 m3 m4 m5 m6 range limit; llc_snap = flag_of llc_snap; unit = unit.now; output = out.now }

abbrev pub size_given : (κs : Lfts 3) → Args contracts.fossknut_send κs → ℕ
size_given κs (_, (_, (_, (_, (_, (_, (_, (_, (_, (size, _)))))))))) = size

abbrev pub send_gave : (κs : Lfts 3) → Exit contracts.fossknut_send κs → SendGave
send_gave κs (_, (_, (_, (_, (_, (_, (_, (_, (_, (_, (_, (out, (length, _))))))))))))) = record { output = out.now; length = length.now }

abbrev pub default_given : (κs : Lfts 3) → Args contracts.fossknut_send_by_default κs → SendGiven
default_given κs (m1, (m2, (m3, (m4, (m5, (m6, (range, (limit, (llc_snap, (unit, (out, _))))))))))) =
    record { settings = settings_of m1 m2 m3 m4 m5 m6 range limit; llc_snap = flag_of llc_snap; unit = unit.now; output = out.now }

abbrev pub default_gave : (κs : Lfts 3) → Exit contracts.fossknut_send_by_default κs → SendGave
default_gave κs (_, (_, (_, (_, (_, (_, (_, (_, (_, (_, (out, (length, _)))))))))))) = record { output = out.now; length = length.now }

-- ---- fossknut_notification
pub record NotificationGiven : Type 0 where
  pub device : Address
  pub section : List ℕ

abbrev pub notification_given : (κs : Lfts 2) → Args contracts.fossknut_notification κs → NotificationGiven
notification_given κs (m1, (m2, (m3, (m4, (m5, (m6, (s, _))))))) = record { device = address_of m1 m2 m3 m4 m5 m6; section = s.now }

abbrev pub offset_gave : (κs : Lfts 2) → Exit contracts.fossknut_notification κs → ℕ
offset_gave κs (_, (_, (_, (_, (_, (_, (_, (offset, _)))))))) = offset.now

-- ---- fossknut_pes: the answer z, both flags as 0 or 1, both values, where the data begins and how long it is
pub record PacketNumbers : Type 0 where
  pub answer : ℕ
  pub extended : ℕ
  pub rated : ℕ
  pub extension : ℕ
  pub rate : ℕ
  pub offset : ℕ
  pub count : ℕ

abbrev pub packet_gave : (κs : Lfts 7) → ℕ → Exit contracts.fossknut_pes κs → PacketNumbers
packet_gave κs z (_, (extended, (rated, (extension, (rate, (offset, (length, _))))))) =
    record {
      answer = z;
      extended = extended.now;
      rated = rated.now;
      extension = extension.now;
      rate = rate.now;
      offset = offset.now;
      count = length.now;
    }
