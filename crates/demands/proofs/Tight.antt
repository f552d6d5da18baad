-- Each contract gives the result, or what it tells, by an equation, so two results are equal to one thing.
use mathlib.Core.Path.{sym, ◌∙◌}
use Rattle.wire.proofs.Puts.{puts_once}
use Rattle.rules.proofs.Told.{refusal_number_same, sending_same, step_same}
use Rattle.notification_rules.proofs.Told.{finding_same, read_same}
use Rattle.pes_rules.proofs.Told.{told_injective}
use Rattle.demands.specs.Tight.{Tight}
use Rattle.demands.proofs.Numbers.{numbers}

pub tight : Tight
tight =
    record {
      byte_at = λ κs a z y e d p q. p.is ∙ sym q.is;
      u16_at = λ κs a z y e d p q. p.is ∙ sym q.is;
      u32_at = λ κs a z y e d p q. p.is ∙ sym q.is;
      u32_bytes = λ κs a z y e d p q. p ∙ sym q;
      smaller = λ κs a z y e d p q. p ∙ sym q;
      both = λ κs a z y e d p q. p ∙ sym q;
      either = λ κs a z y e d p q. p ∙ sym q;
      first = λ κs a z y e d p q. p ∙ sym q;
      copy = λ κs a z y e d p q. p ∙ sym q;
      put = λ κs a z y e d p q. puts_once p q;
      refusal_number = λ κs a z y e d p q. p ∙ sym q;
      crc_32 = λ κs a z y e d p q. p ∙ sym q;
      table_id = λ κs a z y e d p q. p ∙ sym q;
      section_syntax_indicator = λ κs a z y e d p q. p ∙ sym q;
      private_indicator = λ κs a z y e d p q. p ∙ sym q;
      section_length = λ κs a z y e d p q. p.is ∙ sym q.is;
      address = λ κs a z y e d p q. p ∙ sym q;
      payload_scrambling_control = λ κs a z y e d p q. p ∙ sym q;
      address_scrambling_control = λ κs a z y e d p q. p ∙ sym q;
      llc_snap_flag = λ κs a z y e d p q. p ∙ sym q;
      current_next_indicator = λ κs a z y e d p q. p ∙ sym q;
      section_number = λ κs a z y e d p q. p ∙ sym q;
      last_section_number = λ κs a z y e d p q. p ∙ sym q;
      payload = λ κs a z y e d p q. (p.bytes ∙ sym q.bytes, p.block ∙ sym q.block, p.offset ∙ sym q.offset);
      checked = λ κs a z y e d p q. (p.bytes ∙ sym q.bytes, p.block ∙ sym q.block, p.offset ∙ sym q.offset);
      crc_field = λ κs a z y e d p q. p.is ∙ sym q.is;
      header = λ κs a z y e d p q. p ∙ sym q;
      shared_refusal = λ κs a z y e d p q. refusal_number_same z y (p ∙ sym q);
      check = λ κs a z y e d p q. refusal_number_same z y (p ∙ sym q);
      good_settings = λ κs a z y e d p q. p ∙ sym q;
      same_address = λ κs a z y e d p q. p ∙ sym q;
      unit_end = λ κs a z y e d p q. p ∙ sym q;
      receive = λ κs a z y e d p q. (step_same z y (p.step ∙ sym q.step), p.buffer ∙ sym q.buffer);
      gap = λ κs a z y e d p q. p ∙ sym q;
      send = λ κs a z y e d p q. (sending_same z y (p.sending ∙ sym q.sending), p.output ∙ sym q.output);
      send_by_default = λ κs a z y e d p q. (sending_same z y (p.sending ∙ sym q.sending), p.output ∙ sym q.output);
      listing_settings = λ κs a z y e d p q. p ∙ sym q;
      offer_length = λ κs a z y e d p q. p ∙ sym q;
      notification_read = λ κs (device, (s, _)) z y e d p q. read_same device s z y p q;
      finding = λ κs a z y e d p q. finding_same z y (p ∙ sym q);
      pes_refusal_number = λ κs a z y e d p q. p ∙ sym q;
      pes_read = λ κs a z y e d p q. told_injective z y (p ∙ sym q);
      pes_data = λ κs a z y e d p q. (p.bytes ∙ sym q.bytes, p.block ∙ sym q.block, p.offset ∙ sym q.offset);
      number_of = λ κs a z y e d p q. numbers.number_of κs a z e p ∙ sym (numbers.number_of κs a y d q);
      length_of = λ κs a z y e d p q. numbers.length_of κs a z e p ∙ sym (numbers.length_of κs a y d q);
      sending_number = λ κs a z y e d p q. numbers.sending_number κs a z e p ∙ sym (numbers.sending_number κs a y d q);
      sending_length = λ κs a z y e d p q. numbers.sending_length κs a z e p ∙ sym (numbers.sending_length κs a y d q);
      finding_number = λ κs a z y e d p q. numbers.finding_number κs a z e p ∙ sym (numbers.finding_number κs a y d q);
      finding_offset = λ κs a z y e d p q. numbers.finding_offset κs a z e p ∙ sym (numbers.finding_offset κs a y d q);
      number_of_bare = λ κs a z y e d p q. numbers.number_of_bare κs a z e p ∙ sym (numbers.number_of_bare κs a y d q);
      length_of_bare = λ κs a z y e d p q. numbers.length_of_bare κs a z e p ∙ sym (numbers.length_of_bare κs a y d q);
      sending_number_bare = λ κs a z y e d p q. numbers.sending_number_bare κs a z e p ∙ sym (numbers.sending_number_bare κs a y d q);
      sending_length_bare = λ κs a z y e d p q. numbers.sending_length_bare κs a z e p ∙ sym (numbers.sending_length_bare κs a y d q);
      finding_number_bare = λ κs a z y e d p q. numbers.finding_number_bare κs a z e p ∙ sym (numbers.finding_number_bare κs a y d q);
      finding_offset_bare = λ κs a z y e d p q. numbers.finding_offset_bare κs a z e p ∙ sym (numbers.finding_offset_bare κs a y d q);
      address_of = λ κs a z y e d p q. p ∙ sym q;
      settings_of = λ κs a z y e d p q. p ∙ sym q;
      state_of = λ κs a z y e d p q. p ∙ sym q;
      state_bytes = λ κs a z y e d p q. p ∙ sym q;
      fossknut_crc_32 = λ κs a z y e d p q. p ∙ sym q;
      fossknut_check = λ κs a z y e d p q. p ∙ sym q;
      fossknut_receive = λ κs a z y e d p q. (p.answer ∙ sym q.answer, rw (p.state, q.state, p.buffer, q.buffer, p.unit, q.unit));
      fossknut_gap = λ κs a z y e d p q. p ∙ sym q;
      fossknut_send = λ κs a z y e d p q. (p.number ∙ sym q.number, rw (p.output, q.output, p.length, q.length));
      fossknut_send_by_default = λ κs a z y e d p q. (p.number ∙ sym q.number, rw (p.output, q.output, p.length, q.length));
      fossknut_notification = λ κs a z y e d p q. (p.number ∙ sym q.number, p.offset ∙ sym q.offset);
      fossknut_pes = λ κs a z y e d p q. rw (p.answer, q.answer, p.extended, q.extended, p.rated, q.rated, p.extension, q.extension, p.rate, q.rate, p.offset, q.offset, p.length, q.length);
    }
