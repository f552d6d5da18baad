-- Any two results that the contract of an open function allows are equal, and so are any two contents of a lent buffer.
-- `Learnt` is the contract itself, not a copy: what a caller learns of the result and of what it lent.
use Rattle.std.specs.Prelude.{ℕ, ◌≡◌, List}
use Rattle.std.specs.Borrow.{Bor}
use Rattle.notification_rules.specs.Told.{SameRead}
use Rattle.demands.specs.Abroad.{default_gave, gap_gave, offset_gave, packet_gave, receive_gave, send_gave}
use Rattle.demands.specs.Allowed.{AnyTwo, Function}
use Rattle.demands.specs.Errors.{refusals, numbers}
use Rattle.demands.specs.Functions as contracts

-- results z and y are equal
abbrev pub OneResult : Function → Type 0
OneResult f = AnyTwo f (λ κs z y e d. z ≡ y)

-- which part of what was lent is handed out: its bytes, its block and its offset there
abbrev pub SamePart : Bor (List ℕ) → Bor (List ℕ) → Type 0
SamePart z y = (z.now ≡ y.now) × (z.ref_ptr.0 ≡ y.ref_ptr.0) × (z.ref_ptr.1 ≡ y.ref_ptr.1)

pub record Tight : Type 0 where
  -- wire
  pub byte_at : OneResult contracts.byte_at
  pub u16_at : OneResult contracts.u16_at
  pub u32_at : OneResult contracts.u32_at
  pub u32_bytes : OneResult contracts.u32_bytes
  pub smaller : OneResult contracts.smaller
  pub both : OneResult contracts.both
  pub either : OneResult contracts.either
  pub first : OneResult contracts.first
  pub copy : AnyTwo contracts.copy
      (λ κs z y (_, (e, _)) (_, (d, _)). e.now ≡ d.now)
  pub put : AnyTwo contracts.put
      (λ κs z y (_, (_, (e, _))) (_, (_, (d, _))). (z ≡ y) × (e.now ≡ d.now))
  -- rules
  pub refusal_number : OneResult contracts.refusal_number
  -- crc
  pub crc_32 : OneResult contracts.crc_32
  -- section_fields
  pub table_id : OneResult contracts.table_id
  pub section_syntax_indicator : OneResult contracts.section_syntax_indicator
  pub private_indicator : OneResult contracts.private_indicator
  pub section_length : OneResult contracts.section_length
  pub address : OneResult contracts.address
  pub payload_scrambling_control : OneResult contracts.payload_scrambling_control
  pub address_scrambling_control : OneResult contracts.address_scrambling_control
  pub llc_snap_flag : OneResult contracts.llc_snap_flag
  pub current_next_indicator : OneResult contracts.current_next_indicator
  pub section_number : OneResult contracts.section_number
  pub last_section_number : OneResult contracts.last_section_number
  pub payload : AnyTwo contracts.payload
      (λ κs z y e d. SamePart z y)
  pub checked : AnyTwo contracts.checked
      (λ κs z y e d. SamePart z y)
  pub crc_field : OneResult contracts.crc_field
  -- section_header
  pub header : OneResult contracts.header
  -- section_check
  pub shared_refusal : OneResult contracts.shared_refusal
  pub check : OneResult contracts.check
  -- settings
  pub good_settings : OneResult contracts.good_settings
  pub same_address : OneResult contracts.same_address
  -- unit_end
  pub unit_end : OneResult contracts.unit_end
  -- receiver: the answer, the state after, and what is left in the buffer
  pub receive : AnyTwo contracts.receive
      (λ κs z y (_, (_, (_, (e, _)))) (_, (_, (_, (d, _)))). (z ≡ y) × (e.now ≡ d.now))
  pub gap : OneResult contracts.gap
  -- sender: the answer, and what is left in the output
  pub send : AnyTwo contracts.send
      (λ κs z y (_, (_, (_, (_, (e, _))))) (_, (_, (_, (_, (d, _))))). (z ≡ y) × (e.now ≡ d.now))
  pub send_by_default : AnyTwo contracts.send_by_default
      (λ κs z y (_, (_, (_, (e, _)))) (_, (_, (_, (d, _)))). (z ≡ y) × (e.now ≡ d.now))
  -- recording
  pub listing_settings : OneResult contracts.listing_settings
  pub offer_length : OneResult contracts.offer_length
  -- notification: the refusal, or the part of the section
  pub notification_read : AnyTwo contracts.notification_read
      (λ κs z y e d. SameRead z y)
  pub finding : OneResult contracts.finding
  -- pes_rules, pes
  pub pes_refusal_number : OneResult contracts.pes_refusal_number
  pub pes_read : OneResult contracts.pes_read
  pub pes_data : AnyTwo contracts.pes_data
      (λ κs z y e d. SamePart z y)
  -- answer_numbers, notification_numbers: of the code's refusals, and of bare numbers
  pub number_of : OneResult (contracts.number_of refusals)
  pub length_of : OneResult (contracts.length_of refusals)
  pub sending_number : OneResult (contracts.sending_number refusals)
  pub sending_length : OneResult (contracts.sending_length refusals)
  pub finding_number : OneResult (contracts.finding_number refusals)
  pub finding_offset : OneResult (contracts.finding_offset refusals)
  pub number_of_bare : OneResult (contracts.number_of numbers)
  pub length_of_bare : OneResult (contracts.length_of numbers)
  pub sending_number_bare : OneResult (contracts.sending_number numbers)
  pub sending_length_bare : OneResult (contracts.sending_length numbers)
  pub finding_number_bare : OneResult (contracts.finding_number numbers)
  pub finding_offset_bare : OneResult (contracts.finding_offset numbers)
  -- caller_numbers
  pub address_of : OneResult contracts.address_of
  pub settings_of : OneResult contracts.settings_of
  pub state_of : OneResult contracts.state_of
  pub state_bytes : OneResult contracts.state_bytes
  -- fossknut: the answer, and all that is given back
  pub fossknut_crc_32 : OneResult contracts.fossknut_crc_32
  pub fossknut_check : OneResult contracts.fossknut_check
  pub fossknut_receive : AnyTwo contracts.fossknut_receive
      (λ κs z y e d. (z ≡ y) × (receive_gave κs e ≡ receive_gave κs d))
  pub fossknut_gap : AnyTwo contracts.fossknut_gap
      (λ κs z y e d. gap_gave κs e ≡ gap_gave κs d)
  pub fossknut_send : AnyTwo contracts.fossknut_send
      (λ κs z y e d. (z ≡ y) × (send_gave κs e ≡ send_gave κs d))
  pub fossknut_send_by_default : AnyTwo contracts.fossknut_send_by_default
      (λ κs z y e d. (z ≡ y) × (default_gave κs e ≡ default_gave κs d))
  pub fossknut_notification : AnyTwo contracts.fossknut_notification
      (λ κs z y e d. (z ≡ y) × (offset_gave κs e ≡ offset_gave κs d))
  pub fossknut_pes : AnyTwo contracts.fossknut_pes
      (λ κs z y e d. packet_gave κs z e ≡ packet_gave κs y d)
