-- The real contract of each open function, under one name: its parameters, its result, and what a caller learns.
use Rattle.demands.specs.Allowed.{Function, function}
use Rattle.demands.specs.Errors.{Errors}
use Rattle.wire.proofs as wire
use Rattle.rules.proofs as rules
use Rattle.crc.proofs as crc
use Rattle.section_fields.proofs as section_fields
use Rattle.section_header.proofs as section_header
use Rattle.section_check.proofs as section_check
use Rattle.settings.proofs as settings
use Rattle.unit_end.proofs as ends
use Rattle.receiver.proofs as receiver
use Rattle.sender.proofs as sender
use Rattle.recording.proofs as recording
use Rattle.notification.proofs as notification
use Rattle.pes_rules.proofs as pes_rules
use Rattle.pes.proofs as pes
use Rattle.answer_numbers.proofs as answer_numbers
use Rattle.notification_numbers.proofs as notification_numbers
use Rattle.caller_numbers.proofs as caller_numbers
use Rattle.fossknut.proofs as fossknut

abbrev pub byte_at : Function
byte_at = function wire.byte_at.Kinds.ps wire.byte_at.Kinds.r wire.byte_at.Reads.Learnt

abbrev pub u16_at : Function
u16_at = function wire.u16_at.Kinds.ps wire.u16_at.Kinds.r wire.u16_at.Reads.Learnt

abbrev pub u32_at : Function
u32_at = function wire.u32_at.Kinds.ps wire.u32_at.Kinds.r wire.u32_at.Reads.Learnt

abbrev pub u32_bytes : Function
u32_bytes = function wire.u32_bytes.Kinds.ps wire.u32_bytes.Kinds.r wire.u32_bytes.Reads.Learnt

abbrev pub smaller : Function
smaller = function wire.smaller.Kinds.ps wire.smaller.Kinds.r wire.smaller.Reads.Learnt

abbrev pub copy : Function
copy = function wire.copy.Kinds.ps wire.copy.Kinds.r wire.copy.Reads.Learnt

abbrev pub put : Function
put = function wire.put.Kinds.ps wire.put.Kinds.r wire.put.Reads.Learnt

abbrev pub both : Function
both = function wire.both.Kinds.ps wire.both.Kinds.r wire.both.Reads.Learnt

abbrev pub either : Function
either = function wire.either.Kinds.ps wire.either.Kinds.r wire.either.Reads.Learnt

abbrev pub first : Function
first = function wire.first.Kinds.ps wire.first.Kinds.r wire.first.Reads.Learnt

abbrev pub refusal_number : Function
refusal_number = function rules.U8FromRefusal.from.Kinds.ps rules.U8FromRefusal.from.Kinds.r rules.U8FromRefusal.from.Reads.Learnt

abbrev pub crc_32 : Function
crc_32 = function crc.crc_32.Kinds.ps crc.crc_32.Kinds.r crc.crc_32.Reads.Learnt

abbrev pub table_id : Function
table_id = function section_fields.table_id.Kinds.ps section_fields.table_id.Kinds.r section_fields.table_id.Reads.Learnt

abbrev pub section_syntax_indicator : Function
section_syntax_indicator = function section_fields.section_syntax_indicator.Kinds.ps section_fields.section_syntax_indicator.Kinds.r section_fields.section_syntax_indicator.Reads.Learnt

abbrev pub private_indicator : Function
private_indicator = function section_fields.private_indicator.Kinds.ps section_fields.private_indicator.Kinds.r section_fields.private_indicator.Reads.Learnt

abbrev pub section_length : Function
section_length = function section_fields.section_length.Kinds.ps section_fields.section_length.Kinds.r section_fields.section_length.Reads.Learnt

abbrev pub address : Function
address = function section_fields.address.Kinds.ps section_fields.address.Kinds.r section_fields.address.Reads.Learnt

abbrev pub payload_scrambling_control : Function
payload_scrambling_control = function section_fields.payload_scrambling_control.Kinds.ps section_fields.payload_scrambling_control.Kinds.r section_fields.payload_scrambling_control.Reads.Learnt

abbrev pub address_scrambling_control : Function
address_scrambling_control = function section_fields.address_scrambling_control.Kinds.ps section_fields.address_scrambling_control.Kinds.r section_fields.address_scrambling_control.Reads.Learnt

abbrev pub llc_snap_flag : Function
llc_snap_flag = function section_fields.llc_snap_flag.Kinds.ps section_fields.llc_snap_flag.Kinds.r section_fields.llc_snap_flag.Reads.Learnt

abbrev pub current_next_indicator : Function
current_next_indicator = function section_fields.current_next_indicator.Kinds.ps section_fields.current_next_indicator.Kinds.r section_fields.current_next_indicator.Reads.Learnt

abbrev pub section_number : Function
section_number = function section_fields.section_number.Kinds.ps section_fields.section_number.Kinds.r section_fields.section_number.Reads.Learnt

abbrev pub last_section_number : Function
last_section_number = function section_fields.last_section_number.Kinds.ps section_fields.last_section_number.Kinds.r section_fields.last_section_number.Reads.Learnt

abbrev pub payload : Function
payload = function section_fields.payload.Kinds.ps section_fields.payload.Kinds.r section_fields.payload.Reads.Learnt

abbrev pub checked : Function
checked = function section_fields.checked.Kinds.ps section_fields.checked.Kinds.r section_fields.checked.Reads.Learnt

abbrev pub crc_field : Function
crc_field = function section_fields.crc_field.Kinds.ps section_fields.crc_field.Kinds.r section_fields.crc_field.Reads.Learnt

abbrev pub header : Function
header = function section_header.header.Kinds.ps section_header.header.Kinds.r section_header.header.Reads.Learnt

abbrev pub shared_refusal : Function
shared_refusal = function section_check.shared_refusal.Kinds.ps section_check.shared_refusal.Kinds.r section_check.shared_refusal.Reads.Learnt

abbrev pub check : Function
check = function section_check.check.Kinds.ps section_check.check.Kinds.r section_check.check.Reads.Learnt

abbrev pub good_settings : Function
good_settings = function settings.good_settings.Kinds.ps settings.good_settings.Kinds.r settings.good_settings.Reads.Learnt

abbrev pub same_address : Function
same_address = function settings.same_address.Kinds.ps settings.same_address.Kinds.r settings.same_address.Reads.Learnt

abbrev pub unit_end : Function
unit_end = function ends.unit_end.Kinds.ps ends.unit_end.Kinds.r ends.unit_end.Reads.Learnt

abbrev pub receive : Function
receive = function receiver.receive.Kinds.ps receiver.receive.Kinds.r receiver.receive.Reads.Learnt

abbrev pub gap : Function
gap = function receiver.gap.Kinds.ps receiver.gap.Kinds.r receiver.gap.Reads.Learnt

abbrev pub send : Function
send = function sender.send.Kinds.ps sender.send.Kinds.r sender.send.Reads.Learnt

abbrev pub send_by_default : Function
send_by_default = function sender.send_by_default.Kinds.ps sender.send_by_default.Kinds.r sender.send_by_default.Reads.Learnt

abbrev pub listing_settings : Function
listing_settings = function recording.listing_settings.Kinds.ps recording.listing_settings.Kinds.r recording.listing_settings.Reads.Learnt

abbrev pub offer_length : Function
offer_length = function recording.offer_length.Kinds.ps recording.offer_length.Kinds.r recording.offer_length.Reads.Learnt

abbrev pub notification_read : Function
notification_read = function notification.read.Kinds.ps notification.read.Kinds.r notification.read.Reads.Learnt

abbrev pub finding : Function
finding = function notification.finding.Kinds.ps notification.finding.Kinds.r notification.finding.Reads.Learnt

abbrev pub pes_refusal_number : Function
pes_refusal_number = function pes_rules.U8FromRefusal.from.Kinds.ps pes_rules.U8FromRefusal.from.Kinds.r pes_rules.U8FromRefusal.from.Reads.Learnt

abbrev pub pes_read : Function
pes_read = function pes.read.Kinds.ps pes.read.Kinds.r pes.read.Reads.Learnt

abbrev pub pes_data : Function
pes_data = function pes.data.Kinds.ps pes.data.Kinds.r pes.data.Reads.Learnt

-- these take whatever stands for a refusal
abbrev pub number_of : Errors → Function
number_of E = function (answer_numbers.number_of.Kinds.ps E.row E.laws) (answer_numbers.number_of.Kinds.r E.row E.laws) (answer_numbers.number_of.Reads.Learnt E.row E.laws E.number E.code)

abbrev pub length_of : Errors → Function
length_of E = function (answer_numbers.length_of.Kinds.ps E.row E.laws) (answer_numbers.length_of.Kinds.r E.row E.laws) (answer_numbers.length_of.Reads.Learnt E.row E.laws E.code)

abbrev pub sending_number : Errors → Function
sending_number E = function (answer_numbers.sending_number.Kinds.ps E.row E.laws) (answer_numbers.sending_number.Kinds.r E.row E.laws) (answer_numbers.sending_number.Reads.Learnt E.row E.laws E.number E.code)

abbrev pub sending_length : Errors → Function
sending_length E = function (answer_numbers.sending_length.Kinds.ps E.row E.laws) (answer_numbers.sending_length.Kinds.r E.row E.laws) (answer_numbers.sending_length.Reads.Learnt E.row E.laws E.code)

abbrev pub finding_number : Errors → Function
finding_number E = function (notification_numbers.finding_number.Kinds.ps E.row E.laws) (notification_numbers.finding_number.Kinds.r E.row E.laws) (notification_numbers.finding_number.Reads.Learnt E.row E.laws E.number E.code)

abbrev pub finding_offset : Errors → Function
finding_offset E = function (notification_numbers.finding_offset.Kinds.ps E.row E.laws) (notification_numbers.finding_offset.Kinds.r E.row E.laws) (notification_numbers.finding_offset.Reads.Learnt E.row E.laws E.code)

abbrev pub address_of : Function
address_of = function caller_numbers.address_of.Kinds.ps caller_numbers.address_of.Kinds.r caller_numbers.address_of.Reads.Learnt

abbrev pub settings_of : Function
settings_of = function caller_numbers.settings_of.Kinds.ps caller_numbers.settings_of.Kinds.r caller_numbers.settings_of.Reads.Learnt

abbrev pub state_of : Function
state_of = function caller_numbers.state_of.Kinds.ps caller_numbers.state_of.Kinds.r caller_numbers.state_of.Reads.Learnt

abbrev pub state_bytes : Function
state_bytes = function caller_numbers.state_bytes.Kinds.ps caller_numbers.state_bytes.Kinds.r caller_numbers.state_bytes.Reads.Learnt

abbrev pub fossknut_crc_32 : Function
fossknut_crc_32 = function fossknut.fossknut_crc_32.Kinds.ps fossknut.fossknut_crc_32.Kinds.r fossknut.fossknut_crc_32.Reads.Learnt

abbrev pub fossknut_check : Function
fossknut_check = function fossknut.fossknut_check.Kinds.ps fossknut.fossknut_check.Kinds.r fossknut.fossknut_check.Reads.Learnt

abbrev pub fossknut_receive : Function
fossknut_receive = function fossknut.fossknut_receive.Kinds.ps fossknut.fossknut_receive.Kinds.r fossknut.fossknut_receive.Reads.Learnt

abbrev pub fossknut_gap : Function
fossknut_gap = function fossknut.fossknut_gap.Kinds.ps fossknut.fossknut_gap.Kinds.r fossknut.fossknut_gap.Reads.Learnt

abbrev pub fossknut_send : Function
fossknut_send = function fossknut.fossknut_send.Kinds.ps fossknut.fossknut_send.Kinds.r fossknut.fossknut_send.Reads.Learnt

abbrev pub fossknut_send_by_default : Function
fossknut_send_by_default = function fossknut.fossknut_send_by_default.Kinds.ps fossknut.fossknut_send_by_default.Kinds.r fossknut.fossknut_send_by_default.Reads.Learnt

abbrev pub fossknut_notification : Function
fossknut_notification = function fossknut.fossknut_notification.Kinds.ps fossknut.fossknut_notification.Kinds.r fossknut.fossknut_notification.Reads.Learnt

abbrev pub fossknut_pes : Function
fossknut_pes = function fossknut.fossknut_pes.Kinds.ps fossknut.fossknut_pes.Kinds.r fossknut.fossknut_pes.Reads.Learnt
