-- Each row computes.
use mathlib.Core.List.{flatten}
use mathlib.Core.Path.{refl}
use Rattle.wire.specs.Bytes.{number_at, bytes_of}
use Rattle.wire.specs.Choice.{pick, both, either, first, first_of}
use Rattle.rules.specs.Crc.{crc_bit, crc_bits, crc_byte, crc_from, crc32}
use Rattle.rules.specs.Section.{table_id, section_syntax_indicator, private_indicator, section_length, address, payload_scrambling_control, address_scrambling_control, llc_snap_flag, current_next_indicator, section_number, last_section_number, payload, crc_field, header, sealed, section_of}
use Rattle.rules.specs.Check.{too_short, other_table, wrong_length, checksum_form, wrong_syntax, wrong_crc, not_current, out_of_order, address_scrambled, form_lines, order_lines, shared_lines, shared_refusal, check_lines, check}
use Rattle.rules.specs.Address.{agree, same_address}
use Rattle.rules.specs.Step.{number_of, length_of, good_settings, good_run, good_state, key_of, same_key, continues, onward, fill_from, ours, payload_scrambled, over_limit, own_lines, own_refusal, room, refuse_first, laid, joined_with, up_to, finish, keep, lay, setup_lines, step_of, gap_of}
use Rattle.rules.specs.UnitEnd.{version, total_length, payload_length, end_within, datagram_end, unit_end, ends_at}
use Rattle.rules.specs.Send.{section_count, piece, section_at, sections_to, sections, sending_number, send_lines, sent_of, written}
use Rattle.rules.specs.Row.{next}
use Rattle.pes_rules.specs.Packet.{flagged, read_of}
use Rattle.notification_rules.specs.Cut.{whole, cut_within, cut_of, every, any, odd, from_offset}
use Rattle.notification_rules.specs.Loop.{action_type, platform_id_hash, loop_size, descriptor_size, loop_cut, loops_of, filled, descriptors_of, pairs_of}
use Rattle.notification_rules.specs.Finding.{other_action, wrong_hash, fits, misfit, known, other_length, platform_lines, loop_lines, refusal, found, chosen, searched, finding_of}
use Rattle.notification_rules.specs.Target.{right_length, first_pair}
use Rattle.demands.specs.Samples.{answers_from, samples, Samples}

pub all_right : Samples
unfolding samples answers_from flatten number_at bytes_of pick both either first first_of crc_bit crc_bits crc_byte crc_from crc32 table_id section_syntax_indicator private_indicator section_length address payload_scrambling_control address_scrambling_control llc_snap_flag current_next_indicator section_number last_section_number payload crc_field header sealed section_of too_short other_table wrong_length checksum_form wrong_syntax wrong_crc not_current out_of_order address_scrambled form_lines order_lines shared_lines shared_refusal check_lines check agree same_address number_of length_of good_settings good_run good_state key_of same_key continues onward fill_from ours payload_scrambled over_limit own_lines own_refusal room refuse_first laid joined_with up_to version total_length payload_length end_within datagram_end unit_end ends_at finish keep lay setup_lines step_of gap_of section_count piece section_at sections_to sections sending_number send_lines sent_of written next flagged read_of whole cut_within cut_of every any odd from_offset action_type platform_id_hash loop_size descriptor_size loop_cut loops_of filled descriptors_of pairs_of other_action wrong_hash fits misfit known other_length platform_lines loop_lines refusal found chosen searched finding_of right_length first_pair
all_right = (refl, (refl, (refl, (refl, (refl, (refl, (refl, (refl, (refl, (refl, (refl, (refl, (refl, (refl, (refl, (refl, (refl, (refl, (refl, (refl, (refl, (refl, (refl, (refl, (refl, (refl, (refl, (refl, (refl, tt)))))))))))))))))))))))))))))
