-- Whether a section is sound: document 01, 'The receiver', numbers 12 to 19; 'The INT section', numbers 12 to 18; document 02, request 2,
-- number 24.
use Rattle.std.specs.Prelude.{ℕ, ◌+◌, List, [], ◌∷◌, ◌++◌, Bool, true, not, length, eqb, ltb}
use Rattle.wire.specs.Choice.{both, either, Line, line, first_of}
use Rattle.rules.specs.declared.Form.{Form}
use Rattle.rules.specs.Crc.{crc32}
use Rattle.rules.specs.Section.{table_id, section_syntax_indicator, private_indicator, section_length, address_scrambling_control, current_next_indicator, section_number, last_section_number, checked, crc_field}

-- 12: fewer bytes than the table's sections have
unfoldable pub too_short : Form → List ℕ → Bool
too_short f s = ltb (length s) f.fewest

-- 13: another table_id
unfoldable pub other_table : Form → List ℕ → Bool
other_table f s = not (eqb (table_id s) f.table)

-- 14: section_length is over 4,093, or the slice is not three bytes longer
unfoldable pub wrong_length : List ℕ → Bool
wrong_length s = either (ltb 4093 (section_length s)) (not (eqb (section_length s + 3) (length s)))

-- 24: section_syntax_indicator is 0 and private_indicator 1, where the table looks at it: the checksum form of ISO/IEC 13818-6
unfoldable pub checksum_form : Form → List ℕ → Bool
checksum_form f s = both f.private (both (eqb (section_syntax_indicator s) 0) (eqb (private_indicator s) 1))

-- 15: section_syntax_indicator is not 1, or private_indicator not 0 where the table looks at it; 24 before it leaves two that are equal
unfoldable pub wrong_syntax : Form → List ℕ → Bool
wrong_syntax f s = either (not (eqb (section_syntax_indicator s) 1)) (both f.private (not (eqb (private_indicator s) 0)))

-- 16: CRC_32 is not that of all bytes before it
unfoldable pub wrong_crc : List ℕ → Bool
wrong_crc s = not (eqb (crc_field s) (crc32 (checked s)))

-- 17: current_next_indicator is 0
unfoldable pub not_current : List ℕ → Bool
not_current s = eqb (current_next_indicator s) 0

-- 18: section_number is above last_section_number
unfoldable pub out_of_order : List ℕ → Bool
out_of_order s = ltb (last_section_number s) (section_number s)

-- 19: address_scrambling_control is not 00
unfoldable pub address_scrambled : List ℕ → Bool
address_scrambled s = not (eqb (address_scrambling_control s) 0)

-- what is seen without the CRC_32: 24 stands at 15's place, and leaves to it the indicators that are equal
unfoldable pub form_lines : Form → List ℕ → List Line
form_lines f s =
    line 12 (too_short f s) ∷ line 13 (other_table f s) ∷ line 14 (wrong_length s) ∷ line 24 (checksum_form f s) ∷ line 15 (wrong_syntax f s) ∷ []

-- what is believed only with a right CRC_32
unfoldable pub order_lines : List ℕ → List Line
order_lines s = line 17 (not_current s) ∷ line 18 (out_of_order s) ∷ []

-- the lines that every table shares: 12 to 18, and 24
unfoldable pub shared_lines : Form → List ℕ → List Line
shared_lines f s = form_lines f s ++ (line 16 (wrong_crc s) ∷ order_lines s)

-- the first of these that applies to a section of this form, else 0
unfoldable pub shared_refusal : Form → List ℕ → ℕ
shared_refusal f s = first_of (shared_lines f s)

-- the datagram section's form
abbrev pub datagram_form : Form
datagram_form = record { fewest = 16; table = 0x3E; private = true }

-- the datagram section's lines: 12 to 19, and 24
unfoldable pub check_lines : List ℕ → List Line
check_lines s = shared_lines datagram_form s ++ (line 19 (address_scrambled s) ∷ [])

-- the first of these that applies to a datagram section, else 0
unfoldable pub check : List ℕ → ℕ
check s = first_of (check_lines s)
