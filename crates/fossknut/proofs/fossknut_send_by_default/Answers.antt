use Rattle.std.proofs.Common.{rules}
use Rattle.answer_numbers.proofs.Told.{sending_number_told, sending_length_told}
use Rattle.fossknut.proofs.fossknut_send_by_default.Goals as goal

pub returns : goal.returns
returns c =
    let number = sending_number_told _ c.sending_number.result c.sending_number.ensures in
    let length = sending_length_told _ c.sending_length.result c.sending_length.ensures in
    search rules
