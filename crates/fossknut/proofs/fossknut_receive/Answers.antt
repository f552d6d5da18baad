use Rattle.std.proofs.Common.{rules}
use Rattle.answer_numbers.proofs.Told.{number_told, length_told}
use Rattle.fossknut.proofs.fossknut_receive.Goals as goal

pub returns : goal.returns
returns c =
    let number = number_told _ c.number_of.result c.number_of.ensures in
    let length = length_told _ c.length_of.result c.length_of.ensures in
    search rules
