use Rattle.std.proofs.Common.{rules}
use Rattle.notification_numbers.proofs.Told.{number_told, offset_told}
use Rattle.fossknut.proofs.fossknut_notification.Goals as goal

pub returns : goal.returns
returns c =
    let number = number_told _ c.finding_number.result c.finding_number.ensures in
    let offset = offset_told _ c.finding_offset.result c.finding_offset.ensures in
    search rules
