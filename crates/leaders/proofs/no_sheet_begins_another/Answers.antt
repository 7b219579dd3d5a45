use Rattle.leaders.proofs.Promises.{no_sheet_begins_another}
use Rattle.leaders.proofs.no_sheet_begins_another.Goals as goal

pub returns : goal.returns
returns c = no_sheet_begins_another
