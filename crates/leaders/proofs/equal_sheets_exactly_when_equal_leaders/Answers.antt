use Rattle.leaders.proofs.Promises.{equal_sheets_exactly_when_equal_leaders}
use Rattle.leaders.proofs.equal_sheets_exactly_when_equal_leaders.Goals as goal

pub returns : goal.returns
returns c = equal_sheets_exactly_when_equal_leaders
