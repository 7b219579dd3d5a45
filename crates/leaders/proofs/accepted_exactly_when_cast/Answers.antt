use Rattle.leaders.proofs.Promises.{accepted_exactly_when_cast}
use Rattle.leaders.proofs.accepted_exactly_when_cast.Goals as goal

pub returns : goal.returns
returns c = accepted_exactly_when_cast
