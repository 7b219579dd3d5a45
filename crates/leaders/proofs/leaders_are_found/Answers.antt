use Rattle.leaders.proofs.Promises.{leaders_are_found}
use Rattle.leaders.proofs.leaders_are_found.Goals as goal

pub returns : goal.returns
returns c = leaders_are_found
