use Rattle.leaders.proofs.Rule.{second_by_the_spine}
use Rattle.leaders.proofs.second_by_the_spine.Goals as goal

pub returns : goal.returns
returns c = second_by_the_spine
