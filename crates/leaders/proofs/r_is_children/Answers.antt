use Rattle.leaders.proofs.Promises.{r_is_children}
use Rattle.leaders.proofs.r_is_children.Goals as goal

pub returns : goal.returns
returns c = r_is_children
