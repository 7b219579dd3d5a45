use Rattle.leaders.proofs.Sampled.{samples_hold}
use Rattle.leaders.proofs.samples_hold.Goals as goal

pub returns : goal.returns
returns c = samples_hold
