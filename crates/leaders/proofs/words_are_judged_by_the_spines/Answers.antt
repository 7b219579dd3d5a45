use Rattle.leaders.proofs.Judging.{words_are_judged_by_the_spines}
use Rattle.leaders.proofs.words_are_judged_by_the_spines.Goals as goal

pub returns : goal.returns
returns c = words_are_judged_by_the_spines
