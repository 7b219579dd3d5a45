use Rattle.leaders.proofs.Counting.{sheet_lengths}
use Rattle.leaders.proofs.sheet_lengths.Goals as goal

pub returns : goal.returns
returns c = sheet_lengths
