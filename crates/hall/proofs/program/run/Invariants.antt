use Rattle.std.proofs.Common.{length}
use Rattle.hall.proofs.program.run.Given as goal

abbrev pub decreases-loop-reply : goal.decreases-loop-reply
decreases-loop-reply g l = length l.rest
