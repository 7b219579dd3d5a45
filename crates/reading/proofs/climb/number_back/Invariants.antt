use Rattle.std.proofs.Common.{◌≡◌, suc, ◌-◌, take, drop}
use Rattle.leaders.specs.Sheet.{unary}
use Rattle.reading.proofs.climb.number_back.Given as goal

abbrev pub invariant-loop-p : goal.invariant-loop-p
invariant-loop-p g l = drop l.p (take (suc l.end) (g.T.Tape.bits l.tape)) ≡ unary (l.end - l.p)
