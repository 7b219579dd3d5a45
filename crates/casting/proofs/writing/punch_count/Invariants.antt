use Rattle.std.proofs.Common.{◌-◌}
use Rattle.leaders.specs.Sheet.{unary}
use Rattle.casting.proofs.Puts.{Going}
use Rattle.casting.proofs.writing.punch_count.Given as goal

abbrev pub invariant-loop : goal.invariant-loop
invariant-loop g l = Going g.P.Punch.written g.P.Punch.room g.P.Punch.home l.initial.punch l.punch (unary (l.count - l.counter)) (unary l.count)
