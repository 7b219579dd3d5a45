use Rattle.std.proofs.Common.{◌-◌, length, get_or}
use Rattle.leaders.specs.Sheet.{spread, unary}
use Rattle.links.specs.Walks.{tallies}
use Rattle.casting.proofs.Puts.{Going}
use Rattle.casting.proofs.writing.punch_brackets.Given as goal

abbrev pub invariant-loop-count : goal.invariant-loop-count
invariant-loop-count g l = Going g.P.Punch.written g.P.Punch.room g.P.Punch.home l.initial.punch l.punch (spread (λ j. unary (get_or l.kids j 0)) l.count-index (length l.kids - l.count-index)) (tallies l.kids)
