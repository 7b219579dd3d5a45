use Rattle.std.proofs.Common.{◌+◌, ◌-◌}
use Rattle.leaders.specs.Sheet.{spread}
use Rattle.links.specs.Walks.{walked}
use Rattle.casting.proofs.Puts.{Going}
use Rattle.casting.proofs.writing.Sheet.punch_words.Given as goal

abbrev pub invariant-loop-k : goal.invariant-loop-k
invariant-loop-k g l = let f = walked (g.L.Lots.order l.self.lots.now) l.self.words.sides.left.now l.self.words.sides.right.now l.self.sizes.now in Going g.P.Punch.written g.P.Punch.room g.P.Punch.home l.initial.punch l.punch (spread f l.k (l.self.words.sides.n + 1 - l.k)) (spread f 1 l.self.words.sides.n)
