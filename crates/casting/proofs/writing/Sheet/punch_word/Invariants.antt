use Rattle.std.proofs.Common.{◌-◌, ◌≤◌}
use Rattle.links.specs.Walks.{merge}
use Rattle.casting.proofs.Puts.{Going}
use Rattle.casting.proofs.writing.Sheet.punch_word.Given as goal

abbrev pub invariant-loop : goal.invariant-loop
invariant-loop g l =
    (l.at.lower ≤ l.self.words.sides.n) × (l.at.upper ≤ l.self.words.sides.n)
    × (let bits = merge (g.L.Lots.order l.self.lots.now) l.self.words.sides.left.now l.self.words.sides.right.now in Going g.P.Punch.written g.P.Punch.room g.P.Punch.home l.initial.punch l.punch (bits (l.size - l.counter) l.at.lower l.at.upper) (bits l.size l.initial.at.lower l.initial.at.upper))
