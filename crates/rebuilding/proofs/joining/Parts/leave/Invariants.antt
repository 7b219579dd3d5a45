use Rattle.std.proofs.Common.{◌≡◌, ◌≤◌}
use Rattle.rebuilding.specs.Held.{word_at}
use Rattle.rebuilding.proofs.Passing.{Partly}
use Rattle.rebuilding.proofs.joining.Parts.leave.Given as goal

abbrev pub invariant-loop-x : goal.invariant-loop-x
invariant-loop-x g l = let i = l.initial.self in record {
  sides : l.self.order.sides ≡ i.order.sides;
  words : l.self.words ≡ i.words;
  lot : l.x ≤ i.order.sides.n;
  partly : Partly i.order.sides.left.now i.order.sides.right.now (word_at (g.T.Tape.bits i.words.tape.now) i.words.starts.now i.order.sides.n) i.order.next.now i.ends.now l.self.order.next.now l.self.ends.now l.limit l.initial.x l.x;
}

abbrev pub decreases-loop-x : goal.decreases-loop-x
decreases-loop-x g l = l.x
