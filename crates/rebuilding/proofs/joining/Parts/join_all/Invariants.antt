use Rattle.std.proofs.Common.{◌≡◌, ◌+◌, ◌-◌}
use Rattle.leaders.specs.Tree.{Tree, size}
use Rattle.rebuilding.specs.Held.{word_at, Holds}
use Rattle.rebuilding.proofs.Passing.{Passed}
use Rattle.rebuilding.proofs.joining.Parts.join_all.Given as goal

abbrev pub invariant-loop-k : goal.invariant-loop-k
invariant-loop-k g l =
    let i = l.initial.self in
    let n = i.order.sides.n in
    let left = i.order.sides.left.now in
    let right = i.order.sides.right.now in
    let word = word_at (g.T.Tape.bits i.words.tape.now) i.words.starts.now n in
    record {
      sides : l.self.order.sides ≡ i.order.sides;
      words : l.self.words ≡ i.words;
      passed : (t : Tree) → size t ≡ n → Holds i.ends.now left right word 0 t → Passed left right word i.order.next.now i.ends.now l.self.order.next.now l.self.ends.now (n + 1 - l.k) l.k t;
    }
