use Rattle.std.proofs.Common.{◌≡◌, ℕ, Bool, List, ◌++◌, take, drop}
use Rattle.bits.specs.Bits.{bits_between}
use Rattle.rebuilding.specs.Splices.{Ready}
use Rattle.rebuilding.specs.Seams.{Sewn}
use Rattle.rebuilding.proofs.joining.Order.splice.Given as goal

abbrev pub invariant-loop-bit : goal.invariant-loop-bit
invariant-loop-bit g l = record {
  sides : l.self.sides ≡ l.initial.self.sides;
  sewn : (rest : List Bool) (all : List ℕ) (end_l endR : ℕ) →
      Ready l.initial.self.next.now l.initial.self.sides.left.now l.initial.self.sides.right.now l.x (drop l.from (take l.upto (g.T.Tape.bits l.tape)) ++ rest) all end_l endR →
      Sewn l.initial.self.next.now l.self.next.now l.initial.self.sides.left.now l.initial.self.sides.right.now l.x (bits_between (g.T.Tape.bits l.bit-iterator.tape.now) l.bit-iterator.from l.bit-iterator.upto ++ rest) all l.self.seam end_l endR;
}
