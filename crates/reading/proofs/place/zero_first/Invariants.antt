use Rattle.std.proofs.Common.{◌≡◌, drop}
use Rattle.bits.specs.Bits.{bits_between}
use Rattle.leaders.specs.Tree.{sooner}
use Rattle.reading.proofs.place.zero_first.Given as goal

abbrev pub invariant-loop-bit : goal.invariant-loop-bit
invariant-loop-bit g l =
    sooner (bits_between (g.T.Tape.bits l.bit-iterator.tape.now) l.bit-iterator.from l.bit-iterator.upto) l.zeros l.ones
    ≡ sooner (drop l.from (g.T.Tape.bits l.tape)) l.x l.y
