use Rattle.std.proofs.Common.{arith, of_calls}
use Rattle.bits.proofs.Between.{between_first}
use Rattle.bits.proofs.iter.BitsIterator.next.Goals as goal

pub returns-clause-steps : goal.returns-clause-steps
returns-clause-steps g c =
    let s = c.args.self.now in
    between_first (g.T.Tape.bits s.tape.now) s.from s.upto c.in_ok-bit.bit (omega arith) (search of_calls)
