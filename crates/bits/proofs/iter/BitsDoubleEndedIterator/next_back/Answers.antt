use Rattle.std.proofs.Common.{◌-◌, arith, of_calls}
use Rattle.bits.proofs.Between.{between_last}
use Rattle.bits.proofs.iter.BitsDoubleEndedIterator.next_back.Goals as goal

pub returns-clause-steps : goal.returns-clause-steps
returns-clause-steps g c =
    let s = c.args.self.now in
    between_last (g.T.Tape.bits s.tape.now) s.from s.upto (s.upto - 1) c.in_ok-bit.bit (omega arith) (omega arith) (search of_calls)
