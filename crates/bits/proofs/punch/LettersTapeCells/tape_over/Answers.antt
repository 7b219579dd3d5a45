use Rattle.std.proofs.Common.{arith}
use Rattle.bits.proofs.Letters.{letters_exact, length_written}
use Rattle.bits.proofs.punch.LettersTapeCells.tape_over.Goals as goal

pub returns : goal.returns
returns c = letters_exact c.args.bytes.now c.args.count c.min.result (omega (arith, c.min.ensures, c.room_of.ensures.is, length_written c.args.bytes.now c.args.count))
