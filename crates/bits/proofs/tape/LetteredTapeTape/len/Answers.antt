use Rattle.std.proofs.Common.{arith}
use Rattle.bits.proofs.Letters.{length_lettered}
use Rattle.bits.proofs.tape.LetteredTapeTape.len.Goals as goal

pub returns : goal.returns
returns c = let e = length_lettered c.args.self.now.text.now in record { is = omega arith; short = omega arith }
