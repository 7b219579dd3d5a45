use Rattle.bits.proofs.Bitlists.{select_one}
use Rattle.bits.proofs.tape.select_has_one_answer.Goals as goal

pub returns : goal.returns
returns c = select_one
