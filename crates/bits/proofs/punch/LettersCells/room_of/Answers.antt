use Rattle.bits.proofs.Letters.{length_written}
use Rattle.bits.proofs.punch.LettersCells.room_of.Goals as goal

pub returns-clause-counted : goal.returns-clause-counted
returns-clause-counted c = length_written c.args.bytes.now
