use Rattle.hall.proofs.Performing.{cast_rest}
use Rattle.hall.proofs.answer.reply_cast.Goals as goal

pub returns-in-Ok-clause-rest : goal.returns-in-Ok-clause-rest
returns-in-Ok-clause-rest g c = cast_rest c.args.book.now c.args.work.now c.cast.new.work c.in-Ok.ensures.rest

pub returns-in-Err-clause-rest : goal.returns-in-Err-clause-rest
returns-in-Err-clause-rest g c = cast_rest c.args.book.now c.args.work.now c.cast.new.work c.in-Err.ensures.rest
