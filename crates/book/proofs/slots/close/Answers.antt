use Rattle.book.proofs.Steps.{closed}
use Rattle.book.proofs.slots.close.Goals as goal

pub returns : goal.returns
returns g c = closed c.args.list.now c.rotate_left.new.self c.args.at c.args.count c.requires.0 c.requires.1 c.rotate_left.ensures.after
