use Rattle.std.proofs.Common.{min, arith, length-take}
use Rattle.book.proofs.book.Book.len.Goals as goal

pub returns : goal.returns
returns g c = omega (arith, length-take (min 4000 c.args.self.now.count) c.args.self.now.list.now)
