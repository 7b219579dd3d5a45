use Rattle.std.proofs.Common.{min, arith, length-take, rules}
use Rattle.book.proofs.Steps.{strike_close}
use Rattle.book.proofs.book.Book.strike.Goals as goal

pub close-requires : goal.close-requires
close-requires g c =
    let len = length-take (min 4000 c.args.self.now.count) c.args.self.now.list.now in
    (omega arith, omega arith)

pub returns : goal.returns
returns g c =
    let len = length-take (min 4000 c.args.self.now.count) c.args.self.now.list.now in
    record {
      entry = strike_close c.args.self.now.list.now c.close.new.list (min 4000 c.args.self.now.count) c.len-n.result c.len-n.ensures _ c.args.lot (omega arith) (omega arith) (omega arith) c.close.ensures;
      kept = search rules;
      lender = search rules;
    }
