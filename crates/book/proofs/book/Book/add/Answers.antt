use Rattle.std.proofs.Common.{min, arith, rules}
use Rattle.book.proofs.Steps.{add_put}
use Rattle.book.proofs.book.Book.add.Goals as goal

pub returns : goal.returns
returns g c = record {
  entry = add_put c.args.self.now.list.now c.put.new.list (min 4000 c.args.self.now.count) c.len-n.result c.len-n.ensures _ c.in-Some.key _ c.in-Some.ensures (omega arith) (omega arith) c.put.ensures;
  kept = search rules;
  lender = search rules;
}
