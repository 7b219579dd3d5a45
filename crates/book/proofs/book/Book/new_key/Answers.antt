use Rattle.std.proofs.Common.{min, arith, length-take, rules}
use Rattle.book.proofs.Steps.{new_key_put}
use Rattle.book.proofs.book.Book.new_key.Goals as goal

pub put-requires : goal.put-requires
put-requires g c = omega (arith, length-take (min 4000 c.args.self.now.count) c.args.self.now.list.now)

pub returns : goal.returns
returns g c = record {
  entry = new_key_put c.args.self.now.list.now c.put.new.list (min 4000 c.args.self.now.count) c.len-n.result c.len-n.ensures c.args.lot c.in-Some.key _ c.in-Some.ensures (omega arith) (omega arith) c.put.ensures;
  kept = search rules;
  lender = search rules;
}
