use Rattle.std.proofs.Common.{arith}
use Rattle.leaders.proofs.Strictly.{keys_order_lots}
use Rattle.book.proofs.lots.KeyLotsLots.len.Goals as goal

pub returns : goal.returns
returns g c = record {
  count = c.min.ensures;
  few = omega (arith, c.min.ensures);
  strict = keys_order_lots g.K.Key.at_least g.met.K.Key.total g.met.K.Key.transitive c.args.self.now.keys.now;
}
