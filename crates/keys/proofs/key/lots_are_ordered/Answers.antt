use Rattle.leaders.proofs.Strictly.{keys_order_lots}
use Rattle.keys.proofs.key.lots_are_ordered.Goals as goal

pub returns : goal.returns
returns g c = keys_order_lots g.K.Key.at_least g.met.K.Key.total g.met.K.Key.transitive
