use Rattle.leaders.proofs.Strictly.{keys_order_lots}
use Rattle.book.proofs.Casts.{cast_fits}
use Rattle.hall.proofs.answer.casts_fit.Goals as goal

pub returns : goal.returns
returns g c ks bits = cast_fits g.K.Key.at_least ks (keys_order_lots g.K.Key.at_least g.met.K.Key.total g.met.K.Key.transitive ks) bits
