use Rattle.std.proofs.Common.{◌≡◌, Bool, ◌∙◌, arith}
use Rattle.leaders.specs.Order.{beats}
use Rattle.book.proofs.Keyed.{beats_at}
use Rattle.book.proofs.lots.KeyLotsLots.beats.Goals as goal

pub returns : goal.returns
returns g c =
    let i = c.args.i in
    let j = c.args.j in
    let led : ◌≡◌ {A = Bool} c.ahead.result (beats g.K.Key.at_least c.args.self.now.keys.now i j) =
    c.ahead.ensures ∙ beats_at g.K.Key.at_least c.args.self.now.keys.now i j _ _ c.requires.first.0 (omega (arith, c.requires.first.1)) c.requires.second.0 (omega (arith, c.requires.second.1)) in
    led
