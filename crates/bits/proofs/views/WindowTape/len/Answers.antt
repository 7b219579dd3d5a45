use Rattle.std.proofs.Common.{arith}
use Rattle.bits.proofs.Bitlists.{length_window}
use Rattle.bits.proofs.views.WindowTape.len.Goals as goal

pub returns : goal.returns
returns g c =
    let w = c.args.self.now in
    let e = length_window w.most w.from (g.T.Tape.bits w.below) in
    record { is = omega (arith, c.len.ensures.is); short = omega (arith, c.len.ensures.short) }
