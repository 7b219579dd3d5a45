use Rattle.std.proofs.Common.{arith}
use Rattle.bits.proofs.Bitlists.{rank_le, rank_flipped}
use Rattle.bits.proofs.views.FlippedTape.rank.Goals as goal

pub overflow_sub-result : goal.overflow_sub-result
overflow_sub-result g c = omega (arith, rank_le (g.T.Tape.bits c.args.self.now.below) c.min-end.result)

pub returns : goal.returns
returns g c =
    let bs = g.T.Tape.bits c.args.self.now.below in
    omega (arith, rank_flipped bs c.args.p c.min-end.result (omega (arith, c.len.ensures.is)))
