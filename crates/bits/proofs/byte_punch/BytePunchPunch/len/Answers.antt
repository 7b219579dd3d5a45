use Rattle.std.proofs.Common.{arith}
use Rattle.bits.proofs.byte_punch.BytePunchPunch.len.Goals as goal

pub returns : goal.returns
returns g c =
    let e = c.capacity.ensures.counted c.args.self.now.count in
    record { is = omega (arith, c.capacity.ensures.is); within = omega (arith, c.capacity.ensures.is) }
