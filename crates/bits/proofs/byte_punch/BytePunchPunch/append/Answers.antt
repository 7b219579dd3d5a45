use Rattle.std.proofs.Common.{refl, arith}
use Rattle.bits.proofs.byte_punch.BytePunchPunch.append.Goals as goal

pub put_bit-requires : goal.put_bit-requires
put_bit-requires g c = omega (arith, c.capacity.ensures.is)

pub returns-then-self-capacity-clause-bits : goal.returns-then-self-capacity-clause-bits
returns-then-self-capacity-clause-bits g c =
    let e = c.capacity.ensures.counted c.args.self.now.count in
    ((λ full. omega (arith, c.capacity.ensures.is)), c.put_bit.ensures.added)

pub returns-else-self-capacity-clause-bits : goal.returns-else-self-capacity-clause-bits
returns-else-self-capacity-clause-bits g c =
    let e = c.capacity.ensures.counted c.args.self.now.count in
    (omega (arith, c.capacity.ensures.is), refl)
