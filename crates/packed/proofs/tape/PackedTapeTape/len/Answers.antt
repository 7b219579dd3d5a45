use Rattle.std.proofs.Common.{arith}
use Rattle.packed.proofs.Packing.{length_packed}
use Rattle.packed.proofs.tape.PackedTapeTape.len.Goals as goal

pub returns : goal.returns
returns c =
    let e = length_packed c.args.self.now.bytes.now c.args.self.now.count in
    record { is = omega (arith, c.room_of.ensures); short = omega (arith, c.room_of.ensures) }
