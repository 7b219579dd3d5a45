use Rattle.std.proofs.Common.{arith}
use Rattle.packed.proofs.Packing.{length_packed}
use Rattle.packed.proofs.punch.PackingCells.room_of.Goals as goal

pub returns-clause-counted : goal.returns-clause-counted
returns-clause-counted c n = omega (arith, length_packed c.args.bytes.now n)
