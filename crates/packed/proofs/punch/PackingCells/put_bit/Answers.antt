use Rattle.std.proofs.Common.{arith}
use Rattle.packed.proofs.Packing.{packed_put}
use Rattle.packed.proofs.punch.PackingCells.put_bit.Goals as goal

pub returns-clause-added : goal.returns-clause-added
returns-clause-added c = packed_put c.args.bytes.now c.put_bit.new.bytes c.args.p c.args.bit (omega arith) c.put_bit.ensures
