use Rattle.std.proofs.Common.{◌-◌, ◌<◌, length, get_or, ap, arith}
use lib.Count as count
use Rattle.std.proofs.lemmas.List.{get_or-take}
use Rattle.packed.proofs.Packing.{rank_whole, ones_whole}
use Rattle.packed.proofs.bytes.pass_zeros.Goals as goal

pub loop-i-preserved : goal.loop-i-preserved
loop-i-preserved c =
    let bytes = c.args.bytes.now in
    let i = c.loop-i.i in
    let e = ap count.ones (get_or-take (c.args.whole - 0) bytes i 0 (omega arith)) in
    let l : i < length bytes = omega arith in
    (omega (arith, e, rank_whole bytes i l (c.type_inv.bytes i).fits, ones_whole (get_or bytes i 0) (c.type_inv.bytes i).fits), omega (arith, e))

pub overflow_cast-more : goal.overflow_cast-more
overflow_cast-more c =
    let i = c.loop-i.i in
    omega (arith, ap count.ones (get_or-take (c.args.whole - 0) c.args.bytes.now i 0 (omega arith)), ones_whole (get_or c.args.bytes.now i 0) (c.type_inv.bytes i).fits)

pub overflow_sub-more : goal.overflow_sub-more
overflow_sub-more c =
    let i = c.loop-i.i in
    omega (arith, ap count.ones (get_or-take (c.args.whole - 0) c.args.bytes.now i 0 (omega arith)), ones_whole (get_or c.args.bytes.now i 0) (c.type_inv.bytes i).fits)
