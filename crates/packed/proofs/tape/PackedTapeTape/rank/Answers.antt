use Rattle.std.proofs.Common.{sym, ◌∙◌, arith}
use Rattle.bits.proofs.Bitlists.{rank_end}
use Rattle.packed.specs.Packed.{packed}
use Rattle.packed.proofs.Packing.{length_packed, rank_packed}
use Rattle.packed.proofs.tape.PackedTapeTape.rank.Goals as goal

pub ones_before-requires : goal.ones_before-requires
ones_before-requires c =
    let e = length_packed c.args.self.now.bytes.now c.args.self.now.count in
    (omega (arith, c.len.ensures.is), omega (arith, c.len.ensures.short))

pub returns : goal.returns
returns c =
    let bytes = c.args.self.now.bytes.now in
    let n = c.args.self.now.count in
    let end = c.min.result in
    let e = length_packed bytes n in
    c.ones_before.ensures ∙ sym (rank_packed bytes n end (omega (arith, c.len.ensures.is))) ∙ rank_end (packed bytes n) c.args.p end (omega (arith, c.len.ensures.is))
