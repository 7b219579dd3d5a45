use Rattle.std.proofs.Common.{◌<◌, min, sym, ◌∙◌, arith}
use Rattle.std.proofs.lemmas.Option.{slice_get_past}
use Rattle.packed.specs.Packed.{packed}
use Rattle.packed.proofs.Packing.{length_packed, nth_packed}
use Rattle.packed.proofs.tape.PackedTapeTape.get.Goals as goal

pub bit_at-requires : goal.bit_at-requires
bit_at-requires c = omega (arith, length_packed c.args.self.now.bytes.now c.args.self.now.count, c.len.ensures.is)

pub returns-then-p-len : goal.returns-then-p-len
returns-then-p-len c =
    let bytes = c.args.self.now.bytes.now in
    let n = c.args.self.now.count in
    let h : c.args.p < min n 32768 = omega (arith, length_packed bytes n, c.len.ensures.is) in
    c.bit_at.ensures ∙ sym (nth_packed bytes n c.args.p h)

pub returns-else-p-len : goal.returns-else-p-len
returns-else-p-len c =
    sym (slice_get_past (packed c.args.self.now.bytes.now c.args.self.now.count) c.args.p (omega (arith, c.len.ensures.is)))
