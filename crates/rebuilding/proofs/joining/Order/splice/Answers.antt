use Rattle.std.proofs.Common.{◌++◌, ◌∙◌, subst}
use Rattle.bits.specs.Bits.{bits_between}
use Rattle.rebuilding.specs.Seams.{Sewn}
use Rattle.rebuilding.proofs.joining.Order.splice.Goals as goal

pub loop-bit-preserved : goal.loop-bit-preserved
loop-bit-preserved g c =
    let o = c.args.self.now in
    let i = c.loop-bit.invariant in
    let h = c.hang.ensures in
    let it = c.next.new.self in
    record {
      sides = h.sides ∙ i.sides;
      sewn = λ rest all end_l endR r. (rw i.sides at h.hangs) o.next.now c.args.x (bits_between (g.T.Tape.bits it.tape.now) it.from it.upto ++ rest) all end_l endR
          (subst (λ v. Sewn o.next.now c.loop-bit.self.next.now o.sides.left.now o.sides.right.now c.args.x (v ++ rest) all c.loop-bit.self.seam end_l endR) c.in-Some.ensures.steps (i.sewn rest all end_l endR r));
    }
