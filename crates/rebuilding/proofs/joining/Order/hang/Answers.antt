use Rattle.std.proofs.Common.{◌<◌, ◌∷◌, length, subst, arith}
use Rattle.rebuilding.specs.Seams.{Sewn}
use Rattle.rebuilding.proofs.Splicing.{join_true, join_false}
use Rattle.rebuilding.proofs.joining.Order.hang.Goals as goal

pub returns-then-bit-clause-hangs : goal.returns-then-bit-clause-hangs
returns-then-bit-clause-hangs c next₀ x w all end_l endR j =
    let o = c.args.self.now in
    let s = o.seam in
    let fits : s.tail < length o.next.now = omega (arith, o.seam_inside.tails) in
    join_true next₀ o.next.now o.sides.left.now o.sides.right.now x w all s.tail s.lower s.upper s.low s.high end_l endR fits (subst (λ v. Sewn next₀ o.next.now o.sides.left.now o.sides.right.now x (v ∷ w) all s end_l endR) c.if-bit.true j)

pub returns-else-bit-clause-hangs : goal.returns-else-bit-clause-hangs
returns-else-bit-clause-hangs c next₀ x w all end_l endR j =
    let o = c.args.self.now in
    let s = o.seam in
    let fits : s.tail < length o.next.now = omega (arith, o.seam_inside.tails) in
    join_false next₀ o.next.now o.sides.left.now o.sides.right.now x w all s.tail s.lower s.upper s.low s.high end_l endR fits (subst (λ v. Sewn next₀ o.next.now o.sides.left.now o.sides.right.now x (v ∷ w) all s end_l endR) c.if-bit.false j)
