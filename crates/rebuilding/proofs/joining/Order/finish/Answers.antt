use Rattle.std.proofs.Common.{[], subst}
use Rattle.rebuilding.specs.Seams.{Sewn}
use Rattle.rebuilding.proofs.Splicing.{left_lower, left_upper, left_none}
use Rattle.rebuilding.proofs.joining.Order.finish.Goals as goal

pub returns-then-self-ne0-clause-finishes : goal.returns-then-self-ne0-clause-finishes
returns-then-self-ne0-clause-finishes c next₀ x rest all end_l endR few j =
    let o = c.args.self.now in
    let s = o.seam in
    let e = left_lower next₀ o.next.now o.sides.left.now o.sides.right.now x all s.tail s.lower s.upper s.low s.high end_l endR rest few c.if-self-ne0.true j in
    c.hang.ensures.hangs next₀ x [] all end_l endR (subst (λ w. Sewn next₀ o.next.now o.sides.left.now o.sides.right.now x w all s end_l endR) e j)

pub returns-then-self-ne0-2-clause-finishes : goal.returns-then-self-ne0-2-clause-finishes
returns-then-self-ne0-2-clause-finishes c next₀ x rest all end_l endR few j =
    let o = c.args.self.now in
    let s = o.seam in
    let e = left_upper next₀ o.next.now o.sides.left.now o.sides.right.now x all s.tail s.lower s.upper s.low s.high end_l endR rest few c.if-self-ne0.false c.if-self-ne0-2.true j in
    c.hang-then-self-ne0-2.ensures.hangs next₀ x [] all end_l endR (subst (λ w. Sewn next₀ o.next.now o.sides.left.now o.sides.right.now x w all s end_l endR) e j)

pub returns-else-self-ne0-2-clause-finishes : goal.returns-else-self-ne0-2-clause-finishes
returns-else-self-ne0-2-clause-finishes c next₀ x rest all end_l endR few j =
    let o = c.args.self.now in
    let s = o.seam in
    let e = left_none next₀ o.next.now o.sides.left.now o.sides.right.now x all s.tail s.lower s.upper s.low s.high end_l endR rest c.if-self-ne0.false c.if-self-ne0-2.false j in
    subst (λ w. Sewn next₀ o.next.now o.sides.left.now o.sides.right.now x w all s end_l endR) e j
