use Rattle.std.proofs.Common.{ap, inl, inr}
use Rattle.rebuilding.proofs.Splicing.{HangWay, closed_right, closed_none}
use Rattle.rebuilding.proofs.joining.Order.close.Goals as goal
use Rattle.rebuilding.proofs.joining.Order.close.Goals.{then-s-ne0, else-s-ne0, Joined-s-ne0}

-- how the rest of the left side hangs
way : (c : Joined-s-ne0) → HangWay c.args.self.now.next.now c.if-s-ne0.self.next.now c.args.self.now.seam.tail c.if-s-ne0.last c.args.self.now.seam.lower c.args.end_left
way c = elim c.if-s-ne0.branch [ then-s-ne0 w ↦ inl (w.if-s-ne0.true, ap (λ z. z.next.now) w.self-is, w.last-is) | else-s-ne0 w ↦ inr (w.if-s-ne0.false, ap (λ z. z.next.now) w.self-is, w.last-is) ]

pub returns-then-s-ne0-2-clause-closes : goal.returns-then-s-ne0-2-clause-closes
returns-then-s-ne0-2-clause-closes c next₀ left right x all j =
    let o = c.args.self.now in
    let s = o.seam in
    closed_right o.sides.n o.next.now c.if-s-ne0.self.next.now s.tail c.if-s-ne0.last s.lower s.upper c.args.end_left c.args.end_right o.next_long o.seam_inside.tails c.requires.0
    (way (goal.at.returns-then-s-ne0-2-clause-closes c).Joined-s-ne0) next₀ left right x all s.low s.high j c.if-s-ne0-2.true

pub returns-else-s-ne0-2-clause-closes : goal.returns-else-s-ne0-2-clause-closes
returns-else-s-ne0-2-clause-closes c next₀ left right x all j =
    let o = c.args.self.now in
    let s = o.seam in
    closed_none o.sides.n o.next.now c.if-s-ne0.self.next.now s.tail c.if-s-ne0.last s.lower s.upper c.args.end_left c.args.end_right o.next_long o.seam_inside.tails c.requires.0
    (way (goal.at.returns-else-s-ne0-2-clause-closes c).Joined-s-ne0) next₀ left right x all s.low s.high j c.if-s-ne0-2.false
