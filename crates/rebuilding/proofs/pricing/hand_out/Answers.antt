use Rattle.std.proofs.Common.{◌≡◌, ◌+◌, ◌-◌, ◌∙◌, arith}
use Rattle.rebuilding.proofs.Handing.{hand_more, hand_all, hand_short}
use Rattle.rebuilding.proofs.pricing.hand_out.Goals as goal

pub loop-price-preserved : goal.loop-price-preserved
loop-price-preserved c =
    let o = c.args.order.now in
    let n = o.sides.n in
    let p = c.loop-price.price in
    let i = c.loop-price.invariant in
    let d : n + 1 - (p - 1) ≡ n + 1 - p + 1 = omega arith in
    let e : p - 1 ≡ n - (n + 1 - p) = omega arith in
    (o.next_most c.loop-price.x i.0, rw (d, e) (hand_more n o.next.now c.args.first c.loop-price.prices c.loop-price.x (n + 1 - p) i.1 c.if-x-eq0.false i.0 (c.loop-price.auto.prices ∙ c.requires.prices)))

pub returns-then-x-eq0 : goal.returns-then-x-eq0
returns-then-x-eq0 c =
    let o = c.args.order.now in
    hand_short o.sides.n o.next.now c.args.first c.loop-price.prices c.loop-price.x (o.sides.n + 1 - c.loop-price.price) c.loop-price.invariant.1 c.if-x-eq0.true (omega arith)

pub returns : goal.returns
returns c =
    let o = c.args.order.now in
    hand_all o.sides.n o.next.now c.args.first c.loop-price.prices c.loop-price.x (o.sides.n + 1 - c.loop-price.price) c.loop-price.invariant.1 (c.loop-price.auto.prices ∙ c.requires.prices) (omega arith)
