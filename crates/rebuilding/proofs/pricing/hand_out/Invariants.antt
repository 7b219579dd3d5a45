use Rattle.std.proofs.Common.{◌+◌, ◌-◌, ◌≤◌}
use Rattle.rebuilding.proofs.Handing.{Hands}
use Rattle.rebuilding.proofs.pricing.hand_out.Given as goal

abbrev pub invariant-loop-price : goal.invariant-loop-price
invariant-loop-price l = let n = l.order.sides.n in (l.x ≤ n) × Hands n l.order.next.now l.initial.x l.prices l.x (n + 1 - l.price)
