use Rattle.std.proofs.Common.{◌≡◌, ◌-◌}
use Rattle.links.specs.Made.{LotsLinked}
use Rattle.casting.proofs.linking.link.Given as goal

abbrev pub invariant-loop-k : goal.invariant-loop-k
invariant-loop-k g l = record { lots : l.links.n ≡ g.L.Lots.count l.lots; linked : LotsLinked (g.L.Lots.order l.lots) (l.k-counter - 1) l.links }
