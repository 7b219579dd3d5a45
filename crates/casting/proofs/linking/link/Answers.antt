use Rattle.std.proofs.Common.{◌-◌, ◌≤◌, ◌∙◌, eqb, arith, of_calls}
use Rattle.leaders.specs.Sheet.{parent}
use Rattle.links.proofs.Joins.{none_on_first, link_none, link_more, tally_most, parent_is}
use Rattle.casting.proofs.linking.link.Goals as goal

pub loop-k-init : goal.loop-k-init
loop-k-init g c = record {
  lots = c.clear.ensures.lots ∙ c.requires;
  linked = link_none (g.L.Lots.order c.args.lots.now) c.clear.new.self.n _ _ _ _ (none_on_first c.args.links.now.n c.args.links.now.left.now c.clear.new.self.left.now c.args.links.now.left_long c.clear.ensures.left) c.clear.ensures.rights c.clear.ensures.counts;
}

pub climb-place-requires-clause-hangs : goal.climb-place-requires-clause-hangs
climb-place-requires-clause-hangs g c m one below =
    omega (arith, c.loop-k.invariant.linked.parents m one (omega arith), (parent_is (g.L.Lots.order c.args.lots.now) m).upto)

pub hang-requires-clause-count : goal.hang-requires-clause-count
hang-requires-clause-count g c =
    let x = c.climb-place.result.parent in
    omega (
      arith,
      c.loop-k.invariant.linked.counts x (omega (arith, c.climb-place.ensures.below, c.loop-k.invariant.lots, c.len-k-end.ensures.count)),
      tally_most (λ i. eqb (parent (g.L.Lots.order c.args.lots.now) i) x) 1 (c.loop-k.k-counter - 1),
    )

pub loop-k-preserved : goal.loop-k-preserved
loop-k-preserved g c =
    let b = g.L.Lots.order c.args.lots.now in
    let k = c.loop-k.k-counter in
    let links = c.loop-k.links in
    let i = c.loop-k.invariant in
    let e = c.hang.ensures in
    let most : k ≤ links.n = omega (arith, i.lots, c.len-k-end.ensures.count) in
    let found = c.climb-place.ensures.found b c.len-k-end.ensures.strict (λ m p q. i.linked.parents m p (omega arith)) (λ x last r way one says. search of_calls) in
    record {
      lots = e.lots ∙ i.lots;
      linked = rw (e.lots, e.up, e.left, e.right, e.kids) (link_more b links.n k links.up.now links.left.now links.right.now links.kids.now i.linked links.up_long links.left_long links.right_long links.kids_long c.loop-k.auto.k-counter most
          c.climb-place.result.parent c.climb-place.result.best found.0 c.climb-place.ensures.below.0 found.1);
    }
