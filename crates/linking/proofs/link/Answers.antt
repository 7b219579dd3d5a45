use Rattle.std.proofs.Common.{◌≡◌, ◌+◌, ◌-◌, ◌≤◌, not, eqb, ◌⊎◌, get_or, inl, inr, sym, ◌∙◌, arith, of_calls}
use Rattle.leaders.specs.Sheet.{children}
use Rattle.links.proofs.Joins.{none_on_first, link_none, link_more}
use Rattle.linking.proofs.Climbing.{place_tells, some_place}
use Rattle.linking.proofs.Hanging.{rest, rest_step, rest_first, places_more, tame_none, tame_more}
use Rattle.linking.proofs.link.Goals as goal

pub loop-k-init : goal.loop-k-init
loop-k-init g c =
    let links = c.clear.new.self in
    let e = c.clear.ensures in
    let first = none_on_first c.args.links.now.n c.args.links.now.left.now links.left.now c.args.links.now.left_long e.left in
    let bs = g.T.Tape.bits c.args.tape.now in
    record {
      lots = e.lots;
      tamed = tame_none links.n _ _ _ _ first e.rights e.counts;
      going = λ b s w. record {
        linked = link_none b links.n _ _ _ _ first e.rights e.counts;
        free = λ x p q. absurd (omega arith);
        ahead = (c.read-at.ensures (children b links.n 0) (rest b links.n 1) (rest_first b links.n bs w)).1;
      };
    }

pub loop-k-preserved : goal.loop-k-preserved
loop-k-preserved g c =
    let k = c.loop-k.k in
    let links = c.loop-k.links in
    let n = links.n in
    let i = c.loop-k.invariant in
    let e = c.hang.ensures in
    let x = c.climb-place.result.parent in
    let v = c.climb-place.result.best in
    let low = c.climb-place.ensures.below in
    let most : k ≤ n = omega (arith, i.lots, c.clear.ensures.lots) in
    let free : (x ≡ 0) ⊎ (1 ≤ get_or c.loop-k.places (x - 1) 0) =
    elim c.climb-place.ensures.stopped [ inl z ↦ inl z | inr says ↦ inr (some_place (get_or c.loop-k.places (x - 1) 0) (search of_calls)) ] in
    record {
      lots = e.lots ∙ i.lots;
      tamed = rw (e.lots, e.up, e.left, e.right, e.kids) (tame_more n k links.up.now links.left.now links.right.now links.kids.now i.tamed links.up_long links.left_long links.right_long links.kids_long c.loop-k.auto.k most x v low.0 low.1);
      going = λ b s w.
          let now = i.going b s (rw (sym e.lots) w) in
          let found = c.climb-place.ensures.found b s (λ m p q. now.linked.parents m p (omega arith))
          (λ y last r way one says. let e : r ≡ not (eqb (get_or c.loop-k.places (y - 1) 0) 0) = search of_calls in e ∙ place_tells b s n k c.loop-k.places most now.free y last way one) in
          let own = c.read-own.ensures (children b n k) (rest b n (k + 1)) (now.ahead ∙ rest_step b n k most) in
          rw (e.lots, e.up, e.left, e.right, e.kids, c.take_place.ensures) (record {
            linked = link_more b n k links.up.now links.left.now links.right.now links.kids.now now.linked links.up_long links.left_long links.right_long links.kids_long c.loop-k.auto.k most x v found.0 low.0 found.1;
            free = places_more b n k x c.read-own.result.ones c.loop-k.places c.loop-k.auto.k (omega (arith, c.loop-k.auto.places, c.requires, i.lots)) now.free found.0 low.0 free own.0;
            ahead = own.1;
          });
    }
