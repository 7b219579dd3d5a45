use Rattle.std.proofs.Common.{◌≤◌, false, true, [], ◌∷◌, refl, sym, inl, inr, arith}
use Rattle.links.proofs.Joins.{climb_more, climb_end}
use Rattle.links.proofs.Links.climb.Goals as goal
use Rattle.links.proofs.Links.climb.Goals.{then-loop-x-test+else-not-stops, else-loop-x-test}

pub loop-x-preserved : goal.loop-x-preserved
loop-x-preserved g c =
    let k = c.args.k in
    let x = c.loop-x.x in
    let i = c.loop-x.invariant in
    let one : 1 ≤ x = omega (arith, c.loop-x-test.true) in
    record {
      node = omega (arith, c.requires.hangs x one i.node);
      last = i.node;
      path = λ ys p b rest. i.path (x ∷ ys) p b (refl, one, c.if-not-stops.ensures, rest);
      climbed = λ b s up tells.
          let way = i.climbed b s up tells in
          climb_more b s k x c.loop-x.last _ way c.loop-x-test.true (sym (tells x c.loop-x.last false way one c.if-not-stops.ensures)) (up x one i.node);
    }

pub returns-clause-path : goal.returns-clause-path
returns-clause-path g c = c.loop-x.invariant.path [] c.loop-x.x c.loop-x.last (refl, refl)

pub returns-clause-found : goal.returns-clause-found
returns-clause-found g c b s up tells =
    let way = c.loop-x.invariant.climbed b s up tells in (
      climb_end b s c.args.k c.loop-x.x c.loop-x.last way (elim c.loop-x-test.branch [
        | then-loop-x-test+else-not-stops w ↦ inr (sym (tells c.loop-x.x c.loop-x.last true way (omega arith) w.if-not-stops.ensures))
        | else-loop-x-test w ↦ inl w.loop-x-test.false
      ]),
      way.top,
    )
