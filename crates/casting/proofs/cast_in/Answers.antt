use Rattle.links.proofs.Walking.{ready_is, kids_most}
use Rattle.links.specs.Walks.{Ready}
use Rattle.casting.proofs.cast_in.Goals as goal
use Rattle.casting.proofs.cast_in.Goals.{After-link}

ready : (g : _) (c : After-link g) → let l = c.link.new.links in Ready (g.L.Lots.order c.args.lots.now) l.n l.left.now l.right.now l.kids.now
ready g c = let l = c.link.new.links in ready_is (g.L.Lots.order c.args.lots.now) c.len-n.ensures.strict l.n l.up.now l.left.now l.right.now l.kids.now c.link.ensures.linked l.kids_long

pub invariant_of-words : goal.invariant_of-words
invariant_of-words g c =
    let l = c.link.new.links in
    let r = ready g c in
    record { few = l.few; left_long = l.left_long; right_long = l.right_long; lefts = r.lowers; rights = r.uppers; rises = ∣ r.rising ∣₁ }

pub invariant_of-words-2 : goal.invariant_of-words-2
invariant_of-words-2 g c =
    let l = c.link.new.links in
    record { kids_long = l.kids_long; kids_most = kids_most (g.L.Lots.order c.args.lots.now) l.n l.up.now l.left.now l.right.now l.kids.now c.link.ensures.linked }

pub punch_linked-requires-clause-ready : goal.punch_linked-requires-clause-ready
punch_linked-requires-clause-ready g c = ready g (goal.at.punch_linked-requires-clause-ready g c).After-link
