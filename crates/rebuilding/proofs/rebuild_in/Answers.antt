use Rattle.std.proofs.Common.{◌≡◌, length, set, ◌∙◌}
use Rattle.rebuilding.proofs.Holding.{prices_are_rebuilt, linked_first}
use Rattle.rebuilding.proofs.rebuild_in.Goals as goal

pub returns : goal.returns
returns g c b s e =
    let l = c.link_sheet.new.links in
    let n = l.n in
    let up = l.up.now in
    let left = l.left.now in
    let right = l.right.now in
    let kids = l.kids.now in
    let same : n ≡ length c.args.prices.now = c.link_sheet.ensures.lots ∙ c.over-links.ensures.lots in
    let f = rw (← same) at e in
    rw (← same) (prices_are_rebuilt b s n (g.T.Tape.bits c.args.tape.now) f c.link_sheet.new.starts (c.link_sheet.ensures.starts b s f) (set up 0 0) left right kids
    (linked_first b n 0 up left right kids (c.link_sheet.ensures.linked b s f)) c.join_all.new.self.order.next.now c.hand_out.new.prices c.join_all.ensures.ordered (rw c.join_all.ensures.sides at c.hand_out.ensures))
