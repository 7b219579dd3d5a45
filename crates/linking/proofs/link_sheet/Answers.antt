use Rattle.links.proofs.Walking.{ready_is}
use Rattle.linking.proofs.link_sheet.Goals as goal

pub returns-clause-starts : goal.returns-clause-starts
returns-clause-starts g c b s e =
    let links = c.link.new.links in
    let ready = ready_is b s links.n links.up.now links.left.now links.right.now links.kids.now (c.link.ensures.linked b s e) links.kids_long in
    let w = c.words.ensures in
    rw (← w.lots) (c.place_words.ensures b (rw (w.lots, w.left, w.right, w.kids) ready))
