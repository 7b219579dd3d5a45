use Rattle.std.proofs.Common.{◌+◌, get_or, arith}
use Rattle.links.specs.Walks.{walked}
use Rattle.casting.proofs.Puts.{next_room, next_more, none_left, merge_length}
use Rattle.casting.proofs.writing.Sheet.punch_words.Goals as goal

pub punch_word-requires-clause-room : goal.punch_word-requires-clause-room
punch_word-requires-clause-room g c =
    let P = g.P.Punch in
    let b = g.L.Lots.order c.args.self.now.lots.now in
    let s = c.args.self.now.words.sides in
    let sizes = c.args.self.now.sizes.now in
    let k = c.loop-k.k in
    omega (
      arith,
      next_room P.written P.room P.home (walked b s.left.now s.right.now sizes) (s.n + 1) k c.loop-k-test.true c.requires c.loop-k.invariant,
      merge_length b s.left.now s.right.now (get_or sizes k 0) (get_or s.left.now k 0) (get_or s.right.now k 0),
    )

pub loop-k-preserved : goal.loop-k-preserved
loop-k-preserved g c =
    let P = g.P.Punch in
    let s = c.args.self.now.words.sides in
    next_more P.written P.room P.home (walked (g.L.Lots.order c.args.self.now.lots.now) s.left.now s.right.now c.args.self.now.sizes.now) (s.n + 1) c.loop-k.k c.punch_word.new.punch c.loop-k-test.true c.loop-k.invariant c.punch_word.ensures

pub returns : goal.returns
returns g c =
    let P = g.P.Punch in
    let s = c.args.self.now.words.sides in
    none_left P.written P.room P.home (walked (g.L.Lots.order c.args.self.now.lots.now) s.left.now s.right.now c.args.self.now.sizes.now) (s.n + 1) c.loop-k.k c.loop-k-test.false c.loop-k.invariant
