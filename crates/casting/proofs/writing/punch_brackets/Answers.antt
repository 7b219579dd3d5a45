use Rattle.std.proofs.Common.{length, get_or, arith}
use Rattle.leaders.specs.Sheet.{unary}
use Rattle.leaders.proofs.Lengths.{unary_length}
use Rattle.casting.proofs.Puts.{next_room, next_more, none_left}
use Rattle.casting.proofs.writing.punch_brackets.Goals as goal

pub punch_count-requires : goal.punch_count-requires
punch_count-requires g c =
    let P = g.P.Punch in
    let kids = c.args.kids.now in
    let j = c.loop-count.count-index in
    omega (arith, next_room P.written P.room P.home (λ j. unary (get_or kids j 0)) (length kids) j c.loop-count-test.true c.requires c.loop-count.invariant, unary_length (get_or kids j 0))

pub loop-count-preserved : goal.loop-count-preserved
loop-count-preserved g c =
    let P = g.P.Punch in
    let kids = c.args.kids.now in
    next_more P.written P.room P.home (λ j. unary (get_or kids j 0)) (length kids) c.loop-count.count-index c.punch_count.new.punch c.loop-count-test.true c.loop-count.invariant c.punch_count.ensures

pub returns : goal.returns
returns g c =
    let P = g.P.Punch in
    let kids = c.args.kids.now in
    none_left P.written P.room P.home (λ j. unary (get_or kids j 0)) (length kids) c.loop-count.count-index c.loop-count-test.false c.loop-count.invariant
