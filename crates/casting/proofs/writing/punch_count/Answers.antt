use Rattle.std.proofs.Common.{◌+◌, ◌-◌, true, false, [], arith}
use Rattle.leaders.specs.Sheet.{unary}
use Rattle.leaders.proofs.Lengths.{unary_length}
use Rattle.casting.proofs.Puts.{bit_more, all_added, unary_step, unary_end}
use Rattle.casting.proofs.writing.punch_count.Goals as goal

pub loop-preserved : goal.loop-preserved
loop-preserved g c =
    let P = g.P.Punch in
    let a = c.append.ensures in
    let e = unary_step c.args.count c.loop.counter c.loop-test.true in
    bit_more P.written P.room P.home c.append.new.self c.append.result true (unary (c.args.count - (c.loop.counter + 1))) (omega (arith, c.requires, unary_length c.args.count)) (rw e at c.loop.invariant) a.bits a.room a.home

pub returns : goal.returns
returns g c =
    let P = g.P.Punch in
    let a = c.append-2.ensures in
    let e = unary_end c.args.count c.loop.counter c.loop-test.false in
    all_added P.written P.room P.home (bit_more P.written P.room P.home c.append-2.new.self c.append-2.result false [] (omega (arith, c.requires, unary_length c.args.count)) (rw e at c.loop.invariant) a.bits a.room a.home)
