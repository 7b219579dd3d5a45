use Rattle.std.proofs.Common.{◌≡◌, drop, sym, ap, ◌∙◌, arith}
use Rattle.std.proofs.lemmas.List.{take_all}
use Rattle.bits.specs.Bits.{bits_between}
use Rattle.leaders.specs.Tree.{sooner}
use Rattle.reading.proofs.Readers.{sooner_one, sooner_zero, sooner_last_one, sooner_last_zero, sooner_done}
use Rattle.reading.proofs.place.zero_first.Goals as goal

pub loop-bit-init : goal.loop-bit-init
loop-bit-init g c =
    let bs = g.T.Tape.bits c.args.tape.now in
    let all : bits_between bs c.args.from c.len.result ≡ drop c.args.from bs = ap (drop c.args.from) (take_all c.len.result bs (omega (arith, c.len.ensures.is))) in
    ap (λ xs. sooner xs c.args.x c.args.y) (ap (λ s. bits_between (g.T.Tape.bits s.tape.now) s.from s.upto) c.into_iter-bit-iterator.ensures.into_iter_gives ∙ c.between-bit-items.ensures ∙ all)

pub loop-bit-preserved : goal.loop-bit-preserved
loop-bit-preserved g c =
    sym (sooner_zero (bits_between (g.T.Tape.bits c.loop-bit.bit-iterator.tape.now) c.loop-bit.bit-iterator.from c.loop-bit.bit-iterator.upto) _ c.in-Some.bit c.loop-bit.zeros c.loop-bit.ones c.in-Some.ensures.steps c.if-bit.false (omega (arith, c.if-zeros-eq0.false)))
    ∙ c.loop-bit.invariant

pub loop-bit-preserved-then-bit : goal.loop-bit-preserved-then-bit
loop-bit-preserved-then-bit g c =
    sym (sooner_one (bits_between (g.T.Tape.bits c.loop-bit.bit-iterator.tape.now) c.loop-bit.bit-iterator.from c.loop-bit.bit-iterator.upto) _ c.in-Some.bit c.loop-bit.zeros c.loop-bit.ones c.in-Some.ensures.steps c.if-bit.true (omega (arith, c.if-ones-eq0.false)))
    ∙ c.loop-bit.invariant

pub returns-then-ones-eq0 : goal.returns-then-ones-eq0
returns-then-ones-eq0 g c =
    sym (sooner_last_one (bits_between (g.T.Tape.bits c.loop-bit.bit-iterator.tape.now) c.loop-bit.bit-iterator.from c.loop-bit.bit-iterator.upto) _ c.in-Some.bit c.loop-bit.zeros c.loop-bit.ones c.in-Some.ensures.steps c.if-bit.true c.if-ones-eq0.true)
    ∙ c.loop-bit.invariant

pub returns-then-zeros-eq0 : goal.returns-then-zeros-eq0
returns-then-zeros-eq0 g c =
    sym (sooner_last_zero (bits_between (g.T.Tape.bits c.loop-bit.bit-iterator.tape.now) c.loop-bit.bit-iterator.from c.loop-bit.bit-iterator.upto) _ c.in-Some.bit c.loop-bit.zeros c.loop-bit.ones c.in-Some.ensures.steps c.if-bit.false c.if-zeros-eq0.true)
    ∙ c.loop-bit.invariant

pub returns : goal.returns
returns g c =
    sym (sooner_done (bits_between (g.T.Tape.bits c.loop-bit.bit-iterator.tape.now) c.loop-bit.bit-iterator.from c.loop-bit.bit-iterator.upto) c.loop-bit.zeros c.loop-bit.ones (c.in-None.ensures.steps).0)
    ∙ c.loop-bit.invariant
