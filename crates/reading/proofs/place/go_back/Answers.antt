use Rattle.std.proofs.Common.{◌≡◌, suc, ◌-◌, subst, arith}
use Rattle.reading.specs.Reading.{Goes}
use Rattle.reading.proofs.Numbers.{goes_back}
use Rattle.reading.proofs.place.go_back.Goals as goal

pub loop-lot-preserved : goal.loop-lot-preserved
loop-lot-preserved g c =
    let bs = g.T.Tape.bits c.args.tape.now in
    let s = c.loop-lot.w in
    let m = c.loop-lot.lot - 1 in
    let (few, low, at_low, before) = c.loop-lot.invariant in
    let up : c.loop-lot.lot ≡ suc m = omega arith in
    let goes : Goes bs c.args.from (suc m) s = subst (λ z. Goes bs c.args.from z s) up before in
    let short = c.number_back-at.ensures.short in
    let step = c.step_back-w.ensures in (
      step.few,
      omega arith,
      omega (arith, short, step.is.place),
      goes_back bs c.args.from s c.step_back-w.result m c.number_back-at.result goes (omega (arith, c.requires.range)) (omega (arith, c.loop-lot.auto)) at_low short c.number_back-at.ensures.is step.is step.lot,
    )

pub returns : goal.returns
returns g c =
    let (few, low, at_low, goes) = c.loop-lot.invariant in
    let here : c.loop-lot.lot ≡ c.args.low = omega arith in
    record { is = subst (λ z. Goes (g.T.Tape.bits c.args.tape.now) c.args.from z c.loop-lot.w) here goes; few = few }
