use Rattle.std.proofs.Common.{◌≡◌, suc, ◌-◌, ◌≤◌, sym, subst, arith}
use Rattle.reading.specs.Reading.{On, Goes}
use Rattle.reading.proofs.Numbers.{goes_back, on_back}
use Rattle.reading.proofs.place.go_home.Goals as goal

pub loop-lot-preserved : goal.loop-lot-preserved
loop-lot-preserved g c =
    let bs = g.T.Tape.bits c.args.tape.now in
    let from = c.args.from in
    let s = c.loop-lot.w.way in
    let m = c.loop-lot.lot - 1 in
    let r = c.number_back-at.result in
    let (few, small, lot, low, at_low, before, own) = c.loop-lot.invariant in
    let up : c.loop-lot.lot ≡ suc m = omega arith in
    let goes : Goes bs from.way (suc m) s = subst (λ z. Goes bs from.way z s) up before in
    let some : 1 ≤ m = omega arith in
    let most : suc m ≤ from.way.left.lot = omega (arith, c.loop-lot.auto) in
    let short = c.number_back-at.ensures.short in
    let number = c.number_back-at.ensures.is in
    let step = c.step_back.ensures in (
      step.few,
      c.pass.ensures.small,
      c.pass.ensures.lot,
      some,
      omega (arith, short, step.is.place),
      goes_back bs from.way s c.step_back.result m r goes some most at_low short number step.is step.lot,
      λ j d h o. subst (On bs j m d) (sym c.pass.ensures.is)
          (on_back bs m s.at r j d c.loop-lot.w.own goes.begins some (omega (arith, c.requires.lot)) short number (subst (λ z. On bs j z d c.loop-lot.w.own) up (own j d h o))),
    )

pub returns : goal.returns
returns g c =
    let bs = g.T.Tape.bits c.args.tape.now in
    let (few, small, lot, low, at_low, goes, own) = c.loop-lot.invariant in
    let here : c.loop-lot.lot ≡ 1 = omega arith in
    record {
      way = subst (λ z. Goes bs c.args.from.way z c.loop-lot.w.way) here goes;
      own = λ m d h o. subst (λ z. On bs m z d c.loop-lot.w.own) here (own m d h o);
      few = few;
    }
