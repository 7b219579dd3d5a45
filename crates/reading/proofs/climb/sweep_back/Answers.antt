use Rattle.std.proofs.Common.{◌≡◌, ℕ, suc, ◌-◌, ◌≤◌, refl, ap, ◌∙◌, subst, inl, inr, arith}
use Rattle.std.proofs.lemmas.Bool.{cases_lt}
use Rattle.reading.specs.declared.climb.Sweep.{Sweep}
use Rattle.reading.specs.Place.{Begins}
use Rattle.reading.specs.Reading.{Swept, Widened}
use Rattle.reading.proofs.Numbers.{begins_back, swept_back, swept_none}
use Rattle.reading.proofs.climb.sweep_back.Goals as goal

pub loop-lot-init : goal.loop-lot-init
loop-lot-init g c =
    let start = c.start_at.ensures in
    let lot = ap (λ z. z.lot) start in
    let above = ap (λ z. z.above) start in
    let steps = ap (λ z. z.steps) start in (
      c.requires.range.1,
      record { above = omega (arith, lot, above); steps = omega (arith, lot, steps) },
      omega arith,
      omega arith,
      c.requires.begins,
      swept_none (g.T.Tape.bits c.args.tape.now) c.args.high.lot c.args.high.at _ c.requires.begins start refl refl,
    )

pub loop-lot-preserved : goal.loop-lot-preserved
loop-lot-preserved g c =
    let bs = g.T.Tape.bits c.args.tape.now in
    let s = c.loop-lot.s in
    let p = c.loop-lot.at in
    let r = c.number_back-at.result in
    let m = c.loop-lot.lot - 1 in
    let j = c.args.high.lot in
    let t = c.widen-s.result in
    let (low, small, at_low, here-low, begins, swept) = c.loop-lot.invariant in
    let up : c.loop-lot.lot ≡ suc m = omega arith in
    let begins-up : Begins bs (suc m) p = subst (λ z. Begins bs z p) up begins in
    let swept-up : Swept bs (suc m) j s = subst (λ z. Swept bs z j s) up swept in
    let short : r ≤ p - 1 = c.number_back-at.ensures.short in
    let some : 1 ≤ m = omega (arith, c.requires.range) in
    let at-short : r ≤ c.args.high.at = omega arith in (
      omega arith,
      c.widen-s.ensures.small,
      at-short,
      here-short s r (p - 1 - r) t c.args.high.at c.widen-s.ensures.rest at-short here-low,
      begins_back bs m p r begins-up some short c.number_back-at.ensures.is,
      swept_back bs m j p r s t begins-up some (omega (arith, c.loop-lot.auto)) short c.number_back-at.ensures.is (swept.lot ∙ up) swept-up c.widen-s.ensures.all c.widen-s.ensures.rest,
    )
  where
    here-short : (s : Sweep) (r d : ℕ) (t : Sweep) (most : ℕ) → Widened s r d t → r ≤ most → s.here ≤ most → t.here ≤ most
    here-short s r d t most v h k = elim (cases_lt s.all.above d) [ inl l ↦ omega (arith, (v.0 l).0) | inr l ↦ omega (arith, (v.1 l).0) ]
