use Rattle.std.proofs.Common.{◌≡◌, ℕ, ◌+◌, ◌-◌, ◌<◌, Bool, true, false, cond, Some, sym, refl, ap, ◌∙◌, subst, inl, inr, arith}
use Rattle.std.proofs.lemmas.Bool.{eq-eqb, ne_eqb, cases_lt}
use Rattle.reading.specs.Reading.{reach, runner_up_of, On}
use Rattle.reading.proofs.Marks.{chosen}
use Rattle.reading.proofs.Numbers.{begins_after, near_best, front_is}
use Rattle.reading.proofs.pair.runner_up.Goals as goal
use Rattle.reading.proofs.pair.runner_up.Goals.{After-go_back-near, After-left_first}

pub returns-then-low-k : goal.returns-then-low-k
unfolding runner_up_of
returns-then-low-k g c =
    let w = c.requires.swept in
    let same : c.args.low ≡ c.args.s.all.best = omega (arith, w.from, c.if-low-k.true) in
    elim (cases_lt c.args.s.all.best c.args.high) [
      | inl h ↦ rw (eq-eqb c.args.low c.args.s.all.best same, ne_eqb c.args.s.all.best c.args.high (omega arith)) (w.right h)
      | inr h ↦
          let end : c.args.s.all.best ≡ c.args.high = omega (arith, w.upto) in
          rw (eq-eqb c.args.low c.args.s.all.best same, eq-eqb c.args.s.all.best c.args.high end) (w.none end)
    ]

best : (g : _) (c : After-go_back-near g) → c.go_back-near.result.left.best ≡ (reach (g.T.Tape.bits c.args.tape.now) c.args.low (c.args.s.all.best - 1)).best
best g c = near_best (g.T.Tape.bits c.args.tape.now) (c.args.s.all.best - 1) c.args.low _ c.go_back-near.result c.start_at-2.ensures c.go_back-near.ensures.is

pub returns-then-k-high : goal.returns-then-k-high
unfolding runner_up_of
returns-then-k-high g c =
    let w = c.requires.swept in
    rw (ne_eqb c.args.low c.args.s.all.best (omega (arith, c.if-low-k.false)), eq-eqb c.args.s.all.best c.args.high (omega (arith, w.upto, c.if-k-high.true))) (ap Some (best g (goal.at.returns-then-k-high g c).After-go_back-near))

cond_some : (t : Bool) (x y : ℕ) → cond t (Some x) (Some y) ≡ Some (cond t x y)
cond_some true x y = refl
cond_some false x y = refl

-- what is found on both sides of the best lot, and which side the spine says is first
found : (g : _) (c : After-left_first g) → cond c.left_first.result (Some c.go_back-near.result.left.best) c.args.s.right ≡ runner_up_of (g.T.Tape.bits c.args.tape.now) c.args.lots c.args.low c.args.high c.args.s.all.best
found g c =
    let bs = g.T.Tape.bits c.args.tape.now in
    let w = c.requires.swept in
    let s = c.args.s in
    let m = s.all.best in
    let near = c.go_back-near.result in
    let h : c.args.low < m = omega (arith, c.if-low-k.false) in
    let k : m < c.args.high = omega (arith, c.if-k-high.false) in
    let before = c.go_back-before.ensures.is in
    let own = c.go_home-far.ensures.own m s.all.steps (omega (arith, w.lot, w.from)) (subst (λ z. On bs m z s.all.steps s.all) (sym w.lot) w.rooted.on) in
    let front = front_is bs m c.args.low s.all.steps _ c.go_back-before.result _ near c.go_home-far.result h c.requires.low w.here refl refl before
    refl c.start_at-2.ensures refl refl c.go_back-near.ensures.is c.go_home-far.ensures.way own in
    let a = near_best bs (m - 1) c.args.low _ near c.start_at-2.ensures c.go_back-near.ensures.is in
    let above = (reach bs (m + 1) c.args.high).above in
    let first = c.left_first.ensures near.left.best above front (begins_after bs m s.here w.here) (w.later k) in
    let next = (reach bs (m + 1) c.args.high).best in
    ap (cond c.left_first.result (Some near.left.best)) (w.right k) ∙ cond_some c.left_first.result near.left.best next
    ∙ chosen bs c.args.lots c.args.low c.args.high m near.left.best above next c.left_first.result h k a refl refl first

pub returns-then-left_first : goal.returns-then-left_first
returns-then-left_first g c = ap (λ t. cond t (Some c.go_back-near.result.left.best) c.args.s.right) (sym c.if-left_first.true) ∙ found g (goal.at.returns-then-left_first g c).After-left_first

pub returns-else-left_first : goal.returns-else-left_first
returns-else-left_first g c = ap (λ t. cond t (Some c.go_back-near.result.left.best) c.args.s.right) (sym c.if-left_first.false) ∙ found g (goal.at.returns-else-left_first g c).After-left_first
