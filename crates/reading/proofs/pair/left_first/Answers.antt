use Rattle.std.proofs.Common.{◌≡◌, ℕ, ◌-◌, true, false, cond, take, drop, ap, ◌∙◌, arith}
use Rattle.leaders.specs.Tree.{sooner}
use Rattle.reading.specs.Place.{after, lones}
use Rattle.reading.specs.Reading.{reach, word_at, is_left_first}
use Rattle.reading.proofs.pair.left_first.Goals as goal
use Rattle.reading.proofs.pair.left_first.Goals.{then-way, else-way}

pub returns : goal.returns
unfolding is_left_first word_at
returns g c a above f here later =
    let bs = g.T.Tape.bits c.args.tape.now in
    let k = c.args.s.all.best in
    let lone : c.if-way.lone ≡ lones true false (drop (after 1 bs) (take (after k bs) bs)) =
    elim c.if-way.branch [
      | then-way w ↦ omega (arith, w.lone-is, f.lone, ap (λ t. cond {A = ℕ} t 1 0) w.if-way.true)
      | else-way w ↦ omega (arith, w.lone-is, f.lone, ap (λ t. cond {A = ℕ} t 1 0) w.if-way.false)
    ] in
    let word : c.saturating_sub-3.result ≡ word_at bs c.args.lots k = omega (arith, lone, here, f.first, f.left) in
    let x : c.saturating_sub-x.result ≡ (reach bs 1 a).steps - (reach bs 1 k).steps = omega (arith, f.best, f.own) in
    c.zero_first.ensures
    ∙ ap (λ z. sooner (drop z bs) c.saturating_sub-x.result c.args.s.later) word
    ∙ ap (λ z. sooner (drop (word_at bs c.args.lots k) bs) z c.args.s.later) x
    ∙ ap (λ z. sooner (drop (word_at bs c.args.lots k) bs) ((reach bs 1 a).steps - (reach bs 1 k).steps) z) later
