use Rattle.std.proofs.Common.{◌≡◌, ℕ, ◌+◌, ◌≤◌, Bool, true, not, map, Some, None, Option, IsSomeAnd, sym, ap, ◌∙◌, subst, inl, inr, arith}
use Rattle.std.proofs.lemmas.Bool.{cases_lt}
use Rattle.std.proofs.lemmas.List.{length-map}
use Rattle.bits.specs.Bits.{ones}
use Rattle.leaders.specs.Order.{Strict, Best, Second, best, second}
use Rattle.leaders.proofs.Trees.{best_one}
use Rattle.leaders.proofs.Found.{best_is}
use Rattle.leaders.proofs.Rule.{second_some, second_none}
use Rattle.reading.specs.Place.{Begins}
use Rattle.reading.specs.Reading.{reach, runner_up_of}
use Rattle.reading.proofs.Numbers.{nth_within, begins_select}
use Rattle.reading.proofs.Places.{zeros_encode}
use Rattle.reading.proofs.Pages.{coded, best_read}
use Rattle.reading.proofs.Seconds.{second_read, runner_none}
use Rattle.reading.proofs.pair.find_pair.Goals as goal
use Rattle.reading.proofs.pair.find_pair.Goals.{After-min}

-- what is found as the second of the range is it
second_found : (b : ℕ → ℕ → Bool) → Strict b → (i j : ℕ) → i ≤ j → (o : Option ℕ) → IsSomeAnd o (Second b i j (best b i j)) → o ≡ second b i j
second_found b s i j q None h = absurd h
second_found b s i j q (Some x) h = sym (second_some b s i j x q h)

pub returns-in_err-p : goal.returns-in_err-p
returns-in_err-p g c b s e p q r =
    let t = coded b s (g.T.Tape.bits c.args.tape.now) c.args.lots e in
    let many = zeros_encode t.t in
    absurd (elim c.in_err-p.ensures [ inl z ↦ omega arith | inr z ↦ omega (arith, z, many, t.sized, ap (λ bs. ones (map not bs)) t.is) ])

-- the number of lot j begins after the zero that is found
begins : (g : _) (c : After-min g) → Begins (g.T.Tape.bits c.args.tape.now) c.args.j c.min.result
begins g c =
    let bs = g.T.Tape.bits c.args.tape.now in
    let found = c.in_ok-p.ensures in
    let inside = nth_within (map not bs) c.in_ok-p.p true found.0 in
    let place : c.in_ok-p.p + 1 ≡ c.min.result = omega (arith, inside, length-map bs not, c.len-n.ensures.is, c.len-n.ensures.short, c.saturating_add.ensures, c.min.ensures) in
    subst (Begins bs c.args.j) place (begins_select bs c.args.j c.in_ok-p.p found.0 found.1)

pub sweep_back-s-requires : goal.sweep_back-s-requires
sweep_back-s-requires g c = record { begins = begins g c; range = (omega (arith, c.if-i-eq0.false), omega (arith, c.if-j-i.false)) }

pub returns : goal.returns
returns g c b s e p q r =
    let bs = g.T.Tape.bits c.args.tape.now in
    let n = c.args.lots in
    let i = c.args.i in
    let j = c.args.j in
    let swept = c.sweep_back-s.ensures.is in
    let first = c.sweep_back-s.result.all.best in
    let k : first ≡ (reach bs i j).best = ap (λ z. z.best) swept.all in
    let h : Best b i j first = subst (Best b i j) (sym k) (best_read b s bs n e i j p q r) in
    let x : c.runner_up-second.result ≡ runner_up_of bs n i j first = c.runner_up-second.ensures in
    let is = best_one b s i j first (best b i j) h (best_is b s i j q) in
    let o = runner_up_of bs n i j (reach bs i j).best in (
      is,
      elim (cases_lt i j) [
        | inl l ↦
            x ∙ ap (runner_up_of bs n i j) k
            ∙ second_found b s i j q o (subst (λ z. IsSomeAnd o (Second b i j z)) (sym k ∙ is) (second_read b s bs n e i j p l r))
        | inr l ↦ x ∙ runner_none bs n i j first (omega (arith, h.from, h.upto)) (omega (arith, h.from, h.upto)) ∙ sym (second_none b s i j (omega arith))
      ],
    )
