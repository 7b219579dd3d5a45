use Rattle.std.proofs.Common.{◌≡◌, [], ◌∷◌, Ok, Err, sym, ap, ◌∙◌, arith}
use Rattle.leaders.specs.Refusal.{refusal}
use Rattle.leaders.specs.Verdict.{walked, finish}
use Rattle.reading.specs.Lots.{lot_number}
use Rattle.leaders.proofs.Verdicts.{verdict_none, verdict_many, verdict_some, finish_length, finish_bad, finish_ok}
use Rattle.reading.proofs.Checks.{closes_bound, lot_there}
use Rattle.reading.proofs.check.check.Goals as goal

pub returns-in_default : goal.returns-in_default
returns-in_default g c = sym (verdict_none (g.T.Tape.bits c.args.tape.now) (sym c.balance.ensures ∙ c.in_default.is))

pub returns-then-m-gt-MOST_BRACKETS : goal.returns-then-m-gt-MOST_BRACKETS
returns-then-m-gt-MOST_BRACKETS g c = sym (verdict_many (g.T.Tape.bits c.args.tape.now) _ (sym c.balance.ensures ∙ c.in-Some.is) c.if-m-gt-MOST_BRACKETS.true)

pub walk_over-end-requires : goal.walk_over-end-requires
walk_over-end-requires g c = (omega arith, (closes_bound (g.T.Tape.bits c.args.tape.now) _ (sym c.balance.ensures ∙ c.in-Some.is)).1)

pub returns-then-end-len : goal.returns-then-end-len
returns-then-end-len g c =
    let bs = g.T.Tape.bits c.args.tape.now in
    sym (verdict_some bs c.in-Some.m (sym c.balance.ensures ∙ c.in-Some.is) c.if-m-gt-MOST_BRACKETS.false
    ∙ ap (finish bs c.in-Some.m) (sym c.walk_over-end.ensures)
    ∙ finish_length bs c.in-Some.m (walked c.walk_over-end.result.at (lot_number c.walk_over-end.result.bad)) (λ h. omega (arith, h, c.len.ensures.is)))

pub returns-in-Some-bad : goal.returns-in-Some-bad
returns-in-Some-bad g c =
    let bs = g.T.Tape.bits c.args.tape.now in
    let named : lot_number c.walk_over-end.result.bad ≡ c.in-Some-bad.lot = ap lot_number c.in-Some-bad.is in
    ap (λ n. Err (refusal 10 (n ∷ []))) (sym named) ∙
    sym (verdict_some bs c.in-Some.m (sym c.balance.ensures ∙ c.in-Some.is) c.if-m-gt-MOST_BRACKETS.false
    ∙ ap (finish bs c.in-Some.m) (sym c.walk_over-end.ensures)
    ∙ finish_bad bs c.in-Some.m (walked c.walk_over-end.result.at (lot_number c.walk_over-end.result.bad)) (c.if-end-len.false ∙ c.len.ensures.is) (lot_there c.walk_over-end.result.bad c.in-Some-bad.lot c.walk_over-end.result.lot c.in-Some-bad.is))

pub returns-in-None : goal.returns-in-None
returns-in-None g c =
    let bs = g.T.Tape.bits c.args.tape.now in
    ap Ok c.saturating_sub.ensures ∙
    sym (verdict_some bs c.in-Some.m (sym c.balance.ensures ∙ c.in-Some.is) c.if-m-gt-MOST_BRACKETS.false
    ∙ ap (finish bs c.in-Some.m) (sym c.walk_over-end.ensures)
    ∙ finish_ok bs c.in-Some.m (walked c.walk_over-end.result.at (lot_number c.walk_over-end.result.bad)) (c.if-end-len.false ∙ c.len.ensures.is) (ap lot_number c.in-None.is))
