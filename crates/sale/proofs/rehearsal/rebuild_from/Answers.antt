use Rattle.std.proofs.Common.{◌≡◌, ℕ, Bool, IfOk, Ok, Err, sym, refl, ap, ◌∙◌, subst}
use Rattle.std.proofs.lemmas.Result.{err_from_is_err_and}
use Rattle.leaders.specs.Refusal.{answered}
use Rattle.leaders.specs.Verdict.{verdict}
use Rattle.board.specs.Faults.{told}
use Rattle.board.specs.Pages.{lots_by, Rewritten, Knows}
use Rattle.sale.proofs.Returns.{not_taken, taken}
use Rattle.sale.proofs.rehearsal.rebuild_from.Goals as goal

pub returns-in_err-take : goal.returns-in_err-take
returns-in_err-take g c =
    let p = err_from_is_err_and c.from_residual.result c.from_residual.ensures.1 in
    let said : answered told c.from_residual.result ≡ Err (told c.in_err-take.field-0.0) = ap (answered told) p.1 ∙ ap (λ f. Err (told f)) p.2 in
    not_taken (g.T.Tape.bits c.args.tape) _ (told c.in_err-take.field-0.0)
    (ap (λ t. verdict (g.T.Tape.bits t)) (sym c.new-board.ensures.tape) ∙ sym c.in_err-take.ensures.verdict) said (refl, refl)

pub returns : goal.returns
returns g c =
    let bits_of = g.T.Tape.bits in
    let tape = c.args.tape in
    let its = c.take.new.self.tape in
    let same : its ≡ tape = c.take.ensures.tape ∙ c.new-board.ensures.tape in
    let said : verdict (bits_of c.new-board.result.tape) ≡ Ok _ = sym c.in_ok-take.ensures.verdict in
    let judged : verdict (bits_of tape) ≡ Ok _ = ap (λ t. verdict (bits_of t)) (sym c.new-board.ensures.tape) ∙ said in
    let lots : c.take.new.self.lots ≡ lots_by (verdict (bits_of tape)) = c.take.ensures.lots ∙ ap (λ t. lots_by (verdict (bits_of t))) c.new-board.ensures.tape in
    let done = c.rebuild.ensures in
    taken (bits_of tape) c.take.new.self.lots c.args.prices.now c.args.work.now c.rebuild.new.prices c.rebuild.new.work _ c.rebuild.result judged lots
    done.reply done.declined
    (subst (λ t. IfOk c.rebuild.result (λ n. (b : ℕ → ℕ → Bool) → Knows b c.take.new.self.lots (bits_of t) → Rewritten b n (bits_of t) c.args.prices.now c.rebuild.new.prices)) same done.written)
    done.past done.rest
