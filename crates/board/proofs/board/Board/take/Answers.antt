use Rattle.std.proofs.Common.{◌≡◌, Ok, Err, refl, ap, ◌∙◌}
use Rattle.std.proofs.lemmas.Result.{err_from_is_err_and}
use Rattle.leaders.specs.Refusal.{answered}
use Rattle.leaders.specs.Verdict.{verdict}
use Rattle.reading.specs.Faults.{told as sheet_told}
use Rattle.board.specs.Faults.{told}
use Rattle.board.specs.Pages.{lots_by}
use Rattle.board.proofs.Taking.{taken_when}
use Rattle.board.proofs.board.Board.take.Goals as goal

pub returns-in_err-n : goal.returns-in_err-n
returns-in_err-n g c =
    let bits = g.T.Tape.bits c.args.self.now.tape in
    let p = err_from_is_err_and c.from_residual.result c.from_residual.ensures.1 in
    let said : Err (sheet_told c.in_err-n.field-0.0) ≡ verdict bits = c.in_err-n.ensures in
    let e : answered told c.from_residual.result ≡ verdict bits = ap (answered told) (p.1 ∙ ap Err p.2) ∙ said in
    record {
      verdict = e;
      cast = taken_when c.from_residual.result bits e;
      lots = ap lots_by said;
      tape = refl;
    }

pub returns : goal.returns
returns g c =
    let bits = g.T.Tape.bits c.args.self.now.tape in
    let said : Ok c.in_ok-n.n ≡ verdict bits = c.in_ok-n.ensures in
    record {
      verdict = said;
      cast = taken_when (Ok c.in_ok-n.n) bits said;
      lots = ap lots_by said;
      tape = refl;
    }
