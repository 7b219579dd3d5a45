use Rattle.std.proofs.Common.{◌≢◌, length, sym, refl, ◌∙◌, arith}
use Rattle.std.proofs.lemmas.Bool.{eqb-false}
use Rattle.commands.proofs.Parting.{line_found, line_last}
use Rattle.commands.proofs.line.first_line.Goals as goal

pub returns-in_default : goal.returns-in_default
returns-in_default c =
    let text = c.args.text.now in
    let some : length text ≢ 0 = eqb-false (length text) 0 (sym c.is_empty.ensures ∙ c.if-is_empty.false) in
    line_last text _ c.in_default.ensures (omega arith) refl

pub returns : goal.returns
returns c = line_found c.args.text.now c.in-Some.bytes.now c.in-Some.rest.now c.in-Some.ensures
