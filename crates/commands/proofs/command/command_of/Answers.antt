use Rattle.std.proofs.Common.{ap, ◌∙◌}
use Rattle.book.specs.Held.{numbers}
use Rattle.commands.specs.Asked.{lettered_by}
use Rattle.commands.proofs.Asking.{letter_alone, letter_bad, letter_good}
use Rattle.commands.proofs.command.command_of.Goals as goal

pub returns-in_default : goal.returns-in_default
returns-in_default g c =
    c.lettered.ensures ∙ letter_alone g.K.Key.FIELDS g.met.K.Key.few.1 c.args.line.now c.if-line-gt-MOST.false c.in_default.ensures

pub returns-in_err-numbers_of : goal.returns-in_err-numbers_of
returns-in_err-numbers_of g c =
    rw c.from_residual.ensures (letter_bad g.K.Key.FIELDS g.met.K.Key.few.1 c.args.line.now c.if-line-gt-MOST.false c.in-Some.letter.now c.in-Some.numbers.now c.in-Some.ensures c.in_err-numbers_of.ensures)

pub returns : goal.returns
returns g c =
    let arity = g.K.Key.FIELDS in
    c.lettered-2.ensures
    ∙ ap (lettered_by arity c.in-Some.letter.now) c.as_slice.ensures
    ∙ letter_good arity g.met.K.Key.few.1 c.args.line.now c.if-line-gt-MOST.false c.in-Some.letter.now c.in-Some.numbers.now c.in-Some.ensures (numbers c.in_ok-numbers_of.field-0) c.in_ok-numbers_of.ensures
