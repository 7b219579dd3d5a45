use Rattle.commands.proofs.Parting.{no_lines}
use Rattle.commands.proofs.line.LinesIterator.next.Goals as goal

pub returns-in_err-line-clause-steps : goal.returns-in_err-line-clause-steps
returns-in_err-line-clause-steps c =
    let none = no_lines c.args.self.now.rest.now c.in_err-line.ensures in
    rw c.from_residual.ensures (none, none)
