use Rattle.std.proofs.Common.{ap, ◌∙◌}
use Rattle.std.specs.Option.{option_or}
use Rattle.reading.specs.Lots.{lot_number}
use Rattle.reading.proofs.Checks.{lowest_lot}
use Rattle.reading.proofs.check.first_bad.Goals as goal

pub returns-clause-is : goal.returns-clause-is
returns-clause-is c =
    ap lot_number (c.or.ensures ∙ ap (option_or c.args.bad) c.then_some.ensures) ∙ lowest_lot c.args.lot c.args.bad c.args.wrong c.requires.bad
