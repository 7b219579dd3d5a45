use Rattle.std.proofs.Common.{◌∙◌, ap}
use Rattle.panel.specs.Digits.{digits_lit}
use Rattle.panel.specs.Shows.{proper}
use Rattle.panel.proofs.Meanings.{means_guess_or_blank, by_proper}
use Rattle.panel.proofs.Lighting.{guess_digits, digits_undone, guess_parts}
use Rattle.panel.proofs.digit_panel.DigitsFace8.guess.Goals as goal

pub returns-clause-read : goal.returns-clause-read
returns-clause-read c =
    means_guess_or_blank guess_digits digits_lit digits_undone c.args.lit.now c.by.result
    (guess_parts c.args.lit.now c.by.result c.read.result c.read-2.result c.told-lit c.read.ensures c.read-2.ensures c.by.ensures)
    (ap proper c.by.ensures ∙ by_proper c.read.result c.read-2.result)
