use Rattle.std.proofs.Common.{◌∙◌, ap, refl}
use Rattle.panel.specs.Lines.{line_of}
use Rattle.panel.specs.Shows.{proper}
use Rattle.panel.specs.declared.shown.Shown.TheVariants.{Blank}
use Rattle.panel.proofs.Meanings.{means_guess_or_blank, by_proper}
use Rattle.panel.proofs.Lining.{guess_line, line_undone, guess_none, guess_parts}
use Rattle.panel.proofs.line_panel.LineFace9.guess.Goals as goal

pub returns-in_default-clause-read : goal.returns-in_default-clause-read
returns-in_default-clause-read c =
    means_guess_or_blank guess_line line_of line_undone c.args.text.now Blank (guess_none c.args.text.now c.in_default.ensures.first) refl

pub returns-clause-read : goal.returns-clause-read
returns-clause-read c =
    means_guess_or_blank guess_line line_of line_undone c.args.text.now c.by.result
    (guess_parts c.args.text.now c.in-Some.comma c.by.result c.read.result c.read-2.result c.told-text c.in-Some.ensures.first c.read.ensures c.read-2.ensures c.by.ensures)
    (ap proper c.by.ensures ∙ by_proper c.read.result c.read-2.result)
