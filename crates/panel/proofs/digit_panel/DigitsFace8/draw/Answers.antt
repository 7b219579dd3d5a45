use Rattle.std.proofs.Common.{arith}
use Rattle.panel.specs.Digits.{digits_lit}
use Rattle.panel.proofs.Meanings.{means_written}
use Rattle.panel.proofs.Readings.{best_width, second_width}
use Rattle.panel.proofs.Lighting.{blank_lit, best_lit, pair_lit, guess_digits, digits_undone}
use Rattle.panel.proofs.digit_panel.DigitsFace8.draw.Goals as goal

pub write-requires-clause-room : goal.write-requires-clause-room
write-requires-clause-room c =
    let short = best_width c.args.shown c.requires c.in-Some.best c.in-Some.ensures in omega arith

pub write-requires-in-Some-second-clause-room : goal.write-requires-in-Some-second-clause-room
write-requires-in-Some-second-clause-room c =
    let short = second_width c.args.shown c.requires c.in-Some-second.second c.in-Some-second.ensures in omega arith

pub returns-in_default : goal.returns-in_default
returns-in_default c =
    let lit = blank_lit c.args.shown c.in_default.ensures in
    record { cells = lit; means = means_written guess_digits digits_lit digits_undone _ c.args.shown c.requires lit }

pub returns-in_default-second : goal.returns-in_default-second
returns-in_default-second c =
    let lit = best_lit c.args.shown c.requires c.in-Some.best c.write.new.cells c.in-Some.ensures c.in_default-second.ensures c.write.ensures in
    record { cells = lit; means = means_written guess_digits digits_lit digits_undone _ c.args.shown c.requires lit }

pub returns-in-Some-second : goal.returns-in-Some-second
returns-in-Some-second c =
    let lit = pair_lit c.args.shown c.requires c.in-Some.best c.in-Some-second.second c.write.new.cells c.write-in-Some-second.new.cells c.in-Some.ensures c.in-Some-second.ensures c.write.ensures c.write-in-Some-second.ensures in
    record { cells = lit; means = means_written guess_digits digits_lit digits_undone _ c.args.shown c.requires lit }
