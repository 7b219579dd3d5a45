use Rattle.std.proofs.Common.{sym, arith, rules}
use Rattle.std.proofs.lemmas.List.{length-set}
use Rattle.panel.specs.Lines.{line_of}
use Rattle.panel.proofs.Meanings.{means_written}
use Rattle.panel.proofs.Readings.{best_width, second_width}
use Rattle.panel.proofs.Lining.{line_none, best_drawn, pair_drawn, guess_line, line_undone}
use Rattle.panel.proofs.line_panel.LineFace9.draw.Goals as goal

pub write-requires-clause-within : goal.write-requires-clause-within
write-requires-clause-within c =
    let short = best_width c.args.shown c.requires c.in-Some.best c.in-Some.ensures in omega arith

pub bounds-text-comma : goal.bounds-text-comma
bounds-text-comma c =
    let short = best_width c.args.shown c.requires c.in-Some.best c.in-Some.ensures in omega arith

pub overflow_add-end : goal.overflow_add-end
overflow_add-end c =
    let short = best_width c.args.shown c.requires c.in-Some.best c.in-Some.ensures in search rules

pub overflow_add-end-in-Some-second : goal.overflow_add-end-in-Some-second
overflow_add-end-in-Some-second c =
    let short = best_width c.args.shown c.requires c.in-Some.best c.in-Some.ensures in
    let short-too = second_width c.args.shown c.requires c.in-Some-second.second c.in-Some-second.ensures in
    search rules

pub write-requires-in-Some-second-clause-within : goal.write-requires-in-Some-second-clause-within
write-requires-in-Some-second-clause-within c =
    let short = best_width c.args.shown c.requires c.in-Some.best c.in-Some.ensures in
    let short-too = second_width c.args.shown c.requires c.in-Some-second.second c.in-Some-second.ensures in
    simp length-set (omega arith)

pub returns-in_default : goal.returns-in_default
returns-in_default c =
    let drawn = sym (line_none c.args.shown c.in_default.ensures) in
    record { cells = drawn; means = means_written guess_line line_of line_undone _ c.args.shown c.requires drawn }

pub returns-in_default-second : goal.returns-in_default-second
returns-in_default-second c =
    let drawn = best_drawn c.args.shown c.requires c.in-Some.best c.width-comma.result c.write.new.cells c.in-Some.ensures c.in_default-second.ensures c.width-comma.ensures c.write.ensures in
    record { cells = drawn; means = means_written guess_line line_of line_undone _ c.args.shown c.requires drawn }

pub returns-in-Some-second : goal.returns-in-Some-second
returns-in-Some-second c =
    let drawn = pair_drawn c.args.shown c.requires c.in-Some.best c.in-Some-second.second c.width-comma.result c.width.result c.write.new.cells c.write-in-Some-second.new.cells
    c.in-Some.ensures c.in-Some-second.ensures c.width-comma.ensures c.width.ensures c.write.ensures c.write-in-Some-second.ensures in
    record { cells = drawn; means = means_written guess_line line_of line_undone _ c.args.shown c.requires drawn }
