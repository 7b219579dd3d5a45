use Rattle.std.proofs.Common.{map, sym, refl, ap, ◌∙◌}
use Rattle.leaders.specs.Refusal.{answered}
use Rattle.leaders.specs.Verdict.{verdict}
use Rattle.board.specs.Faults.{told as board_told}
use Rattle.board.specs.Showing.{told, turn_of}
use Rattle.board.proofs.Turns.{take_turn, no_panel, page_turn}
use Rattle.board.proofs.play.perform.Goals as goal

pub returns-then-p-panels : goal.returns-then-p-panels
returns-then-p-panels g c =
    let v = verdict (g.T.Tape.bits c.args.board.now.tape) in
    let l = c.args.board.now.lots in
    let ss = map g.D.Panel.shows c.args.panels.now in
    record {
      tape = refl;
      turns = λ b h. no_panel v b l g.D.Panel.shows c.args.panels.now c.in-Page.at c.in-Page.start c.in-Page.size c.if-p-panels.true ∙ ap (turn_of v b l ss) (sym c.in-Page.is);
    }

pub returns-in-Take : goal.returns-in-Take
returns-in-Take g c =
    let v = verdict (g.T.Tape.bits c.args.board.now.tape) in
    let l = c.args.board.now.lots in
    let ss = map g.D.Panel.shows c.args.panels.now in
    record {
      tape = c.take.ensures.tape;
      turns = λ b h. take_turn v b l c.take.new.self.lots ss (answered board_told c.take.result) (answered told c.taken.result) c.take.ensures.lots c.take.ensures.verdict c.taken.ensures ∙ ap (turn_of v b l ss) (sym c.in-Take.is);
    }

pub returns-else-p-panels : goal.returns-else-p-panels
returns-else-p-panels g c =
    let v = verdict (g.T.Tape.bits c.args.board.now.tape) in
    let l = c.args.board.now.lots in
    let ss = map g.D.Panel.shows c.args.panels.now in
    record {
      tape = refl;
      turns = λ b h. page_turn v b l g.D.Panel.shows c.args.panels.now c.in-Page.at c.in-Page.start c.in-Page.size c.page.new.panel (answered board_told c.page.result) (answered told c.paged.result) c.if-p-panels.false c.page.ensures.reply c.paged.ensures (c.page.ensures.shown b h) ∙ ap (turn_of v b l ss) (sym c.in-Page.is);
    }
