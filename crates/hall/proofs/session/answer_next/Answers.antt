use Rattle.std.proofs.Common.{length, ap}
use Rattle.book.specs.Held.{keys_in}
use Rattle.hall.specs.Halls.{hall, replies}
use Rattle.hall.specs.States.{terms_of}
use Rattle.hall.proofs.session.answer_next.Goals as goal

pub returns-clause-first : goal.returns-clause-first
unfolding replies
returns-clause-first g c shown st =
    let t = terms_of g.K.Key.made g.K.Key.at_least g.K.Key.FIELDS c.args.book.now c.args.punch.now (length c.args.work.now) in
    let line = c.in-Some.ensures in
    let said = c.in_ok-answer_line.ensures in
    record {
      next = record {
        line = c.in-Some.line.bytes.now;
        turned = said.done.turned shown st;
        replied = said.replied shown st;
        owed = ap (replies t (hall (keys_in c.args.book.now) shown)) line.lines_are;
      };
      first = line.lines_are;
    }
