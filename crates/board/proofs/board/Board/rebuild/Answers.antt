use Rattle.std.proofs.Common.{◌≡◌, length, Some, of_calls}
use Rattle.board.proofs.Rebuilds.{rebuild_done, rewritten}
use Rattle.board.proofs.board.Board.rebuild.Goals as goal

pub returns : goal.returns
returns g c =
    let said = c.in_ok-rebuild_prices.ensures in
    let taken : c.args.self.now.lots ≡ Some c.in_ok-n.n = search of_calls in
    record {
      reply = rebuild_done c.args.self.now.lots c.in_ok-n.n (length c.args.prices.now) (length c.args.work.now) taken said.reply;
      declined = tt;
      written = rewritten c.args.self.now.lots c.in_ok-n.n (g.T.Tape.bits c.args.self.now.tape) c.args.prices.now c.rebuild_prices.new.prices taken said.written;
      past = said.past;
      rest = said.rest;
    }
