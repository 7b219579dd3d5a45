use Rattle.std.proofs.Common.{◌<◌, take, drop, sym, ◌∙◌, arith}
use Rattle.std.proofs.lemmas.Option.{slice_get_past}
use Rattle.bits.proofs.Bitlists.{length_window, nth_take, nth_drop}
use Rattle.bits.proofs.views.WindowTape.get.Goals as goal

pub returns-then-p-min : goal.returns-then-p-min
returns-then-p-min g c =
    let w = c.args.self.now in
    let bs = g.T.Tape.bits w.below in
    let h : c.args.p < w.most = omega arith in
    c.get.ensures ∙ sym (nth_take w.most (drop w.from bs) c.args.p h ∙ nth_drop w.from bs c.args.p)

pub returns-else-p-min : goal.returns-else-p-min
returns-else-p-min g c =
    let w = c.args.self.now in
    let bs = g.T.Tape.bits w.below in
    let e = length_window w.most w.from bs in
    sym (slice_get_past (take w.most (drop w.from bs)) c.args.p (omega (arith, c.len.ensures.is)))
