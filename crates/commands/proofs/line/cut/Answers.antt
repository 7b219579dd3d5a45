use Rattle.std.proofs.Common.{◌+◌, refl}
use Rattle.std.proofs.lemmas.List.{take_rest}
use Rattle.commands.proofs.Parting.{place_none, cut_at}
use Rattle.commands.proofs.line.cut.Goals as goal

pub returns-in_err-at : goal.returns-in_err-at
returns-in_err-at c = rw c.from_residual.ensures (place_none c.args.text.now c.args.mark c.in_err-at.ensures)

pub returns : goal.returns
returns c =
    let text = c.args.text.now in
    cut_at text c.args.mark c.in_ok-at.at _ _ refl c.in_ok-at.ensures (take_rest text (c.in_ok-at.at + 1))
