use Rattle.std.proofs.Common.{◌∙◌, arith}
use Rattle.commands.proofs.Parting.{place_or_all}
use Rattle.commands.proofs.line.place_of.Goals as goal

pub returns : goal.returns
returns c =
    let (within, first) = place_or_all c.args.text.now c.args.mark c.find_place.result c.find_place.ensures in
    record { within = omega (arith, within, c.unwrap_or.ensures); first = c.unwrap_or.ensures ∙ first }
