use Rattle.std.proofs.Common.{ap, ◌∙◌, arith}
use Rattle.bits.proofs.Bitlists.{rank_past}
use Rattle.packing.specs.Packs.{bytes_for}
use Rattle.packing.proofs.pack.measure.Goals as goal

pub returns : goal.returns
returns g c =
    let bs = g.T.Tape.bits c.args.tape.now in
    record {
      bits = c.len-bits.ensures.is;
      ones = c.rank.ensures ∙ rank_past bs c.len-bits.result (omega (arith, c.len-bits.ensures.is));
      bytes = ap bytes_for c.len-bits.ensures.is;
    }
