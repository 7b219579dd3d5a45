use Rattle.std.proofs.Common.{◌≡◌, ◌∙◌, arith}
use Rattle.bits.proofs.Bitlists.{rank_yes, rank_no, set_at, rank_end}
use Rattle.bits.proofs.tape.Tape.rank.Goals as goal
use Rattle.bits.proofs.tape.Tape.rank.Goals.{then-unwrap_or, else-unwrap_or}

pub loop-i-preserved : goal.loop-i-preserved
loop-i-preserved g c =
    let bs = g.Self.Tape.bits c.args.self.now in
    let b = c.unwrap_or.result in
    let e : b ≡ set_at bs c.loop-i.i = cc in
    elim c.if-unwrap_or.branch [
      | then-unwrap_or w ↦
          let m = rank_yes bs c.loop-i.i b e w.if-unwrap_or.true in
          (omega (arith, m, w.count-is), omega (arith, w.count-is))
      | else-unwrap_or w ↦
          let m = rank_no bs c.loop-i.i b e w.if-unwrap_or.false in
          (omega (arith, m, w.count-is), omega (arith, w.count-is))
    ]

pub returns : goal.returns
returns g c =
    let bs = g.Self.Tape.bits c.args.self.now in
    c.loop-i.invariant.0 ∙ rank_end bs c.args.p c.loop-i.i (omega (arith, c.len.ensures.is))
