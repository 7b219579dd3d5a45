use Rattle.std.proofs.Common.{ap, length, arith}
use Rattle.rebuilding.proofs.Holding.{sheet_least}
use Rattle.rebuilding.proofs.rebuild_prices.Goals as goal

pub returns-then-len-n-clause-written : goal.returns-then-len-n-clause-written
returns-then-len-n-clause-written g c b s e = absurd (omega (arith, sheet_least b s c.args.lots, ap length e, c.len.ensures.is, c.if-len-n.true))
