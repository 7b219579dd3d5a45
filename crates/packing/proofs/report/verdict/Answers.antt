use Rattle.std.proofs.Common.{sym, ap}
use Rattle.packing.specs.Reports.{verdict_text}
use Rattle.packing.proofs.report.verdict.Goals as goal

pub returns-then-same : goal.returns-then-same
returns-then-same c = sym (ap verdict_text c.if-same.true)

pub returns-else-same : goal.returns-else-same
returns-else-same c = sym (ap verdict_text c.if-same.false)
