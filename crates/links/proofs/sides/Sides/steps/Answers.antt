use Rattle.std.proofs.Common.{arith}
use Rattle.links.proofs.Loops.{walk_less, walk_more, walk_end}
use Rattle.links.proofs.sides.Sides.steps.Goals as goal

pub loop-x-preserved : goal.loop-x-preserved
loop-x-preserved c =
    let side = c.args.self.now in
    let x = c.loop-x.x in
    (side.rights x c.loop-x.invariant.0, omega (arith, walk_less side.n side.right.now x c.loop-x-test.true c.loop-x.invariant.0 side.rises, c.loop-x.invariant.1), λ xs h. walk_more side.right.now x c.loop-x.steps _ c.loop-x-test.true (c.loop-x.invariant.2 xs h))

pub returns-clause-chain : goal.returns-clause-chain
returns-clause-chain c xs h = walk_end c.args.self.now.right.now c.loop-x.x c.loop-x.steps _ c.loop-x-test.false (c.loop-x.invariant.2 xs h)
