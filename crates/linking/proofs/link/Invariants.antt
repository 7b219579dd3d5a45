use Rattle.std.proofs.Common.{◌≡◌, ℕ, Bool}
use Rattle.leaders.specs.Order.{Strict}
use Rattle.leaders.specs.Sheet.{sheet}
use Rattle.linking.proofs.Hanging.{Tamed, Going}
use Rattle.linking.proofs.link.Given as goal

abbrev pub invariant-loop-k : goal.invariant-loop-k
invariant-loop-k g l = let n = l.links.n in record {
  lots : n ≡ l.fn.links.n;
  tamed : Tamed n l.k l.links.up.now l.links.left.now l.links.right.now l.links.kids.now;
  going : (b : ℕ → ℕ → Bool) → Strict b → sheet b n ≡ g.T.Tape.bits l.tape → Going b n l.k (g.T.Tape.bits l.tape) l.links.up.now l.links.left.now l.links.right.now l.links.kids.now l.places l.at;
}
