use Rattle.std.proofs.Common.{◌≡◌, ◌≤◌}
use Rattle.bits.specs.Bits.{rank_of}
use Rattle.bits.proofs.tape.Tape.rank.Given as goal

abbrev pub invariant-loop-i : goal.invariant-loop-i
invariant-loop-i g l = (l.count ≡ rank_of (g.Self.Tape.bits l.self) l.i) × (l.count ≤ l.i)
