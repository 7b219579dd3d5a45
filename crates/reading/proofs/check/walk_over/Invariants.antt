use Rattle.std.proofs.Common.{◌≡◌, ◌+◌, ◌*◌, ◌<◌, ◌≤◌, true, [], length, take, drop}
use Rattle.bits.specs.Bits.{bits_between}
use Rattle.leaders.specs.Verdict.{walk}
use Rattle.reading.specs.declared.path.TheConstants.{MOST_BRACKETS}
use Rattle.reading.specs.Lots.{lot_number, is_lot}
use Rattle.reading.proofs.check.walk_over.Given as goal

abbrev pub invariant-loop-bit : goal.invariant-loop-bit
invariant-loop-bit g l =
    let left = bits_between (g.T.Tape.bits l.bit-iterator.tape.now) l.bit-iterator.from l.bit-iterator.upto in
    (walk (g.T.Tape.bits l.tape) l.d l.path l.lot l.at (lot_number l.bad) left
    ≡ walk (g.T.Tape.bits l.tape) 0 [] 0 l.m 0 (drop 1 (take l.m (g.T.Tape.bits l.tape))))
    × (is_lot l.bad ≡ true) × (length l.yielded + length left < MOST_BRACKETS) × (l.d ≤ length l.yielded) × (l.lot ≤ length l.yielded) × (l.at ≤ l.m + 20000 * length l.yielded) × (length l.path ≤ length l.yielded)
