use Rattle.std.proofs.Common.{◌≡◌, ◌+◌, ◌≤◌, length}
use Rattle.std.specs.Iterator.Adapters.{enumerate_source, enumerate_count}
use Rattle.bits.specs.Bits.{bits_between}
use Rattle.leaders.specs.Verdict.{close_at, closes}
use Rattle.reading.proofs.check.balance.Given as goal

abbrev pub invariant-loop-read : goal.invariant-loop-read
invariant-loop-read g l =
    let read = enumerate_count l.read-iterator in
    let rest = enumerate_source l.read-iterator in
    let left = bits_between (g.T.Tape.bits rest.tape.now) rest.from rest.upto in
    (close_at (read + 1) l.open left ≡ closes (g.T.Tape.bits l.tape)) × (l.open ≤ read) × (read + length left ≤ 32768)
