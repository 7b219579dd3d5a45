use Rattle.std.proofs.Common.{◌≤◌}
use Rattle.reading.specs.Reading.{Few, Goes}
use Rattle.reading.proofs.place.go_back.Given as goal

abbrev pub invariant-loop-lot : goal.invariant-loop-lot
invariant-loop-lot g l =
    Few l.w
    × (l.low ≤ l.lot)
    × (l.w.at ≤ l.initial.w.at)
    × Goes (g.T.Tape.bits l.tape) l.initial.w l.lot l.w
