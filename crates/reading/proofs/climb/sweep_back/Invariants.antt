use Rattle.std.proofs.Common.{◌≤◌}
use Rattle.reading.specs.Place.{Begins}
use Rattle.reading.specs.Reading.{Small, Swept}
use Rattle.reading.proofs.climb.sweep_back.Given as goal

abbrev pub invariant-loop-lot : goal.invariant-loop-lot
invariant-loop-lot g l =
    (l.low ≤ l.lot)
    × Small l.s.all
    × (l.at ≤ l.initial.at)
    × (l.s.here ≤ l.initial.at)
    × Begins (g.T.Tape.bits l.tape) l.lot l.at
    × Swept (g.T.Tape.bits l.tape) l.lot l.initial.lot l.s
