use Rattle.std.proofs.Common.{◌≡◌, ℕ, ◌≤◌}
use Rattle.reading.specs.Reading.{On, Small, Few, Goes}
use Rattle.reading.proofs.place.go_home.Given as goal

abbrev pub invariant-loop-lot : goal.invariant-loop-lot
invariant-loop-lot g l =
    Few l.w.way
    × Small l.w.own
    × (l.w.own.lot ≡ l.lot)
    × (1 ≤ l.lot)
    × (l.w.way.at ≤ l.initial.w.way.at)
    × Goes (g.T.Tape.bits l.tape) l.initial.w.way l.lot l.w.way
    × ((m c : ℕ) → l.initial.w.own.lot ≤ m → On (g.T.Tape.bits l.tape) m l.initial.w.own.lot c l.initial.w.own → On (g.T.Tape.bits l.tape) m l.lot c l.w.own)
