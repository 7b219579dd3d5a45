use Rattle.std.proofs.Common.{◌≡◌, ◌+◌, ◌-◌, length}
use Rattle.std.specs.Int.Digits.{digits_of}
use Rattle.panel.specs.Numerals.{numeral}
use Rattle.panel.specs.Inner.{inked}
use Rattle.panel.proofs.numeral.write.Given as goal

-- what is left to write gives the whole
abbrev pub invariant-loop-at : goal.invariant-loop-at
invariant-loop-at l =
    (inked l.cells l.at (numeral l.glyphs l.left) ≡ inked l.initial.cells l.end (numeral l.glyphs l.n))
    × (length (digits_of 10 l.left) + (l.end - length (digits_of 10 l.n)) ≡ l.at)
