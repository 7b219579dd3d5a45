use Rattle.std.proofs.Common.{◌≡◌, length, take}
use Rattle.commands.specs.Texts.{fields}
use Rattle.commands.specs.Numbers.{numbers_in}
use Rattle.commands.proofs.Reading.{onto}
use Rattle.commands.proofs.number.numbers_of.Given as goal

abbrev pub invariant-loop-at : goal.invariant-loop-at
invariant-loop-at l = (length l.values ≡ 5) × (onto (take l.at l.values) (numbers_in (fields l.rest)) ≡ numbers_in (fields l.text))
