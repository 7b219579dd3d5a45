use Rattle.std.proofs.Common.{◌≡◌, drop, Some}
use Rattle.commands.specs.Numbers.{read_on}
use Rattle.commands.proofs.number.number_of.Given as goal

abbrev pub invariant-loop-byte : goal.invariant-loop-byte
invariant-loop-byte l = read_on (Some l.n) (drop l.byte-index l.text) ≡ read_on (Some 0) l.text
