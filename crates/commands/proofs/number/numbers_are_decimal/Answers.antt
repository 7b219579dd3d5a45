use Rattle.commands.proofs.Decimal.{numbers_are_decimal}
use Rattle.commands.proofs.number.numbers_are_decimal.Goals as goal

pub returns : goal.returns
returns c = numbers_are_decimal
