use Rattle.leaders.proofs.Merging.{rebuilt_prices_cast_the_sheet}
use Rattle.leaders.proofs.rebuilt_prices_cast_the_sheet.Goals as goal

pub returns : goal.returns
returns c = rebuilt_prices_cast_the_sheet
