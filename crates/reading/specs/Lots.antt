-- A lot that may not be there, as a number.
use Rattle.std.specs.Prelude.{ℕ, Bool, true, None, Some, Option, nat_le}

-- the number of the lot, 0 for none
abbrev pub lot_number : Option ℕ → ℕ
lot_number None = 0
lot_number (Some lot) = lot

-- a lot is numbered from 1, if there is one
abbrev pub is_lot : Option ℕ → Bool
is_lot None = true
is_lot (Some lot) = nat_le 1 lot
