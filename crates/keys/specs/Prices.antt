-- Prices as keys.
use Rattle.std.specs.Prelude.{ℕ, Bool, List, [], ◌∷◌, Some, None, Option, nat_le}
use Rattle.keys.specs.declared.price.Price.{Price}

-- the higher price is the better
abbrev pub price_at_least : Price → Price → Bool
price_at_least x y = nat_le y.cents x.cents

-- one field makes a price, and any other count is refused
abbrev pub price_of : List ℕ → Option Price
price_of [] = None
price_of (cents ∷ []) = Some (record { cents = cents })
price_of (cents ∷ more ∷ rest) = None
