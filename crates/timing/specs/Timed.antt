-- What the benchmark's cast leaves.
use Rattle.std.specs.Prelude.{◌≡◌, ℕ, ◌≤◌, min, List, length}
use Rattle.leaders.specs.Order.{beats}
use Rattle.leaders.specs.Sheet.{sheet}
use Rattle.keys.specs.declared.price.Price.{Price}
use Rattle.keys.specs.Prices.{price_at_least}
use Rattle.packed.specs.Packed.{packed}

-- so many bits of the bytes are the sheet of the prices, of which 4,000 count at most; none where the cast is refused
abbrev pub CastInto : List Price → List ℕ → ℕ → Type 0
CastInto prices bytes r = 1 ≤ r → packed bytes r ≡ sheet (beats price_at_least prices) (min (length prices) 4000)
