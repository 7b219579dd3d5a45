-- The ranges of a clip's fields.
use Rattle.std.specs.Prelude.{ℕ, Bool, ◌&&◌, nat_le}

-- width 100 to 500 tenths of a micron, yield 0 to 1,000 tenths of a percent, strength 0 to 100 newtons per kilotex
abbrev pub in_range : ℕ → ℕ → ℕ → Bool
in_range width yielded strength = ((nat_le 100 width && nat_le width 500) && nat_le yielded 1000) && nat_le strength 100
