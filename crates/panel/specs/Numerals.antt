-- Numbers in decimal, in any ten glyphs.
use Rattle.std.specs.Prelude.{ℕ, List, map, slice_index}
use Rattle.std.specs.Int.Digits.{digits_of}

-- the decimal digits of a number without leading noughts, each as its glyph; nought has none
abbrev pub numeral : List ℕ → ℕ → List ℕ
numeral glyphs n = map (λ d. slice_index glyphs d) (digits_of 10 n)
