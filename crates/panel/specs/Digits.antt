-- The eight digits of a digit panel, each a byte of segments: a to g are bits 0 to 6.
use Rattle.std.specs.Prelude.{ℕ, ◌-◌, List, [], ◌∷◌, ◌++◌, length, replicate}
use Rattle.panel.specs.declared.shown.Shown.{Shown}
use Rattle.panel.specs.declared.shown.Shown.TheVariants.{Blank, Best, Pair}
use Rattle.panel.specs.Numerals.{numeral}
use Rattle.panel.specs.Shows.{meaning}

-- the segments of the digits 0 to 9
abbrev pub segments : List ℕ
segments = 0x3F ∷ 0x06 ∷ 0x5B ∷ 0x4F ∷ 0x66 ∷ 0x6D ∷ 0x7D ∷ 0x07 ∷ 0x7F ∷ 0x6F ∷ []

-- this many dark digits
abbrev pub dark : ℕ → List ℕ
dark n = replicate n 0

-- four digits, dark up to the number's first
abbrev pub right_aligned : ℕ → List ℕ
right_aligned n = dark (4 - length (numeral segments n)) ++ numeral segments n

-- four digits for the best and four for the second; none is dark
unfoldable pub digits_lit : Shown → List ℕ
digits_lit Blank = dark 8
digits_lit (Best best) = right_aligned best ++ dark 4
digits_lit (Pair best second) = right_aligned best ++ right_aligned second

-- what eight digits mean
abbrev pub digits_show : List ℕ → Shown
digits_show digits = meaning digits_lit digits
