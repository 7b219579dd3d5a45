-- The nine bytes of a line panel.
use Rattle.std.specs.Prelude.{ℕ, ◌-◌, List, [], ◌∷◌, ◌++◌, length, replicate}
use Rattle.panel.specs.declared.shown.Shown.{Shown}
use Rattle.panel.specs.declared.shown.Shown.TheVariants.{Blank, Best, Pair}
use Rattle.panel.specs.Numerals.{numeral}
use Rattle.panel.specs.Shows.{meaning}

-- the letters 0 to 9
abbrev pub letters : List ℕ
letters = 48 ∷ 49 ∷ 50 ∷ 51 ∷ 52 ∷ 53 ∷ 54 ∷ 55 ∷ 56 ∷ 57 ∷ []

-- spaces up to nine bytes
abbrev pub padded : List ℕ → List ℕ
padded text = text ++ replicate (9 - length text) 32

-- the best in decimal, a comma, the second if any, then spaces; blank is all spaces
unfoldable pub line_of : Shown → List ℕ
line_of Blank = padded []
line_of (Best best) = padded (numeral letters best ++ 44 ∷ [])
line_of (Pair best second) = padded (numeral letters best ++ 44 ∷ numeral letters second)

-- what nine bytes mean
abbrev pub line_shows : List ℕ → Shown
line_shows text = meaning line_of text
