-- What inner functions compute. No public contract rests on these definitions.
use Rattle.std.specs.Prelude.{ℕ, ◌+◌, ◌-◌, ◌*◌, min, List, ◌++◌, length, take, drop, fold, position, Some, None, Option, ◌==◌}
use Rattle.std.specs.Option.{unwrap_or}
use Rattle.panel.specs.declared.shown.Shown.{Shown}
use Rattle.panel.specs.declared.shown.Shown.TheVariants.{Blank}
use Rattle.panel.specs.Shows.{told}

-- what is shown by numbers that were read off a panel
abbrev pub shown_by : Option ℕ → Option ℕ → Shown
shown_by None second = Blank
shown_by (Some best) second = told best second

-- cells with a text written so that it ends before a place
unfoldable pub inked : List ℕ → ℕ → List ℕ → List ℕ
inked cells end text = take (end - length text) cells ++ (text ++ drop end cells)

-- where a cell stands first, if it is there
unfoldable pub place : List ℕ → ℕ → Option ℕ
place cells cell = position (λ x. x == cell) cells

-- a number with a digit behind it, if there is a digit; no lot's number goes on past 400
abbrev pub with_digit : Option ℕ → Option ℕ → Option ℕ
with_digit n None = n
with_digit n (Some digit) = Some (min (unwrap_or n 0) 400 * 10 + digit)

-- a number with one glyph more behind it, or of that glyph alone; what is no glyph says nothing
abbrev pub grown : List ℕ → Option ℕ → ℕ → Option ℕ
grown glyphs n cell = with_digit n (place glyphs cell)

-- the number that is read off cells, from the left
unfoldable pub reading : List ℕ → Option ℕ → List ℕ → Option ℕ
reading glyphs n cells = fold (grown glyphs) n cells
