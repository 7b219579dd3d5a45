-- Texts parted into lines, and lines into fields.
use Rattle.std.specs.Prelude.{◌≡◌, ℕ, suc, ◌+◌, ◌<◌, cond, List, [], ◌∷◌, length, take, drop, ◌==◌}

-- A byte put in front of the first part.
abbrev pub in_front : ℕ → List (List ℕ) → List (List ℕ)
in_front b [] = (b ∷ []) ∷ []
in_front b (part ∷ parts) = (b ∷ part) ∷ parts

-- The parts of a text between the places where the byte `mark` stands; `none` are the parts of no text.
unfoldable pub parted : List (List ℕ) → ℕ → List ℕ → List (List ℕ)
parted none mark [] = none
parted none mark (b ∷ bs) = cond (b == mark) ([] ∷ parted none mark bs) (in_front b (parted none mark bs))

-- The lines of a text. Each ends with a line feed, which the last may lack; an empty text has none.
abbrev pub lines : List ℕ → List (List ℕ)
lines text = parted [] 10 text

-- The fields of a line, parted by commas. An empty line has one, which is empty.
abbrev pub fields : List ℕ → List (List ℕ)
fields line = parted ([] ∷ []) 44 line

-- Where a byte stands first in a text, or the length if it is not there.
unfoldable pub place : List ℕ → ℕ → ℕ
place [] mark = 0
place (b ∷ bs) mark = cond (b == mark) 0 (suc (place bs mark))

-- A text up to the first place of a byte, and what stands behind that.
pub record Cut (text : List ℕ) (mark : ℕ) (before behind : List ℕ) : Type 0 where
  pub there : place text mark < length text
  pub before_is : before ≡ take (place text mark) text
  pub behind_is : behind ≡ drop (place text mark + 1) text

-- A text's first line, up to its first line feed, and the rest behind that.
pub record FirstLine (text bytes rest : List ℕ) : Type 0 where
  pub bytes_are : bytes ≡ take (place text 10) text
  pub rest_is : rest ≡ drop (place text 10 + 1) text
  pub lines_are : lines text ≡ bytes ∷ lines rest
  pub shorter : length rest < length text
