-- Which texts are lettered sheets, and what is wrong with the others.
use Rattle.std.specs.Prelude.{◌≡◌, ℕ, ◌-◌, ◌<◌, ◌≤◌, Bool, true, false, cond, ◌||◌, List, [], ◌++◌, length, take, codes, decimal, ◌==◌, slice_index}
use Rattle.packing.specs.declared.letters.LetterFault.{LetterFault}
use Rattle.packing.specs.declared.letters.LetterFault.TheVariants.{Empty, TooLong, Stray}

-- a text without a line feed at its end
abbrev pub trimmed : List ℕ → List ℕ
trimmed text = cond (slice_index text (length text - 1) == 10) (take (length text - 1) text) text

-- is a byte one of the letters `(` and `)`?
abbrev pub is_letter : ℕ → Bool
is_letter b = b == 40 || b == 41

-- the bytes before place p are letters
abbrev pub LettersBefore : List ℕ → ℕ → Type 0
LettersBefore text p = (k : ℕ) → k < p → is_letter (slice_index text k) ≡ true

-- a lettered sheet: 1 to 32,768 letters and nothing else
abbrev pub LetteredSheet : List ℕ → Type 0
LetteredSheet text = (0 < length text) × (length text ≤ 32768) × LettersBefore text (length text)

-- what is wrong with a text: it is empty, it is too long, or else it has a stray byte, of which the first is told
abbrev pub Faulty : List ℕ → LetterFault → Type 0
Faulty text Empty = text ≡ []
Faulty text TooLong = 32768 < length text
Faulty text (Stray p) = (length text ≤ 32768) × (p < length text) × (is_letter (slice_index text p) ≡ false) × LettersBefore text p

-- what is printed of a text that is no sheet
abbrev pub text_of_fault : LetterFault → List ℕ
text_of_fault Empty = codes "The sheet is empty. Nothing is packed.\n"
text_of_fault TooLong = codes "The sheet has more than 32768 letters. Nothing is packed.\n"
text_of_fault (Stray p) = codes "The character at place " ++ decimal p ++ codes ", counted from 0, is neither ( nor ). Nothing is packed.\n"
