-- The refusals of a tape that is no sheet.
use Rattle.std.specs.Prelude.{ℕ, List, [], ◌∷◌, ◌++◌, codes, decimal}
use Rattle.leaders.specs.Refusal.{Refusal, refusal}
use Rattle.reading.specs.declared.check.SheetFault.{SheetFault}
use Rattle.reading.specs.declared.check.SheetFault.TheVariants.{Unbalanced, TooManyLots, WrongLength, BadWord}

-- 7: empty, begins with `)`, or never balanced. 8: more lots than 4,000. 9: more or fewer bits than the spines must have.
-- 10: the spine of a lot has more 0s than L(k) or more 1s than R(k), with the lowest such lot.
abbrev pub told : SheetFault → Refusal
told Unbalanced = refusal 7 []
told TooManyLots = refusal 8 []
told WrongLength = refusal 9 []
told (BadWord lot) = refusal 10 (lot ∷ [])

-- The refusal in a sentence.
abbrev pub sentence : SheetFault → List ℕ
sentence Unbalanced = codes "This is no sheet: its brackets do not begin, or never close."
sentence TooManyLots = codes "This is no sheet: it has more than 4,000 lots."
sentence WrongLength = codes "This is no sheet: it has too few or too many letters after its brackets."
sentence (BadWord lot) = codes "This is no sheet: the spine of lot " ++ decimal lot ++ codes " is wrong."
