-- The refusals of a board.
use Rattle.std.specs.Prelude.{◌≡◌, ℕ, List, [], codes}
use Rattle.leaders.specs.Refusal.{Refusal, refusal}
use Rattle.reading.specs.declared.check.SheetFault.{SheetFault}
use Rattle.reading.specs.Faults.{told as sheet_told, sentence as sheet_sentence}
use Rattle.rebuilding.specs.declared.FewNumbers.{FewNumbers}
use Rattle.board.specs.declared.fault.BoardFault.{BoardFault}
use Rattle.board.specs.declared.fault.BoardFault.TheVariants.{Sheet, NotTaken, NoPage, NoRoom}

-- 7 to 10 are those of the tape, whole. 11: no sheet is taken. 12: the page begins at lot 0 or past the last, or has size 0. 13: too few prices or working numbers.
abbrev pub told : BoardFault → Refusal
told (Sheet f) = sheet_told f
told NotTaken = refusal 11 []
told NoPage = refusal 12 []
told NoRoom = refusal 13 []

-- A tape's fault is carried whole.
abbrev pub carries : SheetFault → BoardFault → Type 0
carries f r = r ≡ Sheet f

abbrev pub carries_few : FewNumbers → BoardFault → Type 0
carries_few f r = r ≡ NoRoom

-- The refusal in a sentence.
abbrev pub sentence : BoardFault → List ℕ
sentence (Sheet f) = sheet_sentence f
sentence NotTaken = codes "it is not shown, since no sheet is taken."
sentence NoPage = codes "it is not shown, since it begins at no lot of the sheet, or has size 0."
sentence NoRoom = codes "there are too few prices or working numbers to rebuild with."
