-- The refusals of a book.
use Rattle.std.specs.Prelude.{◌≡◌, []}
use Rattle.leaders.specs.Refusal.{Refusal, refusal}
use Rattle.casting.specs.declared.CastFault.{CastFault}
use Rattle.casting.specs.Casts.{told as cast_told}
use Rattle.book.specs.declared.fault.BookFault.{BookFault}
use Rattle.book.specs.declared.fault.BookFault.TheVariants.{BadFields, BookFull, NoSuchLot, Cast}

-- 2: the kind refuses the fields. 3: the book is full. 4: no such lot. 5 and 6 are those of a cast, whole.
abbrev pub told : BookFault → Refusal
told BadFields = refusal 2 []
told BookFull = refusal 3 []
told NoSuchLot = refusal 4 []
told (Cast f) = cast_told f

-- A fault of a cast is carried whole.
abbrev pub carries : CastFault → BookFault → Type 0
carries f r = r ≡ Cast f
