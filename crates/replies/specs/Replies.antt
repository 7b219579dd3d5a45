-- The reply lines of the hall programs, byte by byte.
use Rattle.std.specs.Prelude.{ℕ, Bool, List, ◌++◌, map, Ok, Err, codes, decimal, Result}
use Rattle.bits.specs.Punching.{letter}
use Rattle.leaders.specs.Refusal.{Refusal}
use Rattle.casting.specs.Casts.{Casting}
use Rattle.panel.specs.declared.shown.Shown.{Shown}
use Rattle.panel.specs.declared.shown.Shown.TheVariants.{Blank, Best, Pair}

-- `ok,` and a number of lots.
abbrev pub ok_line : ℕ → List ℕ
ok_line n = codes "ok," ++ (decimal n ++ codes "\n")

-- `refused,` and the refusal's number.
abbrev pub refused_line : ℕ → List ℕ
refused_line n = codes "refused," ++ (decimal n ++ codes "\n")

-- `sheet,` and the bits as letters.
abbrev pub sheet_line : List Bool → List ℕ
sheet_line bits = codes "sheet," ++ (map letter bits ++ codes "\n")

-- `pair,` and two lots, 0 for none.
abbrev pub lots_line : ℕ → ℕ → List ℕ
lots_line best second = codes "pair," ++ (decimal best ++ (codes "," ++ (decimal second ++ codes "\n")))

abbrev pub pair_line : Shown → List ℕ
pair_line Blank = lots_line 0 0
pair_line (Best best) = lots_line best 0
pair_line (Pair best second) = lots_line best second

-- The reply to an add, a strike or a new key.
abbrev pub book_line : Result ℕ Refusal → List ℕ
book_line (Ok n) = ok_line n
book_line (Err r) = refused_line r.number

-- The reply to a cast that leaves these bits in the punch.
abbrev pub cast_line_of : List Bool → Result ℕ Refusal → List ℕ
cast_line_of bits (Ok n) = sheet_line bits
cast_line_of bits (Err r) = refused_line r.number

abbrev pub cast_line : Casting → List ℕ
cast_line c = cast_line_of c.bits c.reply

-- The reply to a page that leaves this on its panel.
abbrev pub page_line : Result (Unit {0}) Refusal → Shown → List ℕ
page_line (Ok u) shown = pair_line shown
page_line (Err r) shown = refused_line r.number
