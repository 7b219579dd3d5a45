-- What panels show, and what the cells of a panel mean.
use Rattle.std.specs.Prelude.{ℕ, zero, suc, Bool, true, cond, ◌&&◌, List, [], ◌∷◌, ◌++◌, map, Some, None, Option, nat_le}
use Rattle.std.specs.List.{flat_map}
use Rattle.std.specs.Str.{bytes_eq}
use Rattle.panel.specs.declared.shown.Shown.{Shown}
use Rattle.panel.specs.declared.shown.Shown.TheVariants.{Blank, Best, Pair}

-- the numbers that lots have
abbrev pub is_lot : ℕ → Bool
is_lot n = nat_le 1 n && nat_le n 4000

-- every number that is shown is a lot's
abbrev pub proper : Shown → Bool
proper Blank = true
proper (Best best) = is_lot best
proper (Pair best second) = is_lot best && is_lot second

-- a best lot with a second or without
abbrev pub pair_of : ℕ → Option ℕ → Shown
pair_of best None = Best best
pair_of best (Some second) = Pair best second

-- what a panel shows that was told these numbers: the pair, or nothing if a number is no lot's
abbrev pub told : ℕ → Option ℕ → Shown
told best second = cond (proper (pair_of best second)) (pair_of best second) Blank

-- the best lot that is shown, if any is
abbrev pub best_of : Shown → Option ℕ
best_of Blank = None
best_of (Best best) = Some best
best_of (Pair best second) = Some best

-- the second that is shown, if any is
abbrev pub second_of : Shown → Option ℕ
second_of Blank = None
second_of (Best best) = None
second_of (Pair best second) = Some second

-- 1 to n
unfoldable pub up_to : ℕ → List ℕ
up_to zero = []
up_to (suc n) = up_to n ++ suc n ∷ []

-- each best lot up to n alone, and with each second
unfoldable pub pairs_up_to : ℕ → List Shown
pairs_up_to n = flat_map (λ best. Best best ∷ map (Pair best) (up_to n)) (up_to n)

-- the first of these values that is written as these cells, or blank if there is none
unfoldable pub written : (Shown → List ℕ) → List ℕ → List Shown → Shown
written write cells [] = Blank
written write cells (s ∷ rest) = cond (bytes_eq (write s) cells) s (written write cells rest)

-- what cells mean on a panel that writes so: the pair of lots that is written as these cells, or blank if there is none
unfoldable pub meaning : (Shown → List ℕ) → List ℕ → Shown
meaning write cells = written write cells (pairs_up_to 4000)
