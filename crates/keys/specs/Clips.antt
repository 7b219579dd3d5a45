-- Clips as keys, by their plain rows.
use Rattle.std.specs.Prelude.{◌≡◌, ℕ, Bool, true, cond, List, [], ◌∷◌, Some, None, Option, ◌==◌, nat_le, nat_lt}
use Rattle.keys.specs.declared.clip.Clip.{Clip}
use Rattle.keys.specs.declared.row.ClipRow.{ClipRow}
use Rattle.keys.specs.Ranges.{in_range}

-- the first field that differs decides: the lower width, the higher yield, the higher strength
abbrev pub clip_at_least : ClipRow → ClipRow → Bool
clip_at_least x y =
    cond (x.width == y.width)
    (cond (x.wool_yield == y.wool_yield) (nat_le y.strength x.strength) (nat_lt y.wool_yield x.wool_yield))
    (nat_lt x.width y.width)

-- the row of these three fields
abbrev pub row_from : ℕ → ℕ → ℕ → ClipRow
row_from width yielded strength = record { width = width; wool_yield = yielded; strength = strength }

-- three fields in their ranges make a row, and all else is refused
abbrev pub clip_made : List ℕ → Option ClipRow
clip_made [] = None
clip_made (w ∷ []) = None
clip_made (w ∷ y ∷ []) = None
clip_made (w ∷ y ∷ s ∷ []) = cond (in_range w y s) (Some (row_from w y s)) None
clip_made (w ∷ y ∷ s ∷ more ∷ rest) = None

-- the row of a clip
abbrev pub row_of : Clip → ClipRow
row_of c = row_from c.width c.wool_yield c.strength

-- the row has the fields of the clip, which are in range
abbrev pub IsRow : Clip → ClipRow → Type 0
IsRow c r = (r ≡ row_of c) × (in_range r.width r.wool_yield r.strength ≡ true)

-- the row of the clip, if there is one
abbrev pub row_in : Option Clip → Option ClipRow
row_in (Some c) = Some (row_of c)
row_in None = None
