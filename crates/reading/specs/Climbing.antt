-- How the reader goes back through the numbers of children.
use Rattle.std.specs.Prelude.{ℕ, ◌+◌, ◌-◌, Bool, true, false, cond, List, [], ◌∷◌, ◌==◌}
use Rattle.reading.specs.declared.climb.Climb.{Climb}

-- the lot whose number of children is read, the best lot from it on, the lots in front of the best that no other one in front beats, and how often the best has changed
abbrev pub at : ℕ → ℕ → ℕ → ℕ → Climb
at lot best above steps = record { lot = lot; best = best; above = above; steps = steps }

-- one bit back: a zero ends the number of the lot below, a one is a child
unfoldable pub back : Bool → Climb → Climb
back false s = at (s.lot - 1) s.best (s.above + 1) s.steps
back true s = cond (s.above == 1) (at s.lot s.lot 0 (s.steps + 1)) (at s.lot s.best (s.above - 1) s.steps)

-- all bits, the last one first
unfoldable pub climb : List Bool → Climb → Climb
climb [] s = s
climb (x ∷ bs) s = back x (climb bs s)
