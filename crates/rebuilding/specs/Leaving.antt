-- The lots that leave one after another, each joined as it leaves.
use Rattle.std.specs.Prelude.{◌≡◌, ℕ, zero, suc, ◌-◌, ◌<◌, ◌≤◌, Bool, List, [], ◌∷◌, ◌++◌, length, slice_index, slice_set}
use Rattle.rebuilding.specs.Splices.{Joins}

-- the lots zs are those from x up, as long as they are above limit
abbrev pub Way : List ℕ → ℕ → ℕ → List ℕ → Type 0
Way up limit x [] = x ≤ limit
Way up limit x (z ∷ zs) = (x ≡ z) × (limit < z) × (slice_index up z < z) × Way up limit (slice_index up z) zs

-- the lots zs are those that leave for the m lots from k on, and at last
abbrev pub Plan : List ℕ → ℕ → ℕ → List ℕ → Type 0
Plan up zero k zs = Way up 0 (k - 1) zs
Plan up (suc m) k zs = (us : List ℕ) × (vs : List ℕ) × (zs ≡ us ++ vs) × Way up (slice_index up k) (k - 1) us × Plan up m (suc k) vs

-- from next₀ and ends₀ to next and ends: each lot is joined, and the last lot of its order is written among the ends
abbrev pub Steps : List ℕ → List ℕ → (ℕ → List Bool) → List ℕ → List ℕ → List ℕ → List ℕ → List ℕ → Type 0
Steps left right word [] next₀ ends₀ next ends = (next ≡ next₀) × (ends ≡ ends₀)
Steps left right word (x ∷ xs) next₀ ends₀ next ends =
    (next₁ : List ℕ) × (last : ℕ) × (x < length ends₀) × Joins next₀ next₁ left right x (word x) (slice_index ends₀ (slice_index left x)) (slice_index ends₀ (slice_index right x)) last
    × Steps left right word xs next₁ (slice_set ends₀ x last) next ends

-- all lots from `from` up that are above limit have left
abbrev pub Leaves : List ℕ → List ℕ → (ℕ → List Bool) → List ℕ → List ℕ → List ℕ → List ℕ → ℕ → ℕ → Type 0
Leaves left right word next₀ up₀ next up limit from = (zs : List ℕ) → Way up₀ limit from zs → Steps left right word zs next₀ up₀ next up
