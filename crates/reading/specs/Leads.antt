-- What is read off the bits of a sheet.
use Rattle.std.specs.Prelude.{◌≡◌, ℕ, ◌≤◌, Bool, List, Option, IsSomeAnd}
use Rattle.leaders.specs.Order.{Strict, best, second}
use Rattle.leaders.specs.Sheet.{sheet}
use Rattle.reading.specs.declared.pair.Pair.{Pair}

-- The pair leads the range i to j in every strict order of n lots whose sheet the bits are.
abbrev pub Shows : List Bool → ℕ → ℕ → ℕ → Pair → Type 0
Shows bs n i j p = (b : ℕ → ℕ → Bool) → Strict b → sheet b n ≡ bs → 1 ≤ i → i ≤ j → j ≤ n → (p.best ≡ best b i j) × (p.second ≡ second b i j)

-- There is a pair, and it leads the range so.
abbrev pub Finds : List Bool → ℕ → ℕ → ℕ → Option Pair → Type 0
Finds bs n i j found = (b : ℕ → ℕ → Bool) → Strict b → sheet b n ≡ bs → 1 ≤ i → i ≤ j → j ≤ n → IsSomeAnd found (λ p. (p.best ≡ best b i j) × (p.second ≡ second b i j))
