-- The seam between the orders of the two sides of a lot, as the code keeps it.
use Rattle.std.specs.Prelude.{ℕ, ◌≤◌, Bool, List, [], ◌∷◌, ◌++◌, length}
use Rattle.rebuilding.specs.declared.joining.Seam.{Seam}
use Rattle.rebuilding.specs.Splices.{Joining, Ready, Joined}

-- all its numbers are at most n
pub record Inside (n : ℕ) (s : Seam) : Type 0 where
  pub tails : s.tail ≤ n
  pub lowers : s.lower ≤ n
  pub uppers : s.upper ≤ n
  pub lows : s.low ≤ n
  pub highs : s.high ≤ n

-- half way, with the symbols w left
abbrev pub Sewn : List ℕ → List ℕ → List ℕ → List ℕ → ℕ → List Bool → List ℕ → Seam → ℕ → ℕ → Type 0
Sewn next₀ next left right x w all s end_l endR = Joining next₀ next left right x w all s.tail s.lower s.upper s.low s.high end_l endR

-- one symbol more
abbrev pub Hangs : List ℕ → List ℕ → List ℕ → List ℕ → Bool → Seam → Seam → Type 0
Hangs next next' left right bit s r =
    (next₀ : List ℕ) (x : ℕ) (w : List Bool) (all : List ℕ) (end_l endR : ℕ) → Sewn next₀ next left right x (bit ∷ w) all s end_l endR → Sewn next₀ next' left right x w all r end_l endR

-- the symbols of `part`, whatever comes after them
abbrev pub Splices : List ℕ → List ℕ → List ℕ → List ℕ → ℕ → List Bool → Seam → Type 0
Splices next₀ next left right x part s =
    (rest : List Bool) (all : List ℕ) (end_l endR : ℕ) → Ready next₀ left right x (part ++ rest) all end_l endR → Sewn next₀ next left right x rest all s end_l endR

-- the last symbol, where there is one
abbrev pub Finishes : List ℕ → List ℕ → List ℕ → List ℕ → Seam → Seam → Type 0
Finishes next next' left right s r =
    (next₀ : List ℕ) (x : ℕ) (rest : List Bool) (all : List ℕ) (end_l endR : ℕ) → length rest ≤ 1 → Sewn next₀ next left right x rest all s end_l endR → Sewn next₀ next' left right x [] all r end_l endR

-- what is left of both sides
abbrev pub Closes : List ℕ → List ℕ → Seam → ℕ → ℕ → ℕ → Type 0
Closes next next' s end_l endR last =
    (next₀ left right : List ℕ) (x : ℕ) (all : List ℕ) → Sewn next₀ next left right x [] all s end_l endR → Joined next₀ next' x all last
