-- Walks along the working numbers, and the symbols that they give.
use Rattle.std.specs.Prelude.{◌≡◌, ℕ, zero, suc, ◌+◌, ◌-◌, ◌*◌, ◌<◌, ◌≤◌, Bool, true, false, cond, not, ◌&&◌, ◌||◌, ◌⊎◌, List, [], ◌∷◌, length, ◌==◌, slice_index}
use Rattle.leaders.specs.Tree.{Tree, leaf, node, root}
use Rattle.leaders.specs.Sheet.{children, unary, spread, spine_of, spines, sheet}

-- the best lot of a part of the tree, or 0
abbrev pub top : ℕ → Tree → ℕ
top o leaf = 0
top o (node l w r) = root o l

-- following next from i lists xs, and then comes 0
abbrev pub Chain : List ℕ → ℕ → List ℕ → Type 0
Chain next i [] = i ≡ 0
Chain next i (x ∷ xs) = (i ≡ x) × (1 ≤ x) × Chain next (slice_index next x) xs

-- every number is at most n
abbrev pub AtMost : ℕ → List ℕ → Type 0
AtMost n xs = (k : ℕ) → k ≤ n → slice_index xs k ≤ n

-- a number leads to a higher one or to 0
abbrev pub Rises : ℕ → List ℕ → Type 0
Rises n xs = (k : ℕ) → k ≤ n → (slice_index xs k ≡ 0) ⊎ (k < slice_index xs k)

-- each lot below k hangs on a lower node
abbrev pub Hangs : ℕ → List ℕ → Type 0
Hangs k up = (m : ℕ) → 1 ≤ m → m < k → slice_index up m < m

-- from node x up, where the test says no at the nodes `passed`, one comes to node parent; best is the last of them, or `last` where there is none
abbrev pub Passes : List ℕ → (ℕ → Bool → Type 0) → ℕ → ℕ → List ℕ → ℕ → ℕ → Type 0
Passes up says x last [] parent best = (x ≡ parent) × (last ≡ best)
Passes up says x last (y ∷ ys) parent best = (x ≡ y) × (1 ≤ y) × says y false × Passes up says (slice_index up y) y ys parent best

-- is the next of the two lots i and j the second
abbrev pub turn : (ℕ → ℕ → Bool) → ℕ → ℕ → Bool
turn b i j = i == 0 || (not (j == 0) && not (b i j))

-- the first t symbols that two walks, i along right and j along left, give
unfoldable pub merge : (ℕ → ℕ → Bool) → List ℕ → List ℕ → ℕ → ℕ → ℕ → List Bool
merge b left right zero i j = []
merge b left right (suc t) i j = cond (turn b i j) (true ∷ merge b left right t i (slice_index left j)) (false ∷ merge b left right t (slice_index right i) j)

-- the symbols that the walks of lot k give, as many as its word has
abbrev pub walked : (ℕ → ℕ → Bool) → List ℕ → List ℕ → List ℕ → ℕ → List Bool
walked b left right sizes k = merge b left right (slice_index sizes k) (slice_index left k) (slice_index right k)

-- the sizes of the lots' words
abbrev pub Sized : (ℕ → ℕ → Bool) → ℕ → ℕ → List ℕ → Type 0
Sized b n m sizes = (k : ℕ) → 1 ≤ k → k ≤ m → slice_index sizes k ≡ length (spine_of b n k)

-- the brackets of the nodes: a bracket string without its first bit
abbrev pub node_brackets : (ℕ → ℕ → Bool) → ℕ → List Bool
node_brackets b n = spread (λ j. unary (children b n j)) 0 (suc n)

-- counts in unary
abbrev pub tallies : List ℕ → List Bool
tallies kids = spread (λ j. unary (slice_index kids j)) 0 (length kids)

-- the working numbers are ready to be punched from: what the walks of each lot give, and how long the sheet is
pub record Ready (b : ℕ → ℕ → Bool) (n : ℕ) (left right kids : List ℕ) : Type 0 where
  pub chain : (k : ℕ) → 1 ≤ k → k ≤ n → (xs : List ℕ) × Chain right (slice_index left k) xs × ((length xs + slice_index kids k) - 1 ≡ length (spine_of b n k))
  pub word : (k : ℕ) → 1 ≤ k → k ≤ n → merge b left right (length (spine_of b n k)) (slice_index left k) (slice_index right k) ≡ spine_of b n k
  pub lowers : AtMost n left
  pub uppers : AtMost n right
  pub rising : Rises n right
  pub counted : tallies kids ≡ node_brackets b n
  pub long : length (sheet b n) ≡ 2 * (n + 1) + length (spines b n)
  pub short : 2 * length (sheet b n) ≤ 7 * n + 4
