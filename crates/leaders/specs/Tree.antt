-- What the proofs go by: the Cartesian tree of an order of lots with a merge word at each node, its code, and what is read off it.
-- No promise speaks of trees.
use Rattle.std.specs.Prelude.{◌≡◌, ℕ, zero, suc, ◌+◌, Bool, true, false, cond, ◌⊎◌, List, [], ◌∷◌, ◌++◌, nat_le, nat_lt}
use Rattle.leaders.specs.Order.{Best}
use Rattle.leaders.specs.Sheet.{unary, drop_last}
use Rattle.leaders.specs.Verdict.{falses, trues}
use Rattle.leaders.specs.Rebuilt.{blend, place}

-- The best lot is the root; w says how the right spine of l (false) and the left spine of r (true) are merged from best to worst.
pub data Tree : Type 0 where
  leaf : Tree
  node : (l : Tree) (w : List Bool) (r : Tree) → Tree

unfoldable pub size : Tree → ℕ
size leaf = 0
size (node l w r) = suc (size l + size r)

-- How many lots the left spine has, and the right spine.
unfoldable pub ls : Tree → ℕ
ls leaf = 0
ls (node l w r) = suc (ls l)

unfoldable pub rs : Tree → ℕ
rs leaf = 0
rs (node l w r) = suc (rs r)

-- Each word has as many symbols of each side as that side's spine has lots.
unfoldable pub Wellformed : Tree → Type 0
Wellformed leaf = Unit
Wellformed (node l w r) = (falses w ≡ rs l) × (trues w ≡ ls r) × Wellformed l × Wellformed r

-- The numbers of children of the tree's lots in unary, and their words, in the order of the lots.
unfoldable pub counts : Tree → List Bool
counts leaf = []
counts (node l w r) = counts l ++ (unary (ls r) ++ counts r)

unfoldable pub words : Tree → List Bool
words leaf = []
words (node l w r) = words l ++ (drop_last w ++ words r)

unfoldable pub encode : Tree → List Bool
encode t = true ∷ (unary (ls t) ++ (counts t ++ words t))

-- x is one of the list
abbrev pub Mem : ℕ → List ℕ → Type 0
Mem x [] = ⊥
Mem x (y ∷ ys) = (x ≡ y) ⊎ Mem x ys

-- x beats each of the list
abbrev pub Above : (ℕ → ℕ → Bool) → ℕ → List ℕ → Type 0
Above b x ys = (y : ℕ) → Mem y ys → b x y ≡ true

-- w says how xs and ys, each from best to worst, are merged: false where the next lot is one of xs
abbrev pub Merged : (ℕ → ℕ → Bool) → List Bool → List ℕ → List ℕ → Type 0
Merged b [] [] [] = Unit {0}
Merged b [] [] (y ∷ ys) = ⊥
Merged b [] (x ∷ xs) ys = ⊥
Merged b (false ∷ w) [] ys = ⊥
Merged b (false ∷ w) (x ∷ xs) ys = Above b x ys × Merged b w xs ys
Merged b (true ∷ w) xs [] = ⊥
Merged b (true ∷ w) xs (y ∷ ys) = Above b y xs × Merged b w xs ys

-- the root's lot, where the tree's first lot is suc o
abbrev pub root : ℕ → Tree → ℕ
root o l = suc (o + size l)

-- the lots of the right spine and of the left spine, from the root down
unfoldable pub spine_r : ℕ → Tree → List ℕ
spine_r o leaf = []
spine_r o (node l w r) = root o l ∷ spine_r (root o l) r

unfoldable pub spine_l : ℕ → Tree → List ℕ
spine_l o leaf = []
spine_l o (node l w r) = root o l ∷ spine_l o l

-- the tree is that of the order b on the lots suc o to o + size
abbrev pub Follows : (ℕ → ℕ → Bool) → ℕ → Tree → Type 0
Follows b o leaf = Unit {0}
Follows b o (node l w r) =
    Best b (suc o) (o + size (node l w r)) (root o l) × Follows b o l × Follows b (root o l) r × Merged b w (spine_r o l) (spine_l (root o l) r)

-- the best of i to j
unfoldable pub best_of : ℕ → Tree → ℕ → ℕ → ℕ
best_of o leaf i j = 0
best_of o (node l w r) i j = cond (nat_lt j (root o l)) (best_of o l i j) (cond (nat_lt (root o l) i) (best_of (root o l) r i j) (root o l))

-- the first lot of the merged lists that is one of i to j
unfoldable pub scan : ℕ → ℕ → List Bool → List ℕ → List ℕ → ℕ
scan i j [] xs ys = 0
scan i j (false ∷ w) [] ys = 0
scan i j (false ∷ w) (x ∷ xs) ys = cond (nat_le i x) x (scan i j w xs ys)
scan i j (true ∷ w) xs [] = 0
scan i j (true ∷ w) xs (y ∷ ys) = cond (nat_le y j) y (scan i j w xs ys)

-- the second of i to j
unfoldable pub second_of : ℕ → Tree → ℕ → ℕ → ℕ
second_of o leaf i j = 0
second_of o (node l w r) i j = cond (nat_lt j (root o l)) (second_of o l i j) (cond (nat_lt (root o l) i) (second_of (root o l) r i j) (scan i j w (spine_r o l) (spine_l (root o l) r)))

-- the merge order of the tree's lots
unfoldable pub list_of : ℕ → Tree → List ℕ
list_of o leaf = []
list_of o (node l w r) = root o l ∷ blend w (spine_r o l) (spine_l (root o l) r) (list_of o l) (list_of (root o l) r)

-- earlier in the list beats later, and lots that are not in it come last by their numbers
unfoldable pub earlier : List ℕ → ℕ → ℕ → Bool
earlier zs x y = cond (nat_lt (place zs x) (place zs y)) true (cond (nat_lt (place zs y) (place zs x)) false (nat_lt x y))

-- whether a 0 that x 0s precede comes before a 1 that y 1s precede
unfoldable pub sooner : List Bool → ℕ → ℕ → Bool
sooner [] x y = false
sooner (false ∷ bs) zero y = true
sooner (false ∷ bs) (suc x) y = sooner bs x y
sooner (true ∷ bs) x zero = false
sooner (true ∷ bs) x (suc y) = sooner bs x y
