-- What a sheet is: the brackets of the heap of lots, and then the spines of the lots, over an order of lots b and their number n.
use Rattle.std.specs.Prelude.{ℕ, zero, suc, ◌-◌, Bool, true, false, cond, ◌&&◌, ◌||◌, ltb, List, [], ◌∷◌, ◌++◌, map, ◌==◌, nat_eq, nat_le, nat_lt}

-- The highest of the lots 1 to j that beats lot i, or 0 if there is none.
unfoldable pub highest : (ℕ → ℕ → Bool) → ℕ → ℕ → ℕ
highest b i zero = 0
highest b i (suc j) = cond (b (suc j) i) (suc j) (highest b i j)

-- The parent of lot i in the heap: the highest lot below i that beats i, or node 0.
unfoldable pub parent : (ℕ → ℕ → Bool) → ℕ → ℕ
parent b i = highest b i (i - 1)

-- Of the n numbers from i on: how many pass a test; whether all do; what they give, joined.
unfoldable pub tally : (ℕ → Bool) → ℕ → ℕ → ℕ
tally f i zero = 0
tally f i (suc n) = cond (f i) (suc (tally f (suc i) n)) (tally f (suc i) n)

unfoldable pub every : (ℕ → Bool) → ℕ → ℕ → Bool
every f i zero = true
every f i (suc n) = f i && every f (suc i) n

unfoldable pub spread : (ℕ → List Bool) → ℕ → ℕ → List Bool
spread g i zero = []
spread g i (suc n) = g i ++ spread g (suc i) n

-- Those of the n numbers from i on that pass a test, from best to worst, by insertion.
unfoldable pub insert : (ℕ → ℕ → Bool) → ℕ → List ℕ → List ℕ
insert b x [] = x ∷ []
insert b x (y ∷ ys) = cond (b x y) (x ∷ y ∷ ys) (y ∷ insert b x ys)

unfoldable pub ranked : (ℕ → ℕ → Bool) → (ℕ → Bool) → ℕ → ℕ → List ℕ
ranked b f i zero = []
ranked b f i (suc n) = cond (f i) (insert b i (ranked b f (suc i) n)) (ranked b f (suc i) n)

-- How many children node j has, of n lots.
unfoldable pub children : (ℕ → ℕ → Bool) → ℕ → ℕ → ℕ
children b n j = tally (λ i. nat_eq (parent b i) j) 1 n

-- One `(` for each child and one `)`.
unfoldable pub unary : ℕ → List Bool
unary zero = false ∷ []
unary (suc n) = true ∷ unary n

-- The bracket string: one `(`, then the children of each node from 0 to n; `(` is true.
abbrev pub brackets : (ℕ → ℕ → Bool) → ℕ → List Bool
brackets b n = true ∷ spread (λ j. unary (children b n j)) 0 (suc n)

-- Whether k is the best of the lots i to j.
unfoldable pub is_best : (ℕ → ℕ → Bool) → ℕ → ℕ → ℕ → Bool
is_best b i j k = nat_le i k && nat_le k j && every (λ m. (m == k) || b k m) i (suc j - i)

-- L(k): each lot i below k such that k is best of i to k, and i is best of i to k - 1.
unfoldable pub in_l : (ℕ → ℕ → Bool) → ℕ → ℕ → Bool
in_l b k i = nat_lt i k && is_best b i k k && is_best b i (k - 1) i

-- R(k): each lot j above k such that k is best of k to j, and j is best of k + 1 to j.
unfoldable pub in_r : (ℕ → ℕ → Bool) → ℕ → ℕ → Bool
in_r b k j = nat_lt k j && is_best b k j k && is_best b (suc k) j j

-- L(k) and R(k) together from best to worst: false for a lot of L(k), true for a lot of R(k).
unfoldable pub full_word : (ℕ → ℕ → Bool) → ℕ → ℕ → List Bool
full_word b n k = map (ltb k) (ranked b (λ i. in_l b k i || in_r b k i) 1 n)

-- A list without its last symbol.
unfoldable pub drop_last : List Bool → List Bool
drop_last [] = []
drop_last (a ∷ []) = []
drop_last (a ∷ b ∷ w) = a ∷ drop_last (b ∷ w)

-- The spine S_k of lot k: that word with its last symbol left out.
abbrev pub spine_of : (ℕ → ℕ → Bool) → ℕ → ℕ → List Bool
spine_of b n k = drop_last (full_word b n k)

-- The spine string: S_1 to S_n joined.
abbrev pub spines : (ℕ → ℕ → Bool) → ℕ → List Bool
spines b n = spread (spine_of b n) 1 n

-- The sheet of n lots.
unfoldable pub sheet : (ℕ → ℕ → Bool) → ℕ → List Bool
sheet b n = brackets b n ++ spines b n
