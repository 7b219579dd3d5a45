-- The prices that are rebuilt from a sheet: by an order of lots that has the sheet, though any such order gives the same.
use Rattle.std.specs.Prelude.{ℕ, zero, suc, ◌-◌, Bool, true, false, cond, List, [], ◌∷◌, ◌++◌, ◌==◌, nat_lt}
use Rattle.leaders.specs.Order.{best}
use Rattle.leaders.specs.Sheet.{ranked, in_l, in_r, full_word}

-- A list up to its lot s and with it, and what comes after.
unfoldable pub through : ℕ → List ℕ → List ℕ
through s [] = []
through s (x ∷ xs) = x ∷ cond (x == s) [] (through s xs)

unfoldable pub past : ℕ → List ℕ → List ℕ
past s [] = []
past s (x ∷ xs) = cond (x == s) xs (past s xs)

-- A merge of two lists: for each symbol of w take from that side up to and with its next lot of ss or ts; then the left remainder, then the right.
unfoldable pub blend : List Bool → List ℕ → List ℕ → List ℕ → List ℕ → List ℕ
blend [] ss ts xs ys = xs ++ ys
blend (false ∷ w) [] ts xs ys = xs ++ ys
blend (false ∷ w) (s ∷ ss) ts xs ys = through s xs ++ blend w ss ts (past s xs) ys
blend (true ∷ w) ss [] xs ys = xs ++ ys
blend (true ∷ w) ss (t ∷ ts) xs ys = through t ys ++ blend w ss ts xs (past t ys)

-- The merge order of the lots i to j, at most `depth` of them: the best lot k, then a merge of the orders of the parts left and right of k,
-- by the symbols of S_k and the one left out.
unfoldable pub merge_order : (ℕ → ℕ → Bool) → ℕ → ℕ → ℕ → ℕ → List ℕ
merge_order b n zero i j = []
merge_order b n (suc depth) i j =
    cond (nat_lt j i) []
    (best b i j ∷ blend (full_word b n (best b i j)) (ranked b (in_l b (best b i j)) 1 n) (ranked b (in_r b (best b i j)) 1 n)
    (merge_order b n depth i (best b i j - 1)) (merge_order b n depth (suc (best b i j)) j))

-- Where a lot stands in a list, from 0.
unfoldable pub place : List ℕ → ℕ → ℕ
place [] x = 0
place (z ∷ zs) x = cond (z == x) 0 (suc (place zs x))

-- The prices of m lots from lot i on: the lot in place t, counted from 1, gets n + 1 - t.
unfoldable pub prices_of : ℕ → List ℕ → ℕ → ℕ → List ℕ
prices_of n zs i zero = []
prices_of n zs i (suc m) = (n - place zs i) ∷ prices_of n zs (suc i) m

-- The rebuilt prices of n lots, in lot order.
abbrev pub rebuilt : (ℕ → ℕ → Bool) → ℕ → List ℕ
rebuilt b n = prices_of n (merge_order b n n 1 n) 1 n
