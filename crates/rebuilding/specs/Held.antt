-- A tree that the working numbers and the tape hold.
use Rattle.std.specs.Prelude.{◌≡◌, ℕ, ◌-◌, min, Bool, cond, List, length, take, drop, nat_lt, slice_index}
use Rattle.leaders.specs.Sheet.{drop_last}
use Rattle.leaders.specs.Tree.{Tree, leaf, node, root}
use Rattle.links.specs.Walks.{top}

-- where the word of lot x ends in the bits: where the next begins, or at the end
abbrev pub end_of_word : List Bool → List ℕ → ℕ → ℕ → ℕ
end_of_word bits starts n x = cond (nat_lt x n) (min (slice_index starts x) (length bits)) (length bits)

-- the symbols of lot x's word that the bits have
abbrev pub word_at : List Bool → List ℕ → ℕ → ℕ → List Bool
word_at bits starts n x = drop (slice_index starts (x - 1)) (take (end_of_word bits starts n x) bits)

-- each lot of a tree after lot o: the node that it hangs on, the best of its two sides, and its word without the last symbol
abbrev pub Holds : List ℕ → List ℕ → List ℕ → (ℕ → List Bool) → ℕ → Tree → Type 0
Holds up left right word o leaf = Unit {0}
Holds up left right word o (node l w r) =
    (slice_index up (root o l) ≡ o) × (slice_index left (root o l) ≡ top o l) × (slice_index right (root o l) ≡ top (root o l) r) × (word (root o l) ≡ drop_last w)
    × Holds up left right word o l × Holds up left right word (root o l) r
