-- What is found from the bits of a sheet: where its words begin, and child places that are left while its lots are linked.
use Rattle.std.specs.Prelude.{◌≡◌, ℕ, zero, suc, ◌+◌, ◌-◌, ◌*◌, ◌<◌, ◌≤◌, Bool, List, length, slice_index, slice_set}
use Rattle.leaders.specs.Sheet.{children, spread, spine_of}
use Rattle.links.specs.Links.{children_to}
use Rattle.links.specs.Walks.{AtMost, Rises}

-- Where the words of the first m lots begin in the sheet of n lots: after the brackets and the words of the lots before. The word of lot k begins at the number in place k - 1.
abbrev pub Starts : (ℕ → ℕ → Bool) → ℕ → ℕ → List ℕ → Type 0
Starts b n m starts = (k : ℕ) → 1 ≤ k → k ≤ m → slice_index starts (k - 1) ≡ 2 * n + 2 + length (spread (spine_of b n) 1 (k - 1))

-- Whatever the bits are, the numbers stay among the lots: a lot hangs on a lower node, and on the right of a node stands a higher lot or none.
pub record Tame (n : ℕ) (up left right : List ℕ) : Type 0 where
  pub hangs : (k : ℕ) → 1 ≤ k → k ≤ n → slice_index up k < k
  pub lefts : AtMost n left
  pub rights : AtMost n right
  pub rises : Rises n right

-- The places of the first m of n lots: each has one for each of its children that is not among them. Those of lot x stand in place x - 1.
abbrev pub Places : (ℕ → ℕ → Bool) → ℕ → ℕ → List ℕ → Type 0
Places b n m places = (x : ℕ) → 1 ≤ x → x ≤ m → slice_index places (x - 1) + children_to b x m ≡ children b n x

-- The places after node x has less_place one; node 0 has no number for them.
abbrev pub less_place : List ℕ → ℕ → List ℕ
less_place places zero = places
less_place places (suc x) = slice_set places x (slice_index places x - 1)
