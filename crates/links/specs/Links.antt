-- The working numbers that hold the tree of an order: for each lot where it hangs.
use Rattle.std.specs.Prelude.{◌≡◌, ℕ, zero, suc, ◌-◌, ◌<◌, ◌≤◌, Bool, false, cond, ◌⊎◌, List, ◌==◌, nat_eq, slice_index, slice_index_or}
use Rattle.leaders.specs.Order.{Best}
use Rattle.leaders.specs.Sheet.{parent, tally}

-- v is the best of i..j, or 0 where there is none
abbrev pub Top : (ℕ → ℕ → Bool) → ℕ → ℕ → ℕ → Type 0
Top b i j v = ((j < i) × (v ≡ 0)) ⊎ Best b i j v

-- the last child of x among the lots 1..m, or 0
unfoldable pub last_child : (ℕ → ℕ → Bool) → ℕ → ℕ → ℕ
last_child b x zero = 0
last_child b x (suc m) = cond (parent b (suc m) == x) (suc m) (last_child b x m)

-- how many of the lots 1..m are children of x
abbrev pub children_to : (ℕ → ℕ → Bool) → ℕ → ℕ → ℕ
children_to b x m = tally (λ i. nat_eq (parent b i) x) 1 m

-- from lot k - 1 up to x: k beats all between, and the best of them hangs on x
pub record Climbed (b : ℕ → ℕ → Bool) (k x last : ℕ) : Type 0 where
  pub below : x < k
  pub beaten : (m : ℕ) → x < m → m < k → b m k ≡ false
  pub top : Top b (suc x) (k - 1) last
  pub hangs : 1 ≤ last → parent b last ≡ x

-- a test of the nodes on the way up to lot k says which of them beats it
abbrev pub Tells : (ℕ → ℕ → Bool) → ℕ → (ℕ → Bool → Type 0) → Type 0
Tells b k says = (x last : ℕ) (r : Bool) → Climbed b k x last → 1 ≤ x → says x r → r ≡ b x k

-- of n lots the first m are linked
pub record Linked (b : ℕ → ℕ → Bool) (n m : ℕ) (up left right kids : List ℕ) : Type 0 where
  pub parents : (k : ℕ) → 1 ≤ k → k ≤ m → slice_index up k ≡ parent b k
  pub first : slice_index_or left 0 0 ≡ 0
  pub lefts : (k : ℕ) → 1 ≤ k → k ≤ m → Top b (suc (parent b k)) (k - 1) (slice_index left k)
  pub rights : (x : ℕ) → x ≤ n → slice_index right x ≡ last_child b x m
  pub counts : (x : ℕ) → x ≤ n → slice_index kids x ≡ children_to b x m
