-- The order of a part of the tree as a list that `next` links, and how the orders of its two sides are joined.
use Rattle.std.specs.Prelude.{◌≡◌, ℕ, suc, ◌+◌, ◌≤◌, Bool, cond, List, [], ◌∷◌, ◌++◌, length, ◌==◌, slice_index}
use Rattle.leaders.specs.Verdict.{falses, trues}
use Rattle.leaders.specs.Rebuilt.{blend}
use Rattle.links.specs.Walks.{Chain}

-- following next from i lists xs, and then comes e
abbrev pub Runs : List ℕ → ℕ → List ℕ → ℕ → Type 0
Runs next i [] e = i ≡ e
Runs next i (x ∷ xs) e = (i ≡ x) × (1 ≤ x) × Runs next (slice_index next x) xs e

unfoldable pub count : ℕ → List ℕ → ℕ
count z [] = 0
count z (y ∷ ys) = cond (y == z) (suc (count z ys)) (count z ys)

-- the lots of ss stand in xs, in this order
abbrev pub Along : List ℕ → List ℕ → Type 0
Along [] xs = Unit {0}
Along (s ∷ ss) xs = (us : List ℕ) × (vs : List ℕ) × (xs ≡ us ++ s ∷ vs) × (count s us ≡ 0) × Along ss vs

-- e is the last of a list, if it has one
abbrev pub EndsIn : List ℕ → ℕ → Type 0
EndsIn [] e = Unit {0}
EndsIn (x ∷ xs) e = (us : List ℕ) × (x ∷ xs ≡ us ++ e ∷ [])

-- Half way: from x on the lots before tail are linked, the symbols w are left, and a and b begin what is left of the two sides.
pub record Joining (next₀ next left right : List ℕ) (x : ℕ) (w : List Bool) (all : List ℕ) (tail a b low high end_l endR : ℕ) : Type 0 where
  pub pre : List ℕ
  pub ss : List ℕ
  pub ts : List ℕ
  pub xs : List ℕ
  pub ys : List ℕ
  pub run : Runs next x pre tail
  pub some : 1 ≤ tail
  pub lows : Chain right low ss
  pub highs : Chain left high ts
  pub lower : Chain next a xs
  pub upper : Chain next b ys
  pub along_l : Along ss xs
  pub along_r : Along ts ys
  pub last_l : EndsIn xs end_l
  pub last_r : EndsIn ys endR
  pub apart : (z : ℕ) → count z pre + count z (tail ∷ []) + count z xs + count z ys ≤ 1
  pub lefts : falses w ≡ length ss
  pub rights : trues w ≡ length ts
  pub whole : pre ++ tail ∷ blend w ss ts xs ys ≡ all
  pub frame : (z : ℕ) → count z all ≡ 0 → slice_index next z ≡ slice_index next₀ z

-- the whole order is linked, and last is its end
pub record Joined (next₀ next : List ℕ) (x : ℕ) (all : List ℕ) (last : ℕ) : Type 0 where
  pub chain : Chain next x all
  pub ends : EndsIn all last
  pub frame : (z : ℕ) → count z all ≡ 0 → slice_index next z ≡ slice_index next₀ z

-- the two orders of lot x's sides are ready to be joined
abbrev pub Ready : List ℕ → List ℕ → List ℕ → ℕ → List Bool → List ℕ → ℕ → ℕ → Type 0
Ready next left right x w all end_l endR = Joining next next left right x w all x (slice_index left x) (slice_index right x) (slice_index left x) (slice_index right x) end_l endR

-- the order of the part that x is the best of is linked, and last is its end: where the symbols of x's word are those of `part` and at most one more
abbrev pub Joins : List ℕ → List ℕ → List ℕ → List ℕ → ℕ → List Bool → ℕ → ℕ → ℕ → Type 0
Joins next₀ next left right x part end_l endR last =
    (rest : List Bool) (all : List ℕ) → length rest ≤ 1 → Ready next₀ left right x (part ++ rest) all end_l endR → Joined next₀ next x all last
