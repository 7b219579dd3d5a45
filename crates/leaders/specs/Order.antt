-- Who leads: an order of lots, the best and the second of a range, and the order that a list of keys gives.
use Rattle.std.specs.Prelude.{◌≡◌, ℕ, zero, suc, ◌+◌, ◌-◌, ◌≤◌, Bool, true, false, cond, not, ◌&&◌, ◌||◌, ◌≢◌, List, Some, None, Option, ◌==◌, nat_le, nat_lt}
use Rattle.std.specs.List.{slice_get}

-- An order of lots says of two numbers whether the first beats the second; a strict one decides between any two.
pub record Strict (b : ℕ → ℕ → Bool) : Type 0 where
  pub irreflexive : (x : ℕ) → b x x ≡ false
  pub total : (x y : ℕ) → x ≢ y → b x y ≡ false → b y x ≡ true
  pub transitive : (x y z : ℕ) → b x y ≡ true → b y z ≡ true → b x z ≡ true

-- The best of the lots i to j is one of them and beats all others of them.
pub record Best (b : ℕ → ℕ → Bool) (i j k : ℕ) : Type 0 where
  pub from : i ≤ k
  pub upto : k ≤ j
  pub over : (m : ℕ) → i ≤ m → m ≤ j → m ≢ k → b k m ≡ true

-- The second is the best of the rest.
pub record Second (b : ℕ → ℕ → Bool) (i j k s : ℕ) : Type 0 where
  pub best : Best b i j k
  pub from : i ≤ s
  pub upto : s ≤ j
  pub other : s ≢ k
  pub over : (m : ℕ) → i ≤ m → m ≤ j → m ≢ k → m ≢ s → b s m ≡ true

-- A range of one lot has no second.
abbrev pub IsSecond : (ℕ → ℕ → Bool) → ℕ → ℕ → ℕ → Option ℕ → Type 0
IsSecond b i j k None = i ≡ j
IsSecond b i j k (Some s) = Second b i j k s

-- The best of lot i and the m lots after it, found by going through them.
unfoldable pub best_from : (ℕ → ℕ → Bool) → ℕ → ℕ → ℕ
best_from b i zero = i
best_from b i (suc m) = cond (b (best_from b i m) (i + suc m)) (best_from b i m) (i + suc m)

-- The better of a lot, where there is one, and lot x.
unfoldable pub better : (ℕ → ℕ → Bool) → Option ℕ → ℕ → Option ℕ
better b None x = Some x
better b (Some s) x = cond (b s x) (Some s) (Some x)

-- The best of lot i and the m lots after it, lot k left out.
unfoldable pub best_but : (ℕ → ℕ → Bool) → ℕ → ℕ → ℕ → Option ℕ
best_but b k i zero = cond (i == k) None (Some i)
best_but b k i (suc m) = cond (i + suc m == k) (best_but b k i m) (better b (best_but b k i m) (i + suc m))

-- The best of the lots i to j.
abbrev pub best : (ℕ → ℕ → Bool) → ℕ → ℕ → ℕ
best b i j = best_from b i (j - i)

-- The second of the lots i to j, where there is one.
abbrev pub second : (ℕ → ℕ → Bool) → ℕ → ℕ → Option ℕ
second b i j = best_but b (best b i j) i (j - i)

-- In two orders every range of the lots 1 to n has the same best and the same second.
abbrev pub SameLeaders : (ℕ → ℕ → Bool) → (ℕ → ℕ → Bool) → ℕ → Type 0
SameLeaders b c n = (i j : ℕ) → 1 ≤ i → i ≤ j → j ≤ n → (best b i j ≡ best c i j) × (second b i j ≡ second c i j)

-- The key of a lot. Lots are numbered from 1, in the order of the list.
unfoldable pub key_of : {K : Type 0} → List K → ℕ → Option K
key_of ks zero = None
key_of ks (suc i) = slice_get ks i

-- Keys are level if each is at least as good as the other.
abbrev pub level_by : {K : Type 0} → (K → K → Bool) → K → K → Bool
level_by at_least x y = at_least x y && at_least y x

-- A key leads another if it is at least as good, and either they are not level or it stands first.
abbrev pub leads : {K : Type 0} → (K → K → Bool) → K → K → Bool → Bool
leads at_least x y first = at_least x y && (not (at_least y x) || first)

-- The same where a number may be that of no lot: a lot leads what is none, and of two that are none the lower number leads.
unfoldable pub leads_lot : {K : Type 0} → (K → K → Bool) → Option K → Option K → Bool → Bool
leads_lot at_least (Some x) (Some y) first = leads at_least x y first
leads_lot at_least (Some x) None first = true
leads_lot at_least None (Some y) first = false
leads_lot at_least None None first = first

-- Lot i beats lot j, by their keys and then by their numbers.
unfoldable pub beats : {K : Type 0} → (K → K → Bool) → List K → ℕ → ℕ → Bool
beats at_least ks i j = leads_lot at_least (key_of ks i) (key_of ks j) (nat_lt i j)

-- Of two prices the higher is the better.
abbrev pub dearer : ℕ → ℕ → Bool
dearer x y = nat_le y x
