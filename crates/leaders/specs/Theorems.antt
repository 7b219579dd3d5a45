-- What is proved of leaders and sheets, in the words of the subject. Each is the contract of a function of this crate.
use Rattle.std.specs.Prelude.{◌≡◌, ℕ, zero, suc, ◌+◌, ◌-◌, ◌*◌, ◌^◌, ◌<◌, ◌≤◌, Bool, true, false, cond, ◌&&◌, ◌≢◌, ◌↔◌, List, [], ◌∷◌, ◌++◌, length, take, drop, Some, None, Ok, Err, Option, ◌==◌, nat_lt, slice_index}
use Rattle.std.specs.Option.{option_map}
use Rattle.leaders.specs.Order.{Strict, Best, Second, IsSecond, best, second, SameLeaders, beats, dearer}
use Rattle.leaders.specs.Sheet.{parent, tally, spread, children, brackets, in_l, in_r, spine_of, spines, sheet}
use Rattle.leaders.specs.Refusal.{refusal}
use Rattle.leaders.specs.Verdict.{verdict, closes, most_lots, most_brackets, has_too_many}
use Rattle.leaders.specs.Rebuilt.{rebuilt}

-- Going through a range finds its best and its second, and there is no other best or second.
pub record LeadersFound (b : ℕ → ℕ → Bool) (i j : ℕ) : Type 0 where
  pub best_is : Best b i j (best b i j)
  pub second_is : IsSecond b i j (best b i j) (second b i j)
  pub best_one : (k : ℕ) → Best b i j k → k ≡ best b i j
  pub second_one : (k s : ℕ) → Second b i j k s → second b i j ≡ Some s

abbrev pub LeadersAreFound : Type 0
LeadersAreFound = (b : ℕ → ℕ → Bool) → Strict b → (i j : ℕ) → i ≤ j → LeadersFound b i j

-- The lots of R(k) are the children of k.
abbrev pub RIsChildren : Type 0
RIsChildren = (b : ℕ → ℕ → Bool) → Strict b → (k j : ℕ) → 1 ≤ k → 1 ≤ j → in_r b k j ≡ (parent b j == k)

-- Two sheets are equal exactly when the lots are equally many and every range has the same best and second.
abbrev pub EqualSheetsExactlyWhenEqualLeaders : Type 0
EqualSheetsExactlyWhenEqualLeaders =
    (b c : ℕ → ℕ → Bool) → Strict b → Strict c → (n m : ℕ) → (sheet b n ≡ sheet c m) ↔ ((n ≡ m) × SameLeaders b c n)

-- No sheet is the beginning of another: sheets that begin the same bits are equal, and so is what follows them.
abbrev pub NoSheetBeginsAnother : Type 0
NoSheetBeginsAnother =
    (b c : ℕ → ℕ → Bool) → Strict b → Strict c → (n m : ℕ) (x y : List Bool) → sheet b n ++ x ≡ sheet c m ++ y → (sheet b n ≡ sheet c m) × (x ≡ y)

-- These prices are those of n lots, fit 32 bits, and have the sheet s.
pub record Casts (s : List Bool) (n : ℕ) (prices : List ℕ) : Type 0 where
  pub many : length prices ≡ n
  pub fit : (k : ℕ) → slice_index prices k < 2 ^ 32
  pub cast : sheet (beats dearer prices) n ≡ s

-- The verdict accepts bits exactly when some list of at most 4,000 prices has that sheet.
abbrev pub AcceptedExactlyWhenCast : Type 0
AcceptedExactlyWhenCast = (s : List Bool) (n : ℕ) → (verdict s ≡ Ok n) ↔ ((n ≤ most_lots) × ((prices : List ℕ) × Casts s n prices))

-- The rebuilt prices have the sheet of the order that they are rebuilt from, each is at least 1 and at most n, and another order with the same sheet gives the same.
pub record Rebuilds (b : ℕ → ℕ → Bool) (n : ℕ) : Type 0 where
  pub many : length (rebuilt b n) ≡ n
  pub least : (k : ℕ) → k < n → 1 ≤ slice_index (rebuilt b n) k
  pub most : (k : ℕ) → slice_index (rebuilt b n) k ≤ n
  pub cast : sheet (beats dearer (rebuilt b n)) n ≡ sheet b n
  pub one : (c : ℕ → ℕ → Bool) → Strict c → sheet c n ≡ sheet b n → rebuilt c n ≡ rebuilt b n

abbrev pub RebuiltPricesCastTheSheet : Type 0
RebuiltPricesCastTheSheet = (b : ℕ → ℕ → Bool) → Strict b → (n : ℕ) → Rebuilds b n

-- Where the symbol c of a word stands that x symbols c precede, from 0, if the word has so many.
unfoldable pub symbol_at : Bool → ℕ → List Bool → Option ℕ
symbol_at c x [] = None
symbol_at false zero (false ∷ w) = Some 0
symbol_at false (suc x) (false ∷ w) = option_map suc (symbol_at false x w)
symbol_at false x (true ∷ w) = option_map suc (symbol_at false x w)
symbol_at true zero (true ∷ w) = Some 0
symbol_at true (suc x) (true ∷ w) = option_map suc (symbol_at true x w)
symbol_at true x (false ∷ w) = option_map suc (symbol_at true x w)

-- One place before another; a symbol that the word lacks stands after all others.
abbrev pub before : Option ℕ → Option ℕ → Bool
before None q = false
before (Some p) None = true
before (Some p) (Some q) = nat_lt p q

-- The rule for the second of the lots i to j with best lot k: the best a of the part left of k or the best r of the part right of k.
-- Where both parts have lots, it is a exactly when the 0 of S_k that x 0s precede stands before the 1 that y 1s precede: x counts the lots of L(k) below a,
-- and y the lots of R(k) above r.
abbrev pub is_left_first : (ℕ → ℕ → Bool) → ℕ → ℕ → ℕ → ℕ → Bool
is_left_first b n k a r =
    before (symbol_at false (tally (λ m. in_l b k m && nat_lt m a) 1 n) (spine_of b n k)) (symbol_at true (tally (λ m. in_r b k m && nat_lt r m) 1 n) (spine_of b n k))

abbrev pub second_by : (ℕ → ℕ → Bool) → ℕ → ℕ → ℕ → ℕ → Option ℕ
second_by b n i j k =
    cond (i == k) (cond (k == j) None (Some (best b (suc k) j)))
    (cond (k == j) (Some (best b i (k - 1)))
    (cond (is_left_first b n k (best b i (k - 1)) (best b (suc k) j)) (Some (best b i (k - 1))) (Some (best b (suc k) j))))

abbrev pub SecondByTheSpine : Type 0
SecondByTheSpine = (b : ℕ → ℕ → Bool) → Strict b → (n i j : ℕ) → 1 ≤ i → i ≤ j → j ≤ n → second b i j ≡ second_by b n i j (best b i j)

-- The nodes on the path from node k up to 0, without 0, at most `most` of them; a path from k has at most k nodes.
unfoldable pub path_up : (ℕ → ℕ → Bool) → ℕ → ℕ → List ℕ
path_up b zero k = []
path_up b (suc most) zero = []
path_up b (suc most) (suc k) = suc k ∷ path_up b most (parent b (suc k))

abbrev pub path : (ℕ → ℕ → Bool) → ℕ → List ℕ
path b k = path_up b k k

-- How many lots L(k) has; whether a lot is lone, with L(k) and R(k) empty; how many right siblings a lot has, and all of some lots together.
abbrev pub lefts : (ℕ → ℕ → Bool) → ℕ → ℕ → ℕ
lefts b n k = tally (in_l b k) 1 n

abbrev pub lone : (ℕ → ℕ → Bool) → ℕ → ℕ → Bool
lone b n k = lefts b n k == 0 && children b n k == 0

abbrev pub right_siblings : (ℕ → ℕ → Bool) → ℕ → ℕ → ℕ
right_siblings b n k = tally (λ m. nat_lt k m && parent b m == parent b k) 1 n

unfoldable pub siblings_of : (ℕ → ℕ → Bool) → ℕ → List ℕ → ℕ
siblings_of b n [] = 0
siblings_of b n (k ∷ ks) = right_siblings b n k + siblings_of b n ks

-- The lengths of a sheet of n lots. Sums stand on both sides in place of differences, since numbers here do not go below 0.
pub record Lengths (b : ℕ → ℕ → Bool) (n : ℕ) : Type 0 where
  -- the bracket string has 2n + 2 bits
  pub of_brackets : length (brackets b n) ≡ 2 * n + 2
  -- n + e - c - d bits of S, with e lone lots, c children of node 0, d nodes on the path from n
  pub of_spines : 1 ≤ n → length (spines b n) + (children b n 0 + length (path b n)) ≡ n + tally (lone b n) 1 n
  -- 2k - c - l + g - h - (k - e) bits of S before S_k, with g right siblings along the path from k, h proper ancestors of k, e lone lots below k
  pub before_spine : (k : ℕ) → 1 ≤ k → k ≤ n →
      length (spread (spine_of b n) 1 (k - 1)) + (children b n 0 + lefts b n k + (length (path b k) - 1) + k) ≡ 2 * k + siblings_of b n (path b k) + tally (lone b n) 1 (k - 1)
  -- at most (7n + 1) / 2 bits in all
  pub of_sheet : 1 ≤ n → 2 * length (sheet b n) ≤ 7 * n + 1

abbrev pub SheetLengths : Type 0
SheetLengths = (b : ℕ → ℕ → Bool) → Strict b → (n : ℕ) → Lengths b n

-- Any bits x after the brackets of n lots, cut into words as the spines are: the word of lot k; and whether it has more 0s than L(k) has lots, or more 1s than R(k).
abbrev pub rights : (ℕ → ℕ → Bool) → ℕ → ℕ → ℕ
rights b n k = tally (in_r b k) 1 n

abbrev pub word_of : (ℕ → ℕ → Bool) → ℕ → List Bool → ℕ → List Bool
word_of b n x k = take (length (spine_of b n k)) (drop (length (spread (spine_of b n) 1 (k - 1))) x)

abbrev pub overfull : (ℕ → ℕ → Bool) → ℕ → List Bool → ℕ → Bool
overfull b n x k = has_too_many (lefts b n k) (rights b n k) (word_of b n x k)

-- The verdict on such bits: 9 if they are more or fewer than the spines have; else 10 with the lowest lot whose word is overfull; else the number of lots.
pub record Judged (b : ℕ → ℕ → Bool) (n : ℕ) (x : List Bool) : Type 0 where
  pub other_length : length x ≢ length (spines b n) → verdict (brackets b n ++ x) ≡ Err (refusal 9 [])
  pub lowest_lot : length x ≡ length (spines b n) → (k : ℕ) → 1 ≤ k → k ≤ n → overfull b n x k ≡ true → ((m : ℕ) → 1 ≤ m → m < k → overfull b n x m ≡ false) → verdict (brackets b n ++ x) ≡ Err (refusal 10 (k ∷ []))
  pub none : length x ≡ length (spines b n) → ((k : ℕ) → 1 ≤ k → k ≤ n → overfull b n x k ≡ false) → verdict (brackets b n ++ x) ≡ Ok n

-- Bits that begin with the brackets of some order, m of them, and end with any others.
pub record Bracketed (s : List Bool) (m : ℕ) : Type 0 where
  pub order : ℕ → ℕ → Bool
  pub strict : Strict order
  pub lots : ℕ
  pub rest : List Bool
  pub many : m ≡ 2 * lots + 2
  pub are : s ≡ brackets order lots ++ rest

-- The verdict on all bits: those that never balance, those that balance too late, and all others, which are judged by the spines of an order with the same brackets.
pub record JudgedBySpines : Type 0 where
  pub never : (s : List Bool) → closes s ≡ None → verdict s ≡ Err (refusal 7 [])
  pub late : (s : List Bool) (m : ℕ) → closes s ≡ Some m → most_brackets < m → verdict s ≡ Err (refusal 8 [])
  pub others : (s : List Bool) (m : ℕ) → closes s ≡ Some m → Bracketed s m
  pub words : (b : ℕ → ℕ → Bool) → Strict b → (n : ℕ) → n ≤ most_lots → (x : List Bool) → Judged b n x
