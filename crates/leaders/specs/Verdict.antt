-- The verdict on any list of bits: how many lots the sheet has, or why it is none.
use Rattle.std.specs.Prelude.{ℕ, zero, suc, ◌+◌, ◌-◌, ◌/◌, Bool, true, false, cond, ◌&&◌, ◌||◌, List, [], ◌∷◌, length, take, drop, Some, None, Ok, Err, Option, Result, ◌==◌, nat_lt}
use Rattle.leaders.specs.Refusal.{Refusal, refusal}

-- The most lots that a book or a sheet has, and the bits of their brackets.
abbrev pub most_lots : ℕ
most_lots = 4000

abbrev pub most_brackets : ℕ
most_brackets = 8002

-- How many symbols of a word are 0, and how many are 1.
unfoldable pub falses : List Bool → ℕ
falses [] = 0
falses (false ∷ w) = suc (falses w)
falses (true ∷ w) = falses w

unfoldable pub trues : List Bool → ℕ
trues [] = 0
trues (false ∷ w) = trues w
trues (true ∷ w) = suc (trues w)

-- Where the brackets first balance: p bits are read, and suc o brackets are open.
unfoldable pub close_at : ℕ → ℕ → List Bool → Option ℕ
close_at p o [] = None
close_at p o (true ∷ bs) = close_at (suc p) (suc o) bs
close_at p zero (false ∷ bs) = Some (suc p)
close_at p (suc o) (false ∷ bs) = close_at (suc p) o bs

unfoldable pub closes : List Bool → Option ℕ
closes [] = None
closes (false ∷ bs) = None
closes (true ∷ bs) = close_at 1 0 bs

-- The nodes on the path to the lot read last, each by the child places that it has left, the lot itself first.
-- The next lot's L(k) are the nodes in front that have none left: how many they are; and the path without them, with one place taken.
unfoldable pub spent : List ℕ → ℕ
spent [] = 0
spent (zero ∷ st) = suc (spent st)
spent (suc c ∷ st) = 0

unfoldable pub taken : List ℕ → List ℕ
taken [] = []
taken (zero ∷ st) = taken st
taken (suc c ∷ st) = c ∷ st

-- Whether a word has more 0s than l or more 1s than d.
unfoldable pub has_too_many : ℕ → ℕ → List Bool → Bool
has_too_many l d w = nat_lt l (falses w) || nat_lt d (trues w)

-- The lowest lot with a faulty word so far, 0 for none.
unfoldable pub lowest : ℕ → ℕ → Bool → ℕ
lowest lot bad faulty = cond (bad == 0 && faulty) lot bad

-- Where the last word ends, and the lowest lot whose word is faulty, 0 for none.
pub record Walked : Type 0 where
  pub at : ℕ
  pub bad : ℕ

abbrev pub walked : ℕ → ℕ → Walked
walked at bad = record { at = at; bad = bad }

-- Over the brackets after the first: d children of the next node are read, st is the path, `lot` lots are done, and the next word
-- begins at bit `at` of all. The word of a lot with l lots in L(k) and d children has l + d - 1 bits, none if both are 0.
unfoldable pub walk : List Bool → ℕ → List ℕ → ℕ → ℕ → ℕ → List Bool → Walked
walk all d st lot at bad [] = walked at bad
walk all d st lot at bad (true ∷ bs) = walk all (d + 1) st lot at bad bs
walk all d [] lot at bad (false ∷ bs) = walk all 0 (d ∷ []) lot at bad bs
walk all d (c ∷ st) lot at bad (false ∷ bs) =
    walk all 0 (d ∷ taken (c ∷ st)) (lot + 1) (at + (spent (c ∷ st) + d - 1)) (lowest (lot + 1) bad (has_too_many (spent (c ∷ st)) d (take (spent (c ∷ st) + d - 1) (drop at all)))) bs

-- 9: more or fewer bits after the brackets than the spines must have. 10: a word with too many of one symbol, with the lowest such lot.
unfoldable pub finish : List Bool → ℕ → Walked → Result ℕ Refusal
finish all m w = cond (w.at == length all) (cond (w.bad == 0) (Ok (m / 2 - 1)) (Err (refusal 10 (w.bad ∷ [])))) (Err (refusal 9 []))

-- 7: empty, begins with `)`, or never balanced. 8: balanced only after more bits than 4,000 lots need.
unfoldable pub judged : List Bool → Option ℕ → Result ℕ Refusal
judged all None = Err (refusal 7 [])
judged all (Some m) = cond (nat_lt most_brackets m) (Err (refusal 8 [])) (finish all m (walk all 0 [] 0 m 0 (drop 1 (take m all))))

unfoldable pub verdict : List Bool → Result ℕ Refusal
verdict all = judged all (closes all)
