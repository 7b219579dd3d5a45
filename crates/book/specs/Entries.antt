-- What each call does to a list of keys, and answers: a line of the ledger.
use Rattle.std.specs.Prelude.{ℕ, ◌+◌, ◌-◌, min, Bool, cond, ◌&&◌, List, [], ◌∷◌, ◌++◌, length, Some, None, Ok, Err, Option, Result, nat_le, nat_lt, slice_set}
use Rattle.std.specs.List.{remove}
use Rattle.leaders.specs.Order.{beats}
use Rattle.leaders.specs.Sheet.{sheet}
use Rattle.leaders.specs.Refusal.{Refusal, refusal}

-- The keys after a call, and the answer to it.
pub record Entry (K : Type 0) : Type 0 where
  pub lots : List K
  pub reply : Result ℕ Refusal

abbrev pub entry : {K : Type 0} → List K → Result ℕ Refusal → Entry K
entry ks r = record { lots = ks; reply = r }

-- A book over a list of n places has room for as many lots, and for 4,000 at most.
abbrev pub room_for : ℕ → ℕ
room_for n = min 4000 n

-- Lots are numbered from 1 to n.
abbrev pub is_lot : ℕ → ℕ → Bool
is_lot i n = nat_le 1 i && nat_le i n

-- Add puts a key last, if the fields make one and there is room.
abbrev pub add_key : {K : Type 0} → ℕ → List K → Option K → Entry K
add_key most ks None = entry ks (Err (refusal 2 []))
add_key most ks (Some k) = cond (nat_lt (length ks) most) (entry (ks ++ k ∷ []) (Ok (length ks + 1))) (entry ks (Err (refusal 3 [])))

-- Strike removes a lot, and later lots move down by one.
abbrev pub strike_lot : {K : Type 0} → List K → ℕ → Entry K
strike_lot ks i = cond (is_lot i (length ks)) (entry (remove ks (i - 1)) (Ok (length ks - 1))) (entry ks (Err (refusal 4 [])))

-- New key replaces one lot's key.
abbrev pub set_key : {K : Type 0} → List K → ℕ → Option K → Entry K
set_key ks i None = entry ks (Err (refusal 2 []))
set_key ks i (Some k) = cond (is_lot i (length ks)) (entry (slice_set ks (i - 1) k) (Ok (length ks))) (entry ks (Err (refusal 4 [])))

-- The sheet of a list of keys.
abbrev pub sheet_of : {K : Type 0} → (K → K → Bool) → List K → List Bool
sheet_of at_least ks = sheet (beats at_least ks) (length ks)
