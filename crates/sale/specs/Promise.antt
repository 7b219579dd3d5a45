-- What is promised of a whole sale, in the words of the subject.
use Rattle.std.specs.Prelude.{◌≡◌, ℕ, suc, ◌*◌, ◌^◌, ◌<◌, ◌≤◌, Bool, true, false, ◌&&◌, ◌↔◌, List, [], ◌∷◌, ◌++◌, map, length, take, drop, Ok, Err, vec_len, vec_capacity, Result, slice_index, slice_index_or}
use Rattle.answers.specs.Room.{roomy}
use Rattle.leaders.specs.Order.{Strict, SameLeaders}
use Rattle.leaders.specs.Sheet.{sheet}
use Rattle.leaders.specs.Refusal.{Refusal, refusal, answered}
use Rattle.leaders.specs.Verdict.{verdict}
use Rattle.leaders.specs.Rebuilt.{rebuilt}
use Rattle.keys.specs.declared.price.Price.{Price}
use Rattle.keys.specs.Prices.{price_at_least, price_of}
use Rattle.ledger.specs.declared.call.BookCall.{BookCall}
use Rattle.ledger.specs.declared.call.BookCall.TheVariants.{Add, Cast}
use Rattle.ledger.specs.Ledger.{terms, Ledger, after, blank}
use Rattle.ledger.specs.Plays.{Play, ledger_at, order, ByTheLedger}
use Rattle.board.specs.declared.fault.BoardFault.{BoardFault}
use Rattle.board.specs.Faults.{told as board_told}
use Rattle.board.specs.declared.call.BoardCall.{BoardCall}
use Rattle.board.specs.declared.call.BoardCall.TheVariants.{Take}
use Rattle.board.specs.declared.call.BoardReply.{BoardReply}
use Rattle.board.specs.declared.call.BoardReply.TheVariants.{Taken}
use Rattle.rebuilding.specs.Rebuilding.{enough}
use Rattle.board.specs.Sitting.{Sitting, Answers, Sat}
use Rattle.sale.specs.declared.rehearsal.Lists.{Lists}

-- After the calls f comes a cast into the punch n, which is accepted, and then come the calls g.
pub record CastAfter {K : Type 0} (p : Play K) (f : List BookCall) (n : ℕ) (g : List BookCall) : Type 0 where
  pub numbers : ℕ
  pub size : ℕ
  pub earlier : List (Result ℕ Refusal)
  pub later : List (Result ℕ Refusal)
  pub calls_are : p.calls ≡ f ++ Cast n numbers ∷ g
  pub answers_are : p.answers ≡ earlier ++ Ok size ∷ later
  pub in_step : length earlier ≡ length f

-- Where both lists end in an accepted cast, the two sheets are equal exactly when the lots are equally many and every range has the same best and second.
abbrev pub EqualSheets : {K L : Type 0} → Play K → Play L → Type 0
EqualSheets p q = (f g : List BookCall) (n m : ℕ) → CastAfter p f n [] → CastAfter q g m [] →
    let ks = (ledger_at p p.calls).lots in let ls = (ledger_at q q.calls).lots in
    (slice_index_or p.bits n [] ≡ slice_index_or q.bits m []) ↔ ((length ks ≡ length ls) × SameLeaders (order p ks) (order q ls) (length ks))

-- A price as a key, and the call that adds it.
abbrev pub price : ℕ → Price
price cents = record { cents = cents }

abbrev pub add_price : ℕ → BookCall
add_price cents = Add (record { values = cents ∷ 0 ∷ 0 ∷ 0 ∷ 0 ∷ []; count = 1 })

-- The ledger of a new book of prices over 4,000 places, with a punch of 14,000 bits and 16,004 working numbers, after an add for each price and a cast.
abbrev pub price_book : List ℕ → Ledger Price
price_book prices = after (terms price_of price_at_least 4000 (14000 ∷ []) 16004) (blank ([] ∷ [])) (map add_price prices ++ Cast 0 16004 ∷ [])

-- A book of these prices casts these very bits.
pub record BookCasts (bits : List Bool) (prices : List ℕ) : Type 0 where
  pub few : length prices ≤ 4000
  pub fit : (k : ℕ) → slice_index prices k < 2 ^ 32
  pub lots : (price_book prices).lots ≡ map price prices
  pub punched : (price_book prices).bits ≡ bits ∷ []

-- Some book of n prices casts these very bits.
abbrev pub CastByBook : List Bool → ℕ → Type 0
CastByBook bits n = (prices : List ℕ) × (length prices ≡ n) × BookCasts bits prices

-- A take accepts the tape exactly when some book of prices casts its bits, and says how many lots it has.
abbrev pub TakenWhenCast : List Bool → Sitting → Type 0
TakenWhenCast bits s = (f g : List BoardCall) (a : Result BoardReply Refusal) → Answers s f Take g a → (n : ℕ) → (a ≡ Ok (Taken n)) ↔ CastByBook bits n

-- Where the tape has the bits of any accepted cast, whatever calls came after it: every take accepts it; a page is refused with 11 before the first take,
-- later exactly as 12 says; and the last page on a panel shows the best and the second of its range by the ledger's keys at that cast, or is blank where it was refused.
abbrev pub ShownBy : {K : Type 0} → Play K → List Bool → Sitting → Type 0
ShownBy p bits s = (f g : List BookCall) (n : ℕ) → (c : CastAfter p f n g) → slice_index_or (ledger_at p (f ++ Cast n c.numbers ∷ [])).bits n [] ≡ bits →
    let ks = (ledger_at p f).lots in Sat (order p ks) (Ok (length ks)) s

-- Where the tape's bits are the sheet of any order of at most 4,000 lots, it goes by that order.
abbrev pub Led : List Bool → Sitting → Type 0
Led bits s = (b : ℕ → ℕ → Bool) → Strict b → (n : ℕ) → n ≤ 4000 → sheet b n ≡ bits → Sat b (Ok n) s

-- Where the tape's bits are refused, every take tells that refusal, every page is refused, and its panel is blank, whatever the order of lots.
abbrev pub Declined : List Bool → Sitting → Type 0
Declined bits s = (e : Refusal) → verdict bits ≡ Err e → (b : ℕ → ℕ → Bool) → Sat b (Err e) s

-- A rebuild on a new board that takes the tape first, as it was done: prices and working numbers before and after, and the answer.
pub record Return : Type 0 where
  pub prices_were : List ℕ
  pub work_was : List ℕ
  pub prices : List ℕ
  pub work : List ℕ
  pub reply : Result ℕ Refusal

abbrev pub returned : List ℕ → List ℕ → List ℕ → List ℕ → Result ℕ BoardFault → Return
returned ps ws qs vs r = record { prices_were = ps; work_was = ws; prices = qs; work = vs; reply = answered board_told r }

-- The lists remain.
abbrev pub Untouched : Return → Type 0
Untouched w = (w.prices ≡ w.prices_were) × (w.work ≡ w.work_was)

-- Given its room, a rebuild writes the prices that the merge order of the sheet defines, by whatever order has that sheet, and a book of these prices casts the
-- tape's bits. Entries past n and working numbers past 4(n + 1) remain.
pub record Written (bits : List Bool) (n : ℕ) (w : Return) : Type 0 where
  pub reply : w.reply ≡ Ok n
  pub defined : (b : ℕ → ℕ → Bool) → Strict b → sheet b n ≡ bits → w.prices ≡ rebuilt b n ++ drop n w.prices_were
  pub cast : BookCasts bits (take n w.prices)
  pub past : drop n w.prices ≡ drop n w.prices_were
  pub rest : drop (4 * suc n) w.work ≡ drop (4 * suc n) w.work_was

-- Without that room it is refused with 13 and leaves both lists; so it does where the take refuses the tape, and then tells the take's refusal.
pub record Rebuilt (bits : List Bool) (w : Return) : Type 0 where
  pub written : (n : ℕ) → CastByBook bits n → enough n (length w.prices_were) (length w.work_was) ≡ true → Written bits n w
  pub cramped : (n : ℕ) → CastByBook bits n → enough n (length w.prices_were) (length w.work_was) ≡ false → (w.reply ≡ Err (refusal 13 [])) × Untouched w
  pub declined : (e : Refusal) → verdict bits ≡ Err e → (w.reply ≡ Err e) × Untouched w

-- The whole promise, of two lists of calls on two new books, a list of takes and pages on a new board over a tape, and a rebuild.
pub record Promise {K L : Type 0} (p : Play K) (q : Play L) (bits : List Bool) (s : Sitting) (w : Return) : Type 0 where
  pub first : ByTheLedger p
  pub second : ByTheLedger q
  pub equal : EqualSheets p q
  pub answered : length s.answers ≡ length s.calls
  pub taken : TakenWhenCast bits s
  pub led : Led bits s
  pub declined : Declined bits s
  pub rebuilt : Rebuilt bits w
  pub shown : ShownBy p bits s
  pub shown_too : ShownBy q bits s

-- The lists are empty, and have room for the answers to so many calls on each book and on the board.
abbrev pub roomy_for : Lists → ℕ → ℕ → ℕ → Bool
roomy_for l first second board = roomy (vec_len l.first) (vec_capacity l.first) first && (roomy (vec_len l.second) (vec_capacity l.second) second && roomy (vec_len l.board) (vec_capacity l.board) board)
