-- The ledger: what a list of calls on a new book leaves as lots and in the punches, and the answers.
use Rattle.std.specs.Prelude.{◌≡◌, ℕ, min, Bool, cond, List, [], ◌∷◌, ◌++◌, length, Err, Option, Result, nat_lt, slice_index, slice_index_or, slice_set}
use Rattle.leaders.specs.Refusal.{Refusal, refusal}
use Rattle.casting.specs.Casts.{Casting, cast_sheet}
use Rattle.ledger.specs.declared.call.BookCall.{BookCall}
use Rattle.ledger.specs.declared.call.BookCall.TheVariants.{Add, Strike, NewKey, Cast}
use Rattle.book.specs.declared.fault.BookFault.{BookFault}
use Rattle.ledger.specs.declared.call.CallFault.{CallFault}
use Rattle.ledger.specs.declared.call.CallFault.TheVariants.{Book, NoPunch}
use Rattle.book.specs.Faults.{told as book_told}
use Rattle.book.specs.Entries.{Entry, add_key, set_key, strike_lot, sheet_of}
use Rattle.book.specs.Held.{numbers}

-- The refusal of a call in a list: the book's, or 0 where a cast names no punch.
abbrev pub told : CallFault → Refusal
told (Book f) = book_told f
told NoPunch = refusal 0 []

-- A book's fault is carried whole.
abbrev pub carries_book : BookFault → CallFault → Type 0
carries_book f r = r ≡ Book f

-- What the ledger is fed besides the calls: the kind of key, how many lots the list has room for, the capacity of each punch, and how many working numbers there are.
pub record Terms (K : Type 0) : Type 0 where
  pub made : List ℕ → Option K
  pub at_least : K → K → Bool
  pub most : ℕ
  pub rooms : List ℕ
  pub work : ℕ

abbrev pub terms : {K : Type 0} → (List ℕ → Option K) → (K → K → Bool) → ℕ → List ℕ → ℕ → Terms K
terms made at_least most rooms work = record { made = made; at_least = at_least; most = most; rooms = rooms; work = work }

-- The keys and the bits of each punch after a call, and the answer to it.
pub record Step (K : Type 0) : Type 0 where
  pub lots : List K
  pub bits : List (List Bool)
  pub answer : Result ℕ Refusal

abbrev pub step : {K : Type 0} → List K → List (List Bool) → Result ℕ Refusal → Step K
step ks bs a = record { lots = ks; bits = bs; answer = a }

abbrev pub booked : {K : Type 0} → List (List Bool) → Entry K → Step K
booked bs e = step e.lots bs e.reply

abbrev pub punched : {K : Type 0} → List K → List (List Bool) → ℕ → Casting → Step K
punched ks bs p c = step ks (slice_set bs p c.bits) c.reply

unfoldable pub step_of : {K : Type 0} → Terms K → List K → List (List Bool) → BookCall → Step K
step_of t ks bs (Add fields) = booked bs (add_key t.most ks (t.made (numbers fields)))
step_of t ks bs (Strike lot) = booked bs (strike_lot ks lot)
step_of t ks bs (NewKey lot fields) = booked bs (set_key ks lot (t.made (numbers fields)))
step_of t ks bs (Cast p w) =
    cond (nat_lt p (length t.rooms)) (punched ks bs p (cast_sheet (sheet_of t.at_least ks) (length ks) (slice_index t.rooms p) (min w t.work) (slice_index_or bs p []))) (step ks bs (Err (refusal 0 [])))

-- The ledger holds keys, each punch's bits, and the answers told so far.
pub record Ledger (K : Type 0) : Type 0 where
  pub lots : List K
  pub bits : List (List Bool)
  pub answers : List (Result ℕ Refusal)

abbrev pub ledger : {K : Type 0} → List K → List (List Bool) → List (Result ℕ Refusal) → Ledger K
ledger ks bs rs = record { lots = ks; bits = bs; answers = rs }

abbrev pub noted : {K : Type 0} → List (Result ℕ Refusal) → Step K → Ledger K
noted rs s = ledger s.lots s.bits (rs ++ s.answer ∷ [])

-- The ledger after one call more, and after a list of calls.
unfoldable pub after1 : {K : Type 0} → Terms K → Ledger K → BookCall → Ledger K
after1 t l c = noted l.answers (step_of t l.lots l.bits c)

unfoldable pub after : {K : Type 0} → Terms K → Ledger K → List BookCall → Ledger K
after t l [] = l
after t l (c ∷ cs) = after t (after1 t l c) cs

-- The ledger at first: no keys, and whatever bits the punches have.
abbrev pub blank : {K : Type 0} → List (List Bool) → Ledger K
blank bs = ledger [] bs []
