-- A whole list of calls on a new book, as it was played, and the ledger of it.
use Rattle.std.specs.Prelude.{◌≡◌, ℕ, Bool, List, map, length, take, Option, Result}
use Rattle.leaders.specs.Order.{beats}
use Rattle.leaders.specs.Refusal.{Refusal, answered}
use Rattle.book.specs.Entries.{room_for}
use Rattle.ledger.specs.declared.call.BookCall.{BookCall}
use Rattle.ledger.specs.declared.call.CallFault.{CallFault}
use Rattle.ledger.specs.Ledger.{Terms, terms, Ledger, ledger, after, blank, told}

-- A list of calls on a new book as it was played: on which terms, what the punches held before, and the calls; then the answers, the lent list and the punches' bits.
pub record Play (K : Type 0) : Type 0 where
  pub terms : Terms K
  pub before : List (List Bool)
  pub calls : List BookCall
  pub answers : List (Result ℕ Refusal)
  pub list : List K
  pub bits : List (List Bool)

-- Such a list, from what a book is lent before and after: of keys of a kind and punches of a make, with so many working numbers.
abbrev pub played : {K P : Type 0} → (List ℕ → Option K) → (K → K → Bool) → (P → ℕ) → (P → List Bool) → ℕ → List K → List P → List BookCall → List (Result ℕ CallFault) → List K → List P → Play K
played made at_least room written work list punches calls answers list-after punches-after = record {
  terms = terms made at_least (room_for (length list)) (map room punches) work;
  before = map written punches;
  calls = calls;
  answers = map (answered told) answers;
  list = list-after;
  bits = map written punches-after;
}

-- The ledger after some calls on that book's terms, and the order of some of its keys.
abbrev pub ledger_at : {K : Type 0} → Play K → List BookCall → Ledger K
ledger_at p cs = after p.terms (blank p.before) cs

abbrev pub order : {K : Type 0} → Play K → List K → ℕ → ℕ → Bool
order p ks = beats p.terms.at_least ks

-- Lots, bits and refusals are those of the ledger fed the same calls.
abbrev pub ByTheLedger : {K : Type 0} → Play K → Type 0
ByTheLedger p = ledger (take (length (ledger_at p p.calls).lots) p.list) p.bits p.answers ≡ ledger_at p p.calls
