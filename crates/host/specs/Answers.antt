-- What C gets: a number in place of an answer.
use Rattle.std.specs.Prelude.{◌≡◌, ℕ, Bool, List, Ok, Err, Result, unwrap_or}
use Rattle.leaders.specs.Refusal.{Refusal}
use Rattle.leaders.specs.Verdict.{verdict}
use Rattle.panel.specs.declared.shown.Shown.{Shown}
use Rattle.panel.specs.Shows.{best_of, second_of}
use Rattle.board.specs.Pages.{lots_by, page_shows, Knows}

-- 0 for a sheet, or the number of the refusal.
abbrev pub refusal_number : Result ℕ Refusal → ℕ
refusal_number (Ok n) = 0
refusal_number (Err r) = r.number

-- The best lot that is shown, and the second; 0 for none.
abbrev pub best_shown : Shown → ℕ
best_shown shown = unwrap_or (best_of shown) 0

abbrev pub second_shown : Shown → ℕ
second_shown shown = unwrap_or (second_of shown) 0

-- A value is what f reads off the panel of a board that has taken these bits, after that page: for every order of lots whose sheet the bits are.
abbrev pub Reads : {A : Type 0} → (Shown → A) → List Bool → ℕ → ℕ → A → Type 0
Reads f bits start size r = (b : ℕ → ℕ → Bool) → Knows b (lots_by (verdict bits)) bits → r ≡ f (page_shows b (lots_by (verdict bits)) start size)
