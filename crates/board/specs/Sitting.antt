-- What a list of takes and pages on a new board comes to, in the words of the subject.
use Rattle.std.specs.Prelude.{◌≡◌, ℕ, ◌<◌, Bool, true, false, cond, ◌≢◌, List, [], ◌∷◌, ◌++◌, map, length, None, Err, Option, Result, nat_lt, slice_index_or}
use Rattle.leaders.specs.Refusal.{Refusal, refusal, answered}
use Rattle.panel.specs.declared.shown.Shown.{Shown}
use Rattle.panel.specs.declared.shown.Shown.TheVariants.{Blank}
use Rattle.board.specs.declared.call.BoardCall.{BoardCall}
use Rattle.board.specs.declared.call.BoardCall.TheVariants.{Take, Page}
use Rattle.board.specs.declared.call.BoardReply.{BoardReply}
use Rattle.board.specs.Pages.{lots_by, page_reply, page_shows}
use Rattle.board.specs.declared.call.TurnFault.{TurnFault}
use Rattle.board.specs.Showing.{told, take_answer, page_answer}

-- What the panels showed before; the calls on a new board as they were performed; the answers, and what the panels show after them.
pub record Sitting : Type 0 where
  pub before : List Shown
  pub calls : List BoardCall
  pub answers : List (Result BoardReply Refusal)
  pub shown : List Shown

abbrev pub sitting : List Shown → List BoardCall → List (Result BoardReply Refusal) → List Shown → Sitting
sitting bs cs rs ss = record { before = bs; calls = cs; answers = rs; shown = ss }

-- A list of takes and pages on a new board as it was performed, from what its panels are before and after.
abbrev pub seated : {D : Type 0} → (D → Shown) → List D → List BoardCall → List (Result BoardReply TurnFault) → List D → Sitting
seated shows panels calls answers panels-after = sitting (map shows panels) calls (map (answered told) answers) (map shows panels-after)

-- One of the calls is a take.
abbrev pub any_take : List BoardCall → Bool
any_take [] = false
any_take (Take ∷ cs) = true
any_take (Page p i s ∷ cs) = any_take cs

-- None of the calls is a page on the panel p.
abbrev pub Spared : ℕ → List BoardCall → Type 0
Spared p [] = Unit {0}
Spared p (Take ∷ cs) = Spared p cs
Spared p (Page q i s ∷ cs) = (q ≢ p) × Spared p cs

-- The board's lots after some calls, over a tape with the verdict v: none before the first take.
abbrev pub lots_after : Result ℕ Refusal → List BoardCall → Option ℕ
lots_after v f = cond (any_take f) (lots_by v) None

-- The call c stands after the calls f and before the calls g, and a is its answer.
pub record Answers (s : Sitting) (f : List BoardCall) (c : BoardCall) (g : List BoardCall) (a : Result BoardReply Refusal) : Type 0 where
  pub earlier : List (Result BoardReply Refusal)
  pub later : List (Result BoardReply Refusal)
  pub calls_are : s.calls ≡ f ++ c ∷ g
  pub answers_are : s.answers ≡ earlier ++ a ∷ later
  pub in_step : length earlier ≡ length f

-- A sitting over a tape with the verdict v, for lots in the order b. Every take answers as the verdict says. A page is refused with 11 before
-- the first take that is accepted, then exactly as 12 says; one that names no panel is answered as such. The last page on a panel shows there
-- the best and the second of its range in the order b, or leaves it blank where it was refused. A panel with no page remains.
pub record Sat (b : ℕ → ℕ → Bool) (v : Result ℕ Refusal) (s : Sitting) : Type 0 where
  pub takes : (f g : List BoardCall) (a : Result BoardReply Refusal) → Answers s f Take g a → a ≡ take_answer v
  pub pages : (f g : List BoardCall) (p start size : ℕ) (a : Result BoardReply Refusal) → Answers s f (Page p start size) g a →
      a ≡ cond (nat_lt p (length s.shown)) (page_answer (page_reply (lots_after v f) start size)) (Err (refusal 0 []))
  pub shows : (f g : List BoardCall) (p start size : ℕ) → s.calls ≡ f ++ Page p start size ∷ g → Spared p g → p < length s.shown →
      slice_index_or s.shown p Blank ≡ page_shows b (lots_after v f) start size
  pub spares : (p : ℕ) → Spared p s.calls → slice_index_or s.shown p Blank ≡ slice_index_or s.before p Blank
  pub panels : length s.shown ≡ length s.before
