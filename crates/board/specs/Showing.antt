-- What a list of takes and pages on a new board leaves on the panels, and the answers.
use Rattle.std.specs.Prelude.{◌≡◌, ℕ, Bool, cond, List, [], ◌∷◌, ◌++◌, length, None, Ok, Err, Option, Result, nat_lt, slice_set}
use Rattle.leaders.specs.Refusal.{Refusal, refusal}
use Rattle.panel.specs.declared.shown.Shown.{Shown}
use Rattle.board.specs.declared.fault.BoardFault.{BoardFault}
use Rattle.board.specs.declared.call.BoardCall.{BoardCall}
use Rattle.board.specs.declared.call.BoardCall.TheVariants.{Take, Page}
use Rattle.board.specs.declared.call.BoardReply.{BoardReply}
use Rattle.board.specs.declared.call.BoardReply.TheVariants.{Taken, Paged}
use Rattle.board.specs.declared.call.TurnFault.{TurnFault}
use Rattle.board.specs.declared.call.TurnFault.TheVariants.{Board, NoPanel}
use Rattle.board.specs.Faults.{told as board_told}
use Rattle.board.specs.Pages.{lots_by, page_reply, page_shows}

-- The refusal of a call in a list: the board's, or 0 where a page names no panel.
abbrev pub told : TurnFault → Refusal
told (Board f) = board_told f
told NoPanel = refusal 0 []

-- A board's fault is carried whole.
abbrev pub carries_board : BoardFault → TurnFault → Type 0
carries_board f r = r ≡ Board f

-- What a take or a page answers, as the answer to a call of a list.
abbrev pub take_answer : Result ℕ Refusal → Result BoardReply Refusal
take_answer (Ok n) = Ok (Taken n)
take_answer (Err e) = Err e

abbrev pub page_answer : Result (Unit {0}) Refusal → Result BoardReply Refusal
page_answer (Ok u) = Ok Paged
page_answer (Err e) = Err e

-- The board's lots and what each panel shows after a call, and the answer to it.
pub record Turn : Type 0 where
  pub lots : Option ℕ
  pub shown : List Shown
  pub answer : Result BoardReply Refusal

abbrev pub turn : Option ℕ → List Shown → Result BoardReply Refusal → Turn
turn l ss a = record { lots = l; shown = ss; answer = a }

-- One call on a board over a tape with the verdict v, for lots in the order b.
unfoldable pub turn_of : Result ℕ Refusal → (ℕ → ℕ → Bool) → Option ℕ → List Shown → BoardCall → Turn
turn_of v b l ss Take = turn (lots_by v) ss (take_answer v)
turn_of v b l ss (Page p start size) = cond (nat_lt p (length ss)) (turn l (slice_set ss p (page_shows b l start size)) (page_answer (page_reply l start size))) (turn l ss (Err (refusal 0 [])))

-- The board's lots, what each panel shows, and the answers so far.
pub record Showing : Type 0 where
  pub lots : Option ℕ
  pub shown : List Shown
  pub answers : List (Result BoardReply Refusal)

abbrev pub showing : Option ℕ → List Shown → List (Result BoardReply Refusal) → Showing
showing l ss rs = record { lots = l; shown = ss; answers = rs }

abbrev pub turned : List (Result BoardReply Refusal) → Turn → Showing
turned rs t = showing t.lots t.shown (rs ++ t.answer ∷ [])

unfoldable pub shows1 : Result ℕ Refusal → (ℕ → ℕ → Bool) → Showing → BoardCall → Showing
shows1 v b s c = turned s.answers (turn_of v b s.lots s.shown c)

unfoldable pub shows : Result ℕ Refusal → (ℕ → ℕ → Bool) → Showing → List BoardCall → Showing
shows v b s [] = s
shows v b s (c ∷ cs) = shows v b (shows1 v b s c) cs

-- A new board beside panels that show this.
abbrev pub idle : List Shown → Showing
idle ss = showing None ss []
