-- What takes and pages answer, and what a page shows.
use Rattle.std.specs.Prelude.{◌≡◌, ℕ, ◌+◌, ◌-◌, ◌≤◌, min, Bool, true, false, cond, ◌&&◌, List, [], ◌++◌, take, drop, Some, None, Ok, Err, Option, Result, nat_le}
use Rattle.leaders.specs.Order.{Strict, best, second, beats, dearer}
use Rattle.leaders.specs.Sheet.{sheet}
use Rattle.leaders.specs.Refusal.{Refusal, refusal}
use Rattle.leaders.specs.Rebuilt.{rebuilt}
use Rattle.leaders.specs.Theorems.{Casts}
use Rattle.panel.specs.declared.shown.Shown.{Shown}
use Rattle.panel.specs.declared.shown.Shown.TheVariants.{Blank}
use Rattle.panel.specs.Shows.{told}
use Rattle.rebuilding.specs.Rebuilding.{enough}
use Rattle.reading.specs.declared.pair.Pair.{Pair}
use Rattle.reading.specs.Leads.{Finds}
use Rattle.board.specs.declared.fault.BoardFault.{BoardFault}
use Rattle.board.specs.declared.fault.BoardFault.TheVariants.{NotTaken, NoPage}

-- Some list of n prices, at most 4,000, casts these very bits.
abbrev pub CastBySome : List Bool → ℕ → Type 0
CastBySome bits n = (n ≤ 4000) × ((prices : List ℕ) × Casts bits n prices)

-- The lots of a board after a take: those of the sheet, or none.
abbrev pub lots_by : Result ℕ Refusal → Option ℕ
lots_by (Ok n) = Some n
lots_by (Err e) = None

-- A page of n lots starts at one of them and has a size.
abbrev pub is_page : ℕ → ℕ → ℕ → Bool
is_page n start size = nat_le 1 start && nat_le start n && nat_le 1 size

-- The last lot of a page: start + size - 1, or n if that is smaller.
abbrev pub page_end : ℕ → ℕ → ℕ → ℕ
page_end n start size = min (start + size - 1) n

-- What a page answers on a board with these lots.
abbrev pub page_reply : Option ℕ → ℕ → ℕ → Result (Unit {0}) Refusal
page_reply None start size = Err (refusal 11 [])
page_reply (Some n) start size = cond (is_page n start size) (Ok tt) (Err (refusal 12 []))

-- What a rebuild answers on a board with these lots: how many prices it has written.
abbrev pub rebuild_reply : Option ℕ → ℕ → ℕ → Result ℕ Refusal
rebuild_reply None prices numbers = Err (refusal 11 [])
rebuild_reply (Some n) prices numbers = cond (enough n prices numbers) (Ok n) (Err (refusal 13 []))

-- What is written is the prices of n lots that the merge order defines, by the order b, and their sheet is the tape's bits; entries past n remain.
pub record Rewritten (b : ℕ → ℕ → Bool) (n : ℕ) (bits : List Bool) (before after : List ℕ) : Type 0 where
  pub defined : after ≡ rebuilt b n ++ drop n before
  pub cast : sheet (beats dearer (take n after)) n ≡ bits

-- What a page leaves on its panel, for lots in the order b: the best and the second of its range, or blank where it is refused.
abbrev pub page_shows : (ℕ → ℕ → Bool) → Option ℕ → ℕ → ℕ → Shown
page_shows b None start size = Blank
page_shows b (Some n) start size = cond (is_page n start size) (told (best b start (page_end n start size)) (second b start (page_end n start size))) Blank

-- The board's lots, if it has any, are in the order b, and the bits are their sheet.
abbrev pub Knows : (ℕ → ℕ → Bool) → Option ℕ → List Bool → Type 0
Knows b None bits = Unit {0}
Knows b (Some n) bits = Strict b × (sheet b n ≡ bits)

-- What is found for a page: the pair that leads its range in every order whose sheet the bits are, or the refusal.
abbrev pub Found : List Bool → Option ℕ → ℕ → ℕ → Result (Option Pair) BoardFault → Type 0
Found bits None start size r = r ≡ Err NotTaken
Found bits (Some n) start size (Err f) = (f ≡ NoPage) × (is_page n start size ≡ false)
Found bits (Some n) start size (Ok p) = (is_page n start size ≡ true) × Finds bits n start (page_end n start size) p
