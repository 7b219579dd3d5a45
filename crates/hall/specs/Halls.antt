-- What a hall program replies to a whole input.
use Rattle.std.specs.Prelude.{◌≡◌, ℕ, ◌≤◌, Bool, List, [], ◌∷◌, ◌++◌, length, take, Some, None, Ok, Err, Option, Result}
use Rattle.leaders.specs.Order.{beats}
use Rattle.leaders.specs.Refusal.{Refusal}
use Rattle.casting.specs.Casts.{Casting, casting, cast_sheet}
use Rattle.book.specs.Entries.{Entry, add_key, set_key, strike_lot, sheet_of}
use Rattle.board.specs.Pages.{page_reply, page_shows}
use Rattle.commands.specs.Texts.{lines}
use Rattle.commands.specs.Asked.{Asked, add, strike, new_key, cast, page, asked_of}
use Rattle.replies.specs.Replies.{refused_line, book_line, cast_line, page_line}

-- The terms of a hall: the kind of key, and how many lots, bits and working numbers there is room for.
pub record Terms (K : Type 0) : Type 0 where
  pub made : List ℕ → Option K
  pub at_least : K → K → Bool
  pub arity : ℕ
  pub most : ℕ
  pub room : ℕ
  pub work : ℕ

abbrev pub terms : {K : Type 0} → (List ℕ → Option K) → (K → K → Bool) → ℕ → ℕ → ℕ → ℕ → Terms K
terms made at_least arity most room work = record { made = made; at_least = at_least; arity = arity; most = most; room = room; work = work }

-- A hall has the keys of its book, and those of the last cast, if there was one: they are what the board knows.
pub record Hall (K : Type 0) : Type 0 where
  pub lots : List K
  pub shown : Option (List K)

abbrev pub hall : {K : Type 0} → List K → Option (List K) → Hall K
hall ks shown = record { lots = ks; shown = shown }

-- The hall after a line, and the reply to it.
pub record Turn (K : Type 0) : Type 0 where
  pub after : Hall K
  pub reply : List ℕ

abbrev pub turn : {K : Type 0} → Hall K → List ℕ → Turn K
turn h reply = record { after = h; reply = reply }

-- A call on the book leaves what the board shows.
abbrev pub book_turn : {K : Type 0} → Hall K → Entry K → Turn K
book_turn h e = turn (hall e.lots h.shown) (book_line e.reply)

-- After a cast the board shows the lots as they are now; a refused one changes nothing.
abbrev pub cast_shown : {K : Type 0} → Hall K → Result ℕ Refusal → Hall K
cast_shown h (Ok n) = hall h.lots (Some h.lots)
cast_shown h (Err r) = h

-- The bits that the board reads: the sheet of the last cast, or none.
abbrev pub shown_bits : {K : Type 0} → (K → K → Bool) → Option (List K) → List Bool
shown_bits at_least None = []
shown_bits at_least (Some ks) = sheet_of at_least ks

abbrev pub casts : {K : Type 0} → Terms K → Hall K → Casting
casts t h = cast_sheet (sheet_of t.at_least h.lots) (length h.lots) t.room t.work (shown_bits t.at_least h.shown)

abbrev pub cast_turn : {K : Type 0} → Hall K → Casting → Turn K
cast_turn h c = turn (cast_shown h c.reply) (cast_line c)

-- How many lots the board has, if it has taken a sheet, and their order.
abbrev pub shown_lots : {K : Type 0} → Option (List K) → Option ℕ
shown_lots None = None
shown_lots (Some ks) = Some (length ks)

abbrev pub shown_order : {K : Type 0} → (K → K → Bool) → Option (List K) → ℕ → ℕ → Bool
shown_order at_least None = beats at_least []
shown_order at_least (Some ks) = beats at_least ks

abbrev pub page_of : {K : Type 0} → (K → K → Bool) → Option (List K) → ℕ → ℕ → List ℕ
page_of at_least shown start size = page_line (page_reply (shown_lots shown) start size) (page_shows (shown_order at_least shown) (shown_lots shown) start size)

-- What is asked, done; a malformed line is refused with 1, and nothing changes.
unfoldable pub turn_of : {K : Type 0} → Terms K → Hall K → Option Asked → Turn K
turn_of t h None = turn h (refused_line 1)
turn_of t h (Some (add fields)) = book_turn h (add_key t.most h.lots (t.made fields))
turn_of t h (Some (strike lot)) = book_turn h (strike_lot h.lots lot)
turn_of t h (Some (new_key lot fields)) = book_turn h (set_key h.lots lot (t.made fields))
turn_of t h (Some cast) = cast_turn h (casts t h)
turn_of t h (Some (page start size)) = turn h (page_of t.at_least h.shown start size)

-- The bits in the punch then: a cast writes the sheet or leaves them, and nothing else touches them.
unfoldable pub bits_after : {K : Type 0} → Terms K → List K → List Bool → Option Asked → List Bool
bits_after t ks bits None = bits
bits_after t ks bits (Some (add fields)) = bits
bits_after t ks bits (Some (strike lot)) = bits
bits_after t ks bits (Some (new_key lot fields)) = bits
bits_after t ks bits (Some cast) = (cast_sheet (sheet_of t.at_least ks) (length ks) t.room t.work bits).bits
bits_after t ks bits (Some (page start size)) = bits

abbrev pub line_turn : {K : Type 0} → Terms K → Hall K → List ℕ → Turn K
line_turn t h line = turn_of t h (asked_of t.arity line)

-- The replies to lines, in order.
unfoldable pub replies : {K : Type 0} → Terms K → Hall K → List (List ℕ) → List ℕ
replies t h [] = []
replies t h (l ∷ ls) = (line_turn t h l).reply ++ replies t (line_turn t h l).after ls

-- A hall program has 4,000 places, a punch of 14,000 bits and 16,004 working numbers.
abbrev pub program_terms : {K : Type 0} → (List ℕ → Option K) → (K → K → Bool) → ℕ → Terms K
program_terms made at_least arity = terms made at_least arity 4000 14000 16004

-- The replies of a new hall to an input, of which no more than 65,536 bytes count.
abbrev pub all_replies : {K : Type 0} → Terms K → List ℕ → List ℕ
all_replies t input = replies t (hall [] None) (lines (take 65536 input))

-- The bits in the punch are the sheet of the last cast, of at most 4,000 lots, or none.
pub record Stands {K : Type 0} (at_least : K → K → Bool) (shown : Option (List K)) (bits : List Bool) : Type 0 where
  pub sheet_is : shown_bits at_least shown ≡ bits
  pub few : (ks : List K) → shown ≡ Some ks → length ks ≤ 4000

-- Book and punch are as the turn leaves the hall.
pub record Turned {K : Type 0} (at_least : K → K → Bool) (t : Turn K) (ks : List K) (bits : List Bool) : Type 0 where
  pub lots_are : ks ≡ t.after.lots
  pub stands : Stands at_least t.after.shown bits

-- In a hall program every cast of at most 4,000 lots is accepted: 5 and 6 are never told.
abbrev pub CastsFit : {K : Type 0} → (K → K → Bool) → Type 0
CastsFit {K} at_least = (ks : List K) (bits : List Bool) → length ks ≤ 4000 → cast_sheet (sheet_of at_least ks) (length ks) 14000 16004 bits ≡ casting (sheet_of at_least ks) (Ok (length (sheet_of at_least ks)))

-- A hall h has answered the first line of a text: book, punch and what is written are as that turn says, and the replies that were owed to the text are this one and then those owed to the rest.
pub record Next {K : Type 0} (t : Terms K) (h : Hall K) (text rest : List ℕ) (ks : List K) (bits : List Bool) (before after : List ℕ) : Type 0 where
  pub line : List ℕ
  pub turned : Turned t.at_least (line_turn t h line) ks bits
  pub replied : after ≡ before ++ (line_turn t h line).reply
  pub owed : replies t h (lines text) ≡ (line_turn t h line).reply ++ replies t (line_turn t h line).after (lines rest)

-- The line that a hall has answered so is the first of the text.
pub record FirstNext {K : Type 0} (t : Terms K) (h : Hall K) (text rest : List ℕ) (ks : List K) (bits : List Bool) (before after : List ℕ) : Type 0 where
  pub next : Next t h text rest ks bits before after
  pub first : lines text ≡ next.line ∷ lines rest
