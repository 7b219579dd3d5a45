-- The parts of a hall, as the replies go by them, and what a line does to them.
use Rattle.std.specs.Prelude.{◌≡◌, ℕ, Bool, List, ◌++◌, length, drop, OnOk, None, Option, Result}
use Rattle.bits.specs.declared.byte_punch.BytePunch.{BytePunch}
use Rattle.bits.specs.Punching.{letters, letter_room}
use Rattle.leaders.specs.Verdict.{verdict}
use Rattle.casting.specs.Casts.{Casting, cast_sheet}
use Rattle.book.specs.declared.book.Book.{Book}
use Rattle.book.specs.Entries.{room_for, sheet_of}
use Rattle.book.specs.Held.{keys_in}
use Rattle.commands.specs.Asked.{Asked}
use Rattle.board.specs.Pages.{lots_by, page_reply, page_shows}
use Rattle.replies.specs.Replies.{page_line}
use Rattle.hall.specs.declared.hall.Hall.{Hall}
use Rattle.hall.specs.Halls.{Terms, terms, hall, turn_of, bits_after, Stands, Turned}

-- The bits in a punch of letters.
abbrev pub bits_of : {C : Type 0} → BytePunch C → List Bool
bits_of p = letters p.bytes.now p.count

-- The terms of a book, a punch and so many working numbers, for a kind of key: how many lots, bits and working numbers there is room for.
abbrev pub terms_of : {K C : Type 0} → (List ℕ → Option K) → (K → K → Bool) → ℕ → Book K → BytePunch C → ℕ → Terms K
terms_of made at_least arity book punch work = terms made at_least arity (room_for (length book.list.now)) (letter_room punch.bytes.now) work

-- What a cast of a book comes to.
abbrev pub cast_of : {K C : Type 0} → (K → K → Bool) → Book K → BytePunch C → ℕ → Casting
cast_of at_least book punch work = cast_sheet (sheet_of at_least (keys_in book)) (length (keys_in book)) (letter_room punch.bytes.now) work (bits_of punch)

-- The keys of the lots in a hall's book, the bits in its punch, its terms, and what a cast of its book comes to.
abbrev pub lots_in : {K : Type 0} → Hall K → List K
lots_in h = keys_in h.book

abbrev pub bits_in : {K : Type 0} → Hall K → List Bool
bits_in h = bits_of h.punch

abbrev pub terms_in : {K : Type 0} → (List ℕ → Option K) → (K → K → Bool) → ℕ → Hall K → Terms K
terms_in made at_least arity h = terms_of made at_least arity h.book h.punch (length h.work.now)

-- The reply to a page of a board that has taken these bits, by an order whose sheet they are.
abbrev pub page_over : (ℕ → ℕ → Bool) → List Bool → ℕ → ℕ → List ℕ
page_over b bits start size = page_line (page_reply (lots_by (verdict bits)) start size) (page_shows b (lots_by (verdict bits)) start size)

-- What is asked has been done: the lots and the punch's bits are as that turn leaves them, whichever keys the last cast had.
pub record Does {K : Type 0} (t : Terms K) (ks ls : List K) (before after : List Bool) (asked : Option Asked) : Type 0 where
  pub lots : ls ≡ (turn_of t (hall ks None) asked).after.lots
  pub bits : after ≡ bits_after t ks before asked
  pub turned : (shown : Option (List K)) → Stands t.at_least shown before → Turned t.at_least (turn_of t (hall ks shown) asked) ls after

abbrev pub Done : {K : Type 0} → Terms K → Hall K → Hall K → Option Asked → Type 0
Done t before after asked = Does t (lots_in before) (lots_in after) (bits_in before) (bits_in after) asked

-- Where there was memory for it, the reply of that turn is written behind what was there.
abbrev pub Said : {K T E : Type 0} → Terms K → List K → List Bool → Option Asked → Result T E → List ℕ → List ℕ → Type 0
Said {K} t ks bits asked r before after = (shown : Option (List K)) → Stands t.at_least shown bits → OnOk r (after ≡ before ++ (turn_of t (hall ks shown) asked).reply)

abbrev pub Replied : {K T E : Type 0} → Terms K → Hall K → Option Asked → Result T E → List ℕ → List ℕ → Type 0
Replied t h asked r before after = Said t (lots_in h) (bits_in h) asked r before after

-- What no line changes: whose memory a hall is over, how much there is, and the working numbers past the first 16,004.
pub record Kept {K : Type 0} (before after : Hall K) : Type 0 where
  pub places : length after.book.list.now ≡ length before.book.list.now
  pub lender : after.book.list.ghost_name ≡ before.book.list.ghost_name
  pub room : letter_room after.punch.bytes.now ≡ letter_room before.punch.bytes.now
  pub home : after.punch.bytes.ghost_name ≡ before.punch.bytes.ghost_name
  pub numbers : length after.work.now ≡ length before.work.now
  pub numbers_home : after.work.ghost_name ≡ before.work.ghost_name
  pub rest : drop 16004 after.work.now ≡ drop 16004 before.work.now
