-- What is done at a hall is a turn of it: to a book, by a cast, and where nothing changes.
use Rattle.std.proofs.Common.{◌≡◌, ℕ, suc, ◌*◌, ◌≤◌, min, Bool, List, ◌++◌, length, drop, arith, length-take, IfOk, Some, None, Option, Result, sym, refl, ap, ◌∙◌, subst}
use Rattle.std.proofs.lemmas.Result.{IfOk-weaker}
use Rattle.bits.specs.Punching.{letter_room}
use Rattle.leaders.specs.Refusal.{Refusal}
use Rattle.casting.specs.Casts.{cast_sheet}
use Rattle.book.specs.Entries.{Entry, entry, room_for, sheet_of}
use Rattle.commands.specs.Asked.{Asked, cast}
use Rattle.replies.specs.Replies.{book_line, cast_line}
use Rattle.book.specs.declared.book.Book.{Book}
use Rattle.book.specs.Held.{keys_in}
use Rattle.hall.specs.declared.hall.Hall.{Hall}
use Rattle.hall.specs.Halls.{Terms, terms, Turn, hall, book_turn, turn_of, bits_after, Stands, Turned}
use Rattle.hall.specs.States.{terms_in, Does, Said, Kept}
use Rattle.hall.proofs.Turning.{drop_later, cast_lots, book_turned, cast_turned, cast_replied}

module _ {K : Type 0} (t : Terms K) (ks : List K) (bits : List Bool) (asked : Option Asked) where
  -- a call on the book
  module _ (q : Asked) (is : asked ≡ Some q) (e : Entry K) (turns : (shown : Option (List K)) → turn_of t (hall ks shown) (Some q) ≡ book_turn (hall ks shown) e) (reply : Result ℕ Refusal) where
    turned_so : (shown : Option (List K)) → book_turn (hall ks shown) e ≡ turn_of t (hall ks shown) asked
    turned_so shown = sym (ap (turn_of t (hall ks shown)) is ∙ turns shown)

    pub booked : {T E : Type 0} (ls : List K) (new_bits : List Bool) (r : Result T E) (out new : List ℕ) → bits_after t ks bits (Some q) ≡ bits → new_bits ≡ bits → entry ls reply ≡ e → IfOk r (λ _. new ≡ out ++ book_line reply) →
        Does t ks ls bits new_bits asked × Said t ks bits asked r out new
    booked ls new_bits r out new still same done said = (
      record {
        lots = ap (λ (z : Entry K). z.lots) done ∙ ap (λ (z : Turn K). z.after.lots) (turned_so None);
        bits = same ∙ sym still ∙ ap (bits_after t ks bits) (sym is);
        turned = λ shown st.
            subst (λ (z : Turn K). Turned t.at_least z ls new_bits) (turned_so shown)
            (subst (λ (z : List Bool). Turned t.at_least (book_turn (hall ks shown) e) ls z) (sym same)
            (book_turned t.at_least ks ls shown bits st e reply done));
      },
      λ shown st. IfOk-weaker r _ _ (λ _ w. w ∙ ap (λ (z : Entry K). out ++ book_line z.reply) done ∙ ap (λ (z : Turn K). out ++ z.reply) (turned_so shown)) said,
    )

  -- nothing changes but what is replied
  module _ (is : (shown : Option (List K)) → (turn_of t (hall ks shown) asked).after ≡ hall ks shown) where
    pub unchanged : bits_after t ks bits asked ≡ bits → Does t ks ks bits bits asked
    unchanged still =
        record {
          lots = sym (ap (λ z. z.lots) (is None));
          bits = sym still;
          turned = λ shown st. record {
            lots_are = sym (ap (λ z. z.lots) (is shown));
            stands = subst (λ z. Stands t.at_least z bits) (sym (ap (λ z. z.shown) (is shown))) st;
          };
        }

  -- a cast
  module _ (is : asked ≡ Some cast) where
    pub casted : (ls : List K) (new : List Bool) → length ks ≤ 4000 → ls ≡ ks → new ≡ (cast_sheet (sheet_of t.at_least ks) (length ks) t.room t.work bits).bits → Does t ks ls bits new asked
    unfolding turn_of bits_after
    casted ls new few same is_new =
        subst (λ (o : Option Asked). Does t ks ls bits new o) (sym is) (record {
          lots = same ∙ sym (cast_lots ks None _);
          bits = is_new;
          turned = λ shown st. cast_turned t.at_least ks ls shown bits st t.room t.work few same new is_new;
        })

    pub cast_said : {T E : Type 0} (r : Result T E) (out new : List ℕ) → IfOk r (λ _. new ≡ out ++ cast_line (cast_sheet (sheet_of t.at_least ks) (length ks) t.room t.work bits)) → Said t ks bits asked r out new
    unfolding turn_of
    cast_said r out new said shown st =
        subst (λ (o : Option Asked). IfOk r (λ _. new ≡ out ++ (turn_of t (hall ks shown) o).reply)) (sym is)
        (cast_replied t.at_least ks ks shown bits st t.room t.work r out new said)

-- what no line changes are the terms
pub terms_kept : {K : Type 0} (made : List ℕ → Option K) (at_least : K → K → Bool) (arity : ℕ) (before after : Hall K) → Kept before after → terms_in made at_least arity after ≡ terms_in made at_least arity before
terms_kept made at_least arity before after kept =
    ap (λ z. terms made at_least arity (room_for z) (letter_room after.punch.bytes.now) (length after.work.now)) kept.places
    ∙ ap (λ z. terms made at_least arity (room_for (length before.book.list.now)) z (length after.work.now)) kept.room
    ∙ ap (λ z. terms made at_least arity (room_for (length before.book.list.now)) (letter_room before.punch.bytes.now) z) kept.numbers

pub few_lots : {K : Type 0} (b : Book K) → length (keys_in b) ≤ 4000
few_lots b = omega (arith, length-take (min 4000 b.count) b.list.now)

-- the working numbers past 16,004 stay where those past a cast's do
pub cast_rest : {K : Type 0} (b : Book K) (old new : List ℕ) → drop (4 * suc (length (keys_in b))) new ≡ drop (4 * suc (length (keys_in b))) old → drop 16004 new ≡ drop 16004 old
cast_rest b old new same = drop_later (4 * suc (length (keys_in b))) 16004 new old (omega (arith, few_lots b)) same
