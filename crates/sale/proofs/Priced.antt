-- A list of prices casts bits exactly when a new book of these prices does.
use Rattle.std.proofs.Common.{◌≡◌, ℕ, zero, suc, ◌+◌, ◌^◌, ◌<◌, ◌≤◌, Bool, true, ltb, ◌↔◌, List, [], ◌∷◌, ◌++◌, map, length, get_or, Some, None, Ok, Err, Option, sym, refl, ap, ◌∙◌, subst, arith}
use mathlib.Core.Path.{fun_ext}
use Rattle.std.specs.Option.{option_map}
use Rattle.std.proofs.lemmas.List.{length-map, length-append, append_assoc, append-nil}
use Rattle.std.proofs.lemmas.Bool.{lt-ltb, cond-true}
use Rattle.bits.proofs.Bitlists.{nth_map}
use Rattle.leaders.specs.Order.{Strict, key_of, leads_lot, beats, dearer}
use Rattle.leaders.specs.Sheet.{sheet}
use Rattle.leaders.specs.Refusal.{refusal}
use Rattle.leaders.proofs.Merging.{prices_strict}
use Rattle.keys.specs.declared.price.Price.{Price}
use Rattle.keys.specs.Prices.{price_at_least, price_of}
use Rattle.casting.specs.Casts.{Casting}
use Rattle.ledger.specs.declared.call.BookCall.TheVariants.{Cast}
use Rattle.book.specs.Entries.{Entry, entry, add_key, sheet_of}
use Rattle.ledger.specs.Ledger.{Terms, terms, step_of, Ledger, after1, after, blank}
use Rattle.book.proofs.Casts.{cast_fits}
use Rattle.board.specs.Pages.{CastBySome}
use Rattle.sale.specs.Promise.{price, add_price, price_book, BookCasts, CastByBook}
use Rattle.sale.proofs.Histories.{after_append}

-- adds of prices
adds : (t : Terms Price) (ps : List ℕ) (l : Ledger Price) → t.made ≡ price_of → length l.lots + length ps ≤ t.most → ((after t l (map add_price ps)).lots ≡ l.lots ++ map price ps) × ((after t l (map add_price ps)).bits ≡ l.bits)
unfolding after after1 step_of
adds t [] l m h = (sym (append-nil l.lots), refl)
adds t (p ∷ ps) l m h =
    let test : ltb (length l.lots) t.most ≡ true = lt-ltb _ _ (omega arith) in
    let is : (step_of t l.lots l.bits (add_price p)).lots ≡ l.lots ++ price p ∷ [] = ap (λ f. (add_key t.most l.lots (f (p ∷ []))).lots) m ∙ ap (λ (e : Entry Price). e.lots) (cond-true (ltb (length l.lots) t.most) (entry (l.lots ++ price p ∷ []) (Ok (length l.lots + 1))) (entry l.lots (Err (refusal 3 []))) test) in
    let more = adds t ps (after1 t l (add_price p)) m (omega (arith, ap length is, length-append l.lots (price p ∷ []))) in
    (more.0 ∙ ap (λ z. z ++ map price ps) is ∙ append_assoc l.lots (price p ∷ []) (map price ps), more.1)

-- prices as keys are ordered as the numbers are
key_of_lem : (ps : List ℕ) (i : ℕ) → key_of (map price ps) i ≡ option_map price (key_of ps i)
unfolding key_of
key_of_lem ps zero = refl
key_of_lem ps (suc i) = nth_map price ps i

leads_same : (x y : Option ℕ) (first : Bool) → leads_lot price_at_least (option_map price x) (option_map price y) first ≡ leads_lot dearer x y first
unfolding leads_lot
leads_same None None first = refl
leads_same None (Some y) first = refl
leads_same (Some x) None first = refl
leads_same (Some x) (Some y) first = refl

beats_same : (ps : List ℕ) → beats price_at_least (map price ps) ≡ beats dearer ps
unfolding beats
beats_same ps = fun_ext (λ i. fun_ext (λ j. ap (λ z. leads_lot price_at_least z (key_of (map price ps) j) (ltb i j)) (key_of_lem ps i) ∙ ap (λ z. leads_lot price_at_least (option_map price (key_of ps i)) z (ltb i j)) (key_of_lem ps j) ∙ leads_same (key_of ps i) (key_of ps j) (ltb i j)))

sheet_same : (ps : List ℕ) → sheet_of price_at_least (map price ps) ≡ sheet (beats dearer ps) (length ps)
sheet_same ps = ap (sheet (beats price_at_least (map price ps))) (length-map ps price) ∙ ap (λ b. sheet b (length ps)) (beats_same ps)

prices_ordered : (ps : List ℕ) → Strict (beats price_at_least (map price ps))
prices_ordered ps = subst Strict (sym (beats_same ps)) (prices_strict ps)

-- the cast of a book with these lots
module _ (ps : List ℕ) (few : length ps ≤ 4000) where
  abbrev on : Terms Price
  on = terms price_of price_at_least 4000 (14000 ∷ []) 16004

  abbrev added : Ledger Price
  added = after on (blank ([] ∷ [])) (map add_price ps)

  cast_step : (ks : List Price) (bs : List (List Bool)) → ks ≡ map price ps → bs ≡ [] ∷ [] → ((step_of on ks bs (Cast 0 16004)).lots ≡ map price ps) × ((step_of on ks bs (Cast 0 16004)).bits ≡ sheet_of price_at_least (map price ps) ∷ [])
  unfolding step_of
  cast_step ks bs e f =
      let h = cast_fits price_at_least (map price ps) (prices_ordered ps) [] (rw length-map few) in
      rw (e, f) (refl, ap (λ (c : Casting). c.bits ∷ []) h)

  pub book_is : ((price_book ps).lots ≡ map price ps) × ((price_book ps).bits ≡ sheet (beats dearer ps) (length ps) ∷ [])
  unfolding after after1
  book_is =
      let a = adds on ps (blank ([] ∷ [])) refl (omega arith) in
      let h = cast_step added.lots added.bits a.0 a.1 in
      let there : price_book ps ≡ after1 on added (Cast 0 16004) = after_append on (blank ([] ∷ [])) (map add_price ps) (Cast 0 16004 ∷ []) in
      (ap (λ (z : Ledger Price). z.lots) there ∙ h.0, ap (λ (z : Ledger Price). z.bits) there ∙ h.1 ∙ ap (λ z. z ∷ []) (sheet_same ps))

-- a list of prices casts bits exactly when a book of them does
pub book_casts : (bits : List Bool) (ps : List ℕ) → length ps ≤ 4000 → ((k : ℕ) → get_or ps k 0 < 2 ^ 32) → sheet (beats dearer ps) (length ps) ≡ bits → BookCasts bits ps
book_casts bits ps few fit e = record { few = few; fit = fit; lots = (book_is ps few).0; punched = (book_is ps few).1 ∙ ap (λ z. z ∷ []) e }

pub cast_by_book : (bits : List Bool) (n : ℕ) → CastBySome bits n ↔ CastByBook bits n
cast_by_book bits n = (
  λ (few, (ps, c)). (ps, c.many, book_casts bits ps (omega (arith, c.many)) c.fit (ap (sheet (beats dearer ps)) c.many ∙ c.cast)),
  λ (ps, many, c).
      let same : sheet (beats dearer ps) (length ps) ∷ [] ≡ bits ∷ [] = sym (book_is ps c.few).1 ∙ c.punched in
      (omega (arith, c.few), (ps, record { many = many; fit = c.fit; cast = ap (sheet (beats dearer ps)) (sym many) ∙ (cc) })),
)
