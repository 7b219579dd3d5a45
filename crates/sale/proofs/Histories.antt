-- What the ledger says of each call of a list: an accepted cast punches the sheet of the keys then.
use Rattle.std.proofs.Common.{◌≡◌, ℕ, suc, ◌+◌, ◌-◌, ◌*◌, ◌<◌, ◌≤◌, min, Bool, true, false, cond, ltb, List, [], ◌∷◌, ◌++◌, length, get_or, set, Some, None, Ok, Err, Option, Result, sym, refl, ap, ◌∙◌, arith}
use Rattle.std.specs.List.{remove}
use Rattle.std.proofs.lemmas.List.{length-set, length-append, length-take, length-drop, append_assoc, append-nil, get_or-set_same}
use Rattle.std.proofs.lemmas.Bool.{ltb-true}
use Rattle.leaders.specs.Refusal.{Refusal, refusal}
use Rattle.casting.specs.Casts.{Casting, casting, cast_sheet}
use Rattle.ledger.specs.declared.call.BookCall.{BookCall}
use Rattle.ledger.specs.declared.call.BookCall.TheVariants.{Add, Strike, NewKey, Cast}
use Rattle.book.specs.Entries.{entry, add_key, set_key, is_lot, sheet_of}
use Rattle.ledger.specs.Ledger.{Terms, Step, step, punched, step_of, Ledger, after1, after, blank}
use Rattle.board.proofs.Sittings.{split_same}
use Rattle.ledger.specs.Plays.{Play, ledger_at, ByTheLedger}
use Rattle.sale.specs.Promise.{CastAfter}

module _ {K : Type 0} (t : Terms K) where
  pub after_append : (l : Ledger K) (xs zs : List BookCall) → after t l (xs ++ zs) ≡ after t (after t l xs) zs
  unfolding after
  after_append l [] zs = refl
  after_append l (x ∷ xs) zs = after_append (after1 t l x) xs zs

  cast_bits : (ks : List K) (bs : List (List Bool)) (p : ℕ) (c : Casting) (r : Result ℕ Refusal) (v : Bool) → length (cond v (punched ks bs p c) (step ks bs r)).bits ≡ length bs
  cast_bits ks bs p c r true = length-set bs p c.bits
  cast_bits ks bs p c r false = refl

  step_bits : (ks : List K) (bs : List (List Bool)) (c : BookCall) → length (step_of t ks bs c).bits ≡ length bs
  unfolding step_of
  step_bits ks bs (Add f) = refl
  step_bits ks bs (Strike i) = refl
  step_bits ks bs (NewKey i f) = refl
  step_bits ks bs (Cast p w) = cast_bits ks bs p _ _ (ltb p (length t.rooms))

  after_bits : (l : Ledger K) (cs : List BookCall) → length (after t l cs).bits ≡ length l.bits
  unfolding after after1
  after_bits l [] = refl
  after_bits l (c ∷ cs) = after_bits (after1 t l c) cs ∙ step_bits l.lots l.bits c

  -- a ledger never has more lots than there is room for
  add_few : (ks : List K) (o : Option K) → length ks ≤ t.most → length (add_key t.most ks o).lots ≤ t.most
  add_few ks None h = h
  add_few ks (Some k) h = pick (ltb (length ks) t.most) refl
    where
      pick : (v : Bool) → ltb (length ks) t.most ≡ v → length (cond v (entry (ks ++ k ∷ []) (Ok (length ks + 1))) (entry ks (Err (refusal 3 [])))).lots ≤ t.most
      pick true e = let g = ltb-true (length ks) t.most e in simp length-append (omega arith)
      pick false e = h

  strike_few : (ks : List K) (i : ℕ) (v : Bool) (r s : Result ℕ Refusal) → length ks ≤ t.most → length (cond v (entry (remove ks (i - 1)) r) (entry ks s)).lots ≤ t.most
  strike_few ks i true r s h = simp (length-append, length-take, length-drop) (omega arith)
  strike_few ks i false r s h = h

  set_few : (ks : List K) (i : ℕ) (o : Option K) → length ks ≤ t.most → length (set_key ks i o).lots ≤ t.most
  set_few ks i None h = h
  set_few ks i (Some k) h = pick (is_lot i (length ks))
    where
      pick : (v : Bool) → length (cond v (entry (set ks (i - 1) k) (Ok (length ks))) (entry ks (Err (refusal 4 [])))).lots ≤ t.most
      pick true = simp length-set h
      pick false = h

  cast_lots : (ks : List K) (bs : List (List Bool)) (p : ℕ) (c : Casting) (r : Result ℕ Refusal) (v : Bool) → (cond v (punched ks bs p c) (step ks bs r)).lots ≡ ks
  cast_lots ks bs p c r true = refl
  cast_lots ks bs p c r false = refl

  step_few : (ks : List K) (bs : List (List Bool)) (c : BookCall) → length ks ≤ t.most → length (step_of t ks bs c).lots ≤ t.most
  unfolding step_of
  step_few ks bs (Add f) h = add_few ks _ h
  step_few ks bs (Strike i) h = strike_few ks i (is_lot i (length ks)) _ _ h
  step_few ks bs (NewKey i f) h = set_few ks i _ h
  step_few ks bs (Cast p w) h =
      let e = cast_lots ks bs p (cast_sheet (sheet_of t.at_least ks) (length ks) (get_or t.rooms p 0) (min w t.work) (get_or bs p [])) (Err (refusal 0 [])) (ltb p (length t.rooms)) in
      omega (arith, ap length e)

  pub after_few : (l : Ledger K) (cs : List BookCall) → length l.lots ≤ t.most → length (after t l cs).lots ≤ t.most
  unfolding after after1
  after_few l [] h = h
  after_few l (c ∷ cs) h = after_few (after1 t l c) cs (step_few l.lots l.bits c h)

  after_many : (l : Ledger K) (cs : List BookCall) → length (after t l cs).answers ≡ length l.answers + length cs
  unfolding after after1
  after_many l [] = omega arith
  after_many l (c ∷ cs) = after_many (after1 t l c) cs ∙ simp length-append (omega arith)

  after_says : (l : Ledger K) (cs : List BookCall) → (rs : List (Result ℕ Refusal)) × ((after t l cs).answers ≡ l.answers ++ rs)
  unfolding after after1
  after_says l [] = ([], sym (append-nil l.answers))
  after_says l (c ∷ cs) = let a = (step_of t l.lots l.bits c).answer in let (rs, e) = after_says (after1 t l c) cs in (a ∷ rs, e ∙ append_assoc l.answers (a ∷ []) rs)

  -- a cast that is answered by a length is accepted, and punches the sheet
  cast_by : (ks : List K) (bs : List (List Bool)) (p n m : ℕ) (xs s : List Bool) (x y z : Refusal) (u v w : Bool) → let got : Step K = cond u (punched ks bs p (cond v (casting xs (Err x)) (cond w (casting xs (Err y)) (casting s (Ok m))))) (step ks bs (Err z)) in
      got.answer ≡ Ok n → (got ≡ step ks (set bs p s) (Ok m)) × (u ≡ true)
  cast_by ks bs p n m xs s x y z false v w e = let z : ◌≡◌ {A = ℕ} 0 1 = cc in absurd (omega arith)
  cast_by ks bs p n m xs s x y z true true w e = let z : ◌≡◌ {A = ℕ} 0 1 = cc in absurd (omega arith)
  cast_by ks bs p n m xs s x y z true false true e = let z : ◌≡◌ {A = ℕ} 0 1 = cc in absurd (omega arith)
  cast_by ks bs p n m xs s x y z true false false e = (refl, refl)

  cast_done : (ks : List K) (bs : List (List Bool)) (p w n : ℕ) → (step_of t ks bs (Cast p w)).answer ≡ Ok n → (step_of t ks bs (Cast p w) ≡ step ks (set bs p (sheet_of t.at_least ks)) (Ok (length (sheet_of t.at_least ks)))) × (p < length t.rooms)
  unfolding step_of
  cast_done ks bs p w n e =
      let s = sheet_of t.at_least ks in
      let h = cast_by ks bs p n (length s) (get_or bs p []) s (refusal 5 []) (refusal 6 (length s ∷ [])) (refusal 0 []) (ltb p (length t.rooms)) (ltb (min w t.work) (4 * suc (length ks))) (ltb (get_or t.rooms p 0) (length s)) e in
      (h.0, ltb-true p (length t.rooms) h.1)

module _ {K : Type 0} (p : Play K) (even : length p.before ≡ length p.terms.rooms) (by : ByTheLedger p) (f g : List BookCall) (n : ℕ) (c : CastAfter p f n g) where
  whole_is : ledger_at p p.calls ≡ after p.terms (after1 p.terms (ledger_at p f) (Cast n c.numbers)) g
  unfolding after
  whole_is = ap (ledger_at p) c.calls_are ∙ after_append p.terms (blank p.before) f (Cast n c.numbers ∷ g)

  answer_is : (step_of p.terms (ledger_at p f).lots (ledger_at p f).bits (Cast n c.numbers)).answer ≡ Ok c.size
  unfolding after1
  answer_is =
      let l = ledger_at p f in
      let a = (step_of p.terms l.lots l.bits (Cast n c.numbers)).answer in
      let (rs, e) = after_says p.terms (after1 p.terms l (Cast n c.numbers)) g in
      let said : p.answers ≡ l.answers ++ a ∷ rs = ap (λ (z : Ledger K). z.answers) (by ∙ whole_is) ∙ e ∙ append_assoc l.answers (a ∷ []) rs in
      let many : length l.answers ≡ length f = after_many p.terms (blank p.before) f ∙ omega arith in
      sym (split_same c.earlier l.answers c.later rs (Ok c.size) a (c.in_step ∙ sym many) (sym c.answers_are ∙ said))

  -- the punch then holds the sheet of the keys, which the cast leaves as they are
  pub cast_is : ((ledger_at p (f ++ Cast n c.numbers ∷ [])).lots ≡ (ledger_at p f).lots) × (get_or (ledger_at p (f ++ Cast n c.numbers ∷ [])).bits n [] ≡ sheet_of p.terms.at_least (ledger_at p f).lots)
  unfolding after after1
  cast_is =
      let l = ledger_at p f in
      let s = sheet_of p.terms.at_least l.lots in
      let h = cast_done p.terms l.lots l.bits n c.numbers c.size answer_is in
      let there : ledger_at p (f ++ Cast n c.numbers ∷ []) ≡ after1 p.terms l (Cast n c.numbers) = after_append p.terms (blank p.before) f (Cast n c.numbers ∷ []) in
      let within : n < length l.bits = omega (arith, h.1, after_bits p.terms (blank p.before) f, even) in
      (ap (λ (z : Ledger K). z.lots) there ∙ ap (λ (z : Step K). z.lots) h.0, ap (λ (z : Ledger K). get_or z.bits n []) there ∙ ap (λ (z : Step K). get_or z.bits n []) h.0 ∙ get_or-set_same l.bits n s [] within)

-- a list that ends in an accepted cast leaves the sheet of its lots in that punch
pub ends_in : {K : Type 0} (p : Play K) → length p.before ≡ length p.terms.rooms → ByTheLedger p → (f : List BookCall) (n : ℕ) → CastAfter p f n [] → get_or p.bits n [] ≡ sheet_of p.terms.at_least (ledger_at p p.calls).lots
ends_in {K} p even by f n c =
    let h = cast_is p even by f [] n c in
    let same : ledger_at p p.calls ≡ ledger_at p (f ++ Cast n c.numbers ∷ []) = ap (ledger_at p) c.calls_are in
    ap (λ (z : Ledger K). get_or z.bits n []) (by ∙ same) ∙ h.1 ∙ ap (sheet_of p.terms.at_least) (sym h.0 ∙ ap (λ (z : Ledger K). z.lots) (sym same))
