-- Each call is a step of the ledger, and one call more of its run.
use Rattle.std.proofs.Common.{◌≡◌, ℕ, zero, suc, ◌+◌, ◌<◌, ◌≤◌, min, Bool, true, false, ltb, List, [], ◌∷◌, ◌++◌, map, length, get_or, take, drop, set, Err, Result, sym, refl, ap, ◌∙◌, arith}
use Rattle.std.proofs.lemmas.List.{at_drop_more, at_drop_all, length-map, map-set, get_or-map}
use Rattle.std.proofs.lemmas.Bool.{lt-ltb, le-ltb, cond-true, cond-false}
use Rattle.leaders.specs.Refusal.{Refusal, refusal}
use Rattle.casting.specs.Casts.{casting, cast_sheet}
use Rattle.ledger.specs.declared.call.BookCall.{BookCall}
use Rattle.ledger.specs.declared.call.BookCall.TheVariants.{Cast}
use Rattle.book.specs.Entries.{sheet_of}
use Rattle.ledger.specs.Ledger.{Terms, step, punched, step_of, Ledger, ledger, noted, after1, after}
use Rattle.book.proofs.Steps.{take_len}

module _ {K P : Type 0} (t : Terms K) (ks : List K) (room : P → ℕ) (bits : P → List Bool) (ps : List P) (rooms : map room ps ≡ t.rooms) (p w : ℕ) where
  pub no_punch : length ps ≤ p → step ks (map bits ps) (Err (refusal 0 [])) ≡ step_of t ks (map bits ps) (Cast p w)
  unfolding step_of
  no_punch past =
      let test : ltb p (length t.rooms) ≡ false = le-ltb _ _ (simp (← rooms, length-map) past) in
      sym (cond-false _ _ _ test)

  pub cast_step : (d q : P) (ps2 : List P) (r : Result ℕ Refusal) → p < length ps → d ≡ get_or ps p d → ps2 ≡ set ps p q →
      casting (bits q) r ≡ cast_sheet (sheet_of t.at_least ks) (length ks) (room d) (min w t.work) (bits d) → step ks (map bits ps2) r ≡ step_of t ks (map bits ps) (Cast p w)
  unfolding step_of
  cast_step d q ps2 r lt at is e =
      let test : ltb p (length t.rooms) ≡ true = lt-ltb _ _ (simp (← rooms, length-map) lt) in
      let room_is : get_or t.rooms p 0 ≡ room d = ap (λ z. get_or z p 0) (sym rooms) ∙ get_or-map room ps p d 0 lt ∙ ap room (sym at) in
      let bits_is : get_or (map bits ps) p [] ≡ bits d = get_or-map bits ps p d [] lt ∙ ap bits (sym at) in
      let set_is : map bits ps2 ≡ set (map bits ps) p (bits q) = ap (map bits) is ∙ map-set bits ps p q in
      rw set_is (ap (λ c. punched ks (map bits ps) p c) e ∙ rw (← room_is, ← bits_is) (sym (cond-true _ _ _ test)))

-- a call more, and the end
module _ {K : Type 0} (t : Terms K) (xs : List BookCall) (i : ℕ) where
  pub run_more : (d : BookCall) → i < length xs → (ks ls : List K) (bs cs : List (List Bool)) (rs ss : List (Result ℕ Refusal)) (a : Result ℕ Refusal) (was : Terms K) → was ≡ t → step ls cs a ≡ step_of was ks bs (get_or xs i d) → ss ≡ rs ++ a ∷ [] →
      after t (ledger ls cs ss) (drop (i + 1) xs) ≡ after t (ledger ks bs rs) (drop i xs)
  unfolding after after1
  run_more d lt ks ls bs cs rs ss a was same e pushed =
      ap (λ z. after t (ledger ls cs z) (drop (i + 1) xs)) pushed ∙ ap (λ s. after t (noted rs s) (drop (i + 1) xs)) (e ∙ ap (λ u. step_of u ks bs (get_or xs i d)) same) ∙ sym (at_drop_more (after t (ledger ks bs rs)) xs i d lt)

  pub run_all : length xs ≤ i → (l : Ledger K) → after t l (drop i xs) ≡ l
  unfolding after
  run_all past l = at_drop_all (after t l) xs i past

pub held_all : {K : Type 0} (ys : List K) (n : ℕ) (bs : List (List Bool)) (rs : List (Result ℕ Refusal)) (l : Ledger K) → ledger (take n ys) bs rs ≡ l → ledger (take (length l.lots) ys) bs rs ≡ l
held_all ys n bs rs l e = ap (λ z. ledger z bs rs) (take_len ys n (length l.lots) (ap (λ z. length z.lots) (sym e))) ∙ e

set_same : {X : Type 0} (xs : List X) (i : ℕ) (d : X) → i < length xs → set xs i (get_or xs i d) ≡ xs
set_same [] i d lt = refl
set_same (x ∷ xs) zero d lt = refl
set_same (x ∷ xs) (suc i) d lt = ap (λ ys. x ∷ ys) (set_same xs i d (omega arith))

pub rooms_kept : {P : Type 0} (room : P → ℕ) (ps : List P) (p : ℕ) (d q : P) → p < length ps → d ≡ get_or ps p d → room q ≡ room d → map room (set ps p q) ≡ map room ps
rooms_kept room ps p d q lt at e =
    map-set room ps p q ∙ ap (λ z. set (map room ps) p z) (e ∙ ap room at ∙ sym (get_or-map room ps p d 0 lt)) ∙ set_same (map room ps) p 0 (simp length-map lt)

-- lists that agree from m on, with the same list behind, agree from any later place on
pub drop_joined : {X : Type 0} (m k : ℕ) (xs ys zs : List X) → length xs ≡ length ys → m ≤ k → drop m xs ≡ drop m ys → drop k (xs ++ zs) ≡ drop k (ys ++ zs)
drop_joined zero k xs ys zs n h e = ap (λ ws. drop k (ws ++ zs)) e
drop_joined (suc m) zero xs ys zs n h e = absurd (omega arith)
drop_joined (suc m) (suc k) [] [] zs n h e = refl
drop_joined (suc m) (suc k) [] (y ∷ ys) zs n h e = absurd (omega arith)
drop_joined (suc m) (suc k) (x ∷ xs) [] zs n h e = absurd (omega arith)
drop_joined (suc m) (suc k) (x ∷ xs) (y ∷ ys) zs n h e = drop_joined m k xs ys zs (omega arith) (omega arith) e
