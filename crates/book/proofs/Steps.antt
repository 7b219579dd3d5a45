-- What a book does to its list is the ledger's entry.
use Rattle.std.proofs.Common.{◌≡◌, ℕ, zero, suc, ◌+◌, ◌-◌, ◌<◌, ◌≤◌, true, ltb, List, [], ◌∷◌, ◌++◌, length, take, drop, set, Some, Ok, Option, sym, refl, ap, ◌∙◌, zero-le, add-one, arith}
use borrow.Rule.Slice.PartMut.{put_mid, post_of}
use Rattle.std.specs.List.{remove}
use Rattle.std.proofs.lemmas.List.{length-take, length-drop, length-append, append_assoc, take_all, take_at, take-take, take_more_set, drop-drop}
use Rattle.std.proofs.lemmas.Slice.{between_is}
use Rattle.std.proofs.lemmas.Bool.{lt-ltb, cond-true}
use Rattle.std.proofs.lemmas.Bool.Decides.{nat_tests}
use Rattle.book.specs.Entries.{entry, room_for, is_lot, add_key, set_key, strike_lot}

is_lot_lem : (i n : ℕ) → 1 ≤ i → i ≤ n → is_lot i n ≡ true
is_lot_lem i n h k = grind (arith, nat_tests)

module _ {K : Type 0} where
  same : {ks ls : List K} {m n : ℕ} → ks ≡ ls → m ≡ n → entry ks (Ok m) ≡ entry ls (Ok n)
  same e f = rw (e, f)

  take_of_set : (n : ℕ) (xs : List K) (i : ℕ) (k : K) → take n (set xs i k) ≡ set (take n xs) i k
  take_of_set zero xs i k = refl
  take_of_set (suc n) [] i k = refl
  take_of_set (suc n) (x ∷ xs) zero k = refl
  take_of_set (suc n) (x ∷ xs) (suc i) k = ap (λ ys. x ∷ ys) (take_of_set n xs i k)

  -- the first m, where there are no more among the first n
  pub take_len : (xs : List K) (n m : ℕ) → m ≡ length (take n xs) → take m xs ≡ take n xs
  take_len [] n m e = take_all m [] zero-le ∙ sym (take_all n [] zero-le)
  take_len (x ∷ xs) zero m e = rw e
  take_len (x ∷ xs) (suc n) m e = rw e (ap (λ ys. x ∷ ys) (take_len xs n _ refl))

  -- the list after the lots behind a place have moved down
  pub closed : (xs ps : List K) (a n : ℕ) → a < n → n ≤ length xs → ps ≡ drop 1 (take (n - a) (drop a xs)) ++ take 1 (take (n - a) (drop a xs)) → take (n - 1) (put_mid a (n - a) xs ps) ≡ remove (take n xs) a
  closed xs ps a n lt le e =
      let p : List K = take a xs in
      let m : List K = take (n - a) (drop a xs) in
      let rest : List K = post_of a (n - a) xs in
      let len : length (p ++ drop 1 m) ≡ n - 1 = simp (length-append, length-drop, length-take) (omega arith) in
      let regrouped : p ++ ((drop 1 m ++ take 1 m) ++ rest) ≡ (p ++ drop 1 m) ++ (take 1 m ++ rest) = simp append_assoc in
      let part : drop 1 m ≡ drop (suc a) (take n xs) = ap (drop 1) (between_is xs a n) ∙ drop-drop 1 a (take n xs) ∙ ap (λ k. drop k (take n xs)) (add-one a) in
      rw (e, regrouped, take_at (p ++ drop 1 m) (take 1 m ++ rest) (n - 1) len, part, take-take a n xs (omega arith))

  module _ (xs ys : List K) (most n : ℕ) (len : n ≡ length (take most xs)) where
    pub add_put : (m : ℕ) (k : K) (o : Option K) → Some k ≡ o → n < room_for (length xs) → m ≡ n + 1 → ys ≡ set xs n k → entry (take m ys) (Ok (n + 1)) ≡ add_key (room_for (length xs)) (take most xs) o
    add_put m k o e few is w =
        let test : ltb (length (take most xs)) (room_for (length xs)) ≡ true = lt-ltb _ _ (omega arith) in
        rw (← e, is, w) (same (take_more_set xs n k (omega arith) ∙ ap (λ zs. zs ++ k ∷ []) (take_len xs most n len)) (ap (λ z. z + 1) len) ∙ sym (cond-true _ _ _ test))

    pub strike_close : (m i : ℕ) → 1 ≤ i → i ≤ n → m ≡ n - 1 → take (n - 1) ys ≡ remove (take n xs) (i - 1) → entry (take m ys) (Ok (n - 1)) ≡ strike_lot (take most xs) i
    strike_close m i low high is w =
        let test : is_lot i (length (take most xs)) ≡ true = is_lot_lem _ _ low (omega arith) in
        same (ap (λ z. take z ys) is ∙ w ∙ ap (λ zs. remove zs (i - 1)) (take_len xs most n len)) (ap (λ k. k - 1) len) ∙ sym (cond-true _ _ _ test)

    pub new_key_put : (i : ℕ) (k : K) (o : Option K) → Some k ≡ o → 1 ≤ i → i ≤ n → ys ≡ set xs (i - 1) k → entry (take most ys) (Ok n) ≡ set_key (take most xs) i o
    new_key_put i k o e low high w =
        let test : is_lot i (length (take most xs)) ≡ true = is_lot_lem _ _ low (omega arith) in
        rw (← e, w) (same (take_of_set most xs (i - 1) k) len ∙ sym (cond-true _ _ _ test))
