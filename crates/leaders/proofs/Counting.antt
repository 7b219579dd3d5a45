-- The lengths of a sheet's parts, by counting lots, children, ancestors and right siblings.
use Rattle.std.proofs.Common.{◌≡◌, ℕ, zero, suc, ◌+◌, ◌-◌, ◌*◌, ◌<◌, ◌≤◌, Bool, true, false, cond, ◌&&◌, ◌||◌, eqb, ltb, List, map, length, sym, refl, ap, ◌∙◌, subst, inl, inr, arith, length-append}
use Rattle.std.proofs.lemmas.List.{length-map}
use Rattle.std.proofs.lemmas.Bool.{cases_Bool, cases_eq, cases_lt, cases_order, eq-eqb, ne_eqb, lt-ltb, le-ltb}
use Rattle.std.proofs.lemmas.Bool.Decides.{nat_tests}
use Rattle.leaders.specs.Order.{Strict, Best}
use Rattle.leaders.specs.Sheet.{parent, tally, spread, ranked, children, unary, brackets, is_best, in_l, in_r, full_word, spine_of, sheet}
use Rattle.leaders.specs.Theorems.{path_up, lefts, lone, siblings_of, SheetLengths}
use Rattle.leaders.proofs.Trees.{asym, has_a_tree, trees_are_wellformed}
use Rattle.leaders.proofs.Lengths.{unary_length, drop_last_length, codes_are_short}
use Rattle.leaders.proofs.Sheets.{InL, LFromTest, RFromTest, test_from_L, best_from_test, test_from_best, ranked_length, Highest, highest_is, sheet_is_code}
use Rattle.leaders.proofs.Promises.{r_is_children}

-- counting

abbrev one : Bool → ℕ
one true = 1
one false = 0

tally_one : (f : ℕ → Bool) (i n : ℕ) → tally f i (suc n) ≡ one (f i) + tally f (suc i) n
unfolding tally
tally_one f i n = pick (f i) (tally f (suc i) n)
  where
    pick : (c : Bool) (m : ℕ) → cond c (suc m) m ≡ one c + m
    pick true m = omega arith
    pick false m = omega arith

-- where one test passes exactly when one of two others does, the counts add up
tally_add : (f g h : ℕ → Bool) (i n : ℕ) → ((m : ℕ) → i ≤ m → m < i + n → one (h m) ≡ one (f m) + one (g m)) → tally h i n ≡ tally f i n + tally g i n
unfolding tally
tally_add f g h i zero e = refl
tally_add f g h i (suc n) e =
    omega (arith, tally_one f i n, tally_one g i n, tally_one h i n, e i (omega arith) (omega arith), tally_add f g h (suc i) n (λ m p q. e m (omega arith) (omega arith)))

tally_same : (f g : ℕ → Bool) (i n : ℕ) → ((m : ℕ) → i ≤ m → m < i + n → f m ≡ g m) → tally f i n ≡ tally g i n
unfolding tally
tally_same f g i zero e = refl
tally_same f g i (suc n) e = rw (e i (omega arith) (omega arith), tally_same f g (suc i) n (λ m p q. e m (omega arith) (omega arith)))

tally_none : (f : ℕ → Bool) (i n : ℕ) → ((m : ℕ) → i ≤ m → m < i + n → f m ≡ false) → tally f i n ≡ 0
unfolding tally
tally_none f i zero e = refl
tally_none f i (suc n) e = rw (e i (omega arith) (omega arith)) (tally_none f (suc i) n (λ m p q. e m (omega arith) (omega arith)))

tally_all : (f : ℕ → Bool) (i n : ℕ) → ((m : ℕ) → i ≤ m → m < i + n → f m ≡ true) → tally f i n ≡ n
unfolding tally
tally_all f i zero e = refl
tally_all f i (suc n) e = rw (e i (omega arith) (omega arith)) (ap suc (tally_all f (suc i) n (λ m p q. e m (omega arith) (omega arith))))

tally_split : (f : ℕ → Bool) (i m n : ℕ) → tally f i (m + n) ≡ tally f i m + tally f (i + m) n
unfolding tally
tally_split f i zero n = let e : 0 + n ≡ n = omega arith in let g : i + 0 ≡ i = omega arith in rw (e, g) (omega arith)
tally_split f i (suc m) n =
    let e : suc m + n ≡ suc (m + n) = omega arith in
    let g : suc i + m ≡ i + suc m = omega arith in
    ap (tally f i) e ∙ omega (arith, tally_one f i (m + n), tally_one f i m, tally_split f (suc i) m n, ap (λ z. tally f z n) g)

tally_last : (f : ℕ → Bool) (i n : ℕ) → tally f i (suc n) ≡ tally f i n + one (f (i + n))
unfolding tally
tally_last f i n =
    let e : suc n ≡ n + 1 = omega arith in
    ap (tally f i) e ∙ tally_split f i n 1 ∙ omega (arith, tally_one f (i + n) 0)

-- sums

total : (ℕ → ℕ) → ℕ → ℕ → ℕ
total g i zero = 0
total g i (suc n) = g i + total g (suc i) n

total_last : (g : ℕ → ℕ) (i n : ℕ) → total g i (suc n) ≡ total g i n + g (i + n)
unfolding total
total_last g i zero = let e : i + 0 ≡ i = omega arith in omega (arith, ap g e)
total_last g i (suc n) = let e : suc i + n ≡ i + suc n = omega arith in omega (arith, total_last g (suc i) n, ap g e)

spread_length : (w : ℕ → List Bool) (i n : ℕ) → length (spread w i n) ≡ total (λ q. length (w q)) i n
unfolding spread total
spread_length w i zero = refl
spread_length w i (suc n) = length-append (w i) (spread w (suc i) n) ∙ omega (arith, spread_length w (suc i) n)

module _ (b : ℕ → ℕ → Bool) (s : Strict b) where
  parent_is : (k : ℕ) → Highest b k (k - 1) (parent b k)
  unfolding parent
  parent_is k = highest_is b k (k - 1)

  parent_less : (k : ℕ) → 1 ≤ k → parent b k < k
  parent_less k h = omega (arith, (parent_is k).upto)

  parent_beats : (k : ℕ) → 1 ≤ parent b k → b (parent b k) k ≡ true
  parent_beats k h = elim (parent_is k).beats [ inl e ↦ absurd (omega arith) | inr e ↦ e ]

  -- a lot beats the lots between its parent and itself
  between : (k m : ℕ) → parent b k < m → m < k → b k m ≡ true
  between k m h g = s.total m k (omega arith) ((parent_is k).none m h (omega arith))

  -- ancestors: the lots that are best from themselves to k
  ancestors : ℕ → ℕ
  ancestors k = tally (λ i. is_best b i k i) 1 k

  best_not : (i j k : ℕ) → (Best b i j k → ⊥) → is_best b i j k ≡ false
  best_not i j k h = elim (cases_Bool (is_best b i j k)) [ inl e ↦ absurd (h (best_from_test b i j k e)) | inr e ↦ e ]

  best_alone : (k : ℕ) → is_best b k k k ≡ true
  best_alone k = test_from_best b k k k (record { from = omega arith; upto = omega arith; over = λ m u v d. absurd (d (omega arith)) })

  -- the lots that are best up to k are those that stay so, and those of L(k + 1)
  kept_or_left : (k i : ℕ) → 1 ≤ i → i ≤ k → one (is_best b i k i) ≡ one (in_l b (suc k) i) + one (is_best b i (suc k) i)
  kept_or_left k i h g = elim (cases_Bool (is_best b i k i)) [
    | inl e ↦ elim (cases_Bool (b i (suc k))) [
      | inl f ↦ stays (best_from_test b i k i e) f
      | inr f ↦ leaves (best_from_test b i k i e) (s.total i (suc k) (omega arith) f)
    ]
    | inr e ↦ never e
  ]
    where
      low : suc k - 1 ≡ k
      low = omega arith

      not_left : (InL b (suc k) i → ⊥) → in_l b (suc k) i ≡ false
      not_left n = elim (cases_Bool (in_l b (suc k) i)) [ inl e ↦ absurd (n (LFromTest b (suc k) i e)) | inr e ↦ e ]

      stays : Best b i k i → b i (suc k) ≡ true → one (is_best b i k i) ≡ one (in_l b (suc k) i) + one (is_best b i (suc k) i)
      stays h f =
          let p : is_best b i (suc k) i ≡ true = test_from_best b i (suc k) i (record {
            from = omega arith;
            upto = omega arith;
            over = λ m u v d. elim (cases_eq m (suc k)) [ inl q ↦ rw q f | inr q ↦ h.over m u (omega arith) d ];
          }) in
          let q = not_left (λ l. asym b s i (suc k) f (l.over.over i (omega arith) (omega arith) (omega arith))) in
          let r = test_from_best b i k i h in
          rw (p, q, r)

      leaves : Best b i k i → b (suc k) i ≡ true → one (is_best b i k i) ≡ one (in_l b (suc k) i) + one (is_best b i (suc k) i)
      leaves h f =
          let p = best_not i (suc k) i (λ a. asym b s (suc k) i f (a.over (suc k) (omega arith) (omega arith) (omega arith))) in
          let q = test_from_L b (suc k) i (record {
            less = omega arith;
            over = record { from = omega arith; upto = omega arith; over = λ m u v d. elim (cases_eq m i) [ inl q ↦ rw q f | inr q ↦ s.transitive (suc k) i m f (h.over m u (omega arith) q) ] };
            next = subst (λ j. Best b i j i) (sym low) h;
          }) in
          let r = test_from_best b i k i h in
          rw (p, q, r)

      never : is_best b i k i ≡ false → one (is_best b i k i) ≡ one (in_l b (suc k) i) + one (is_best b i (suc k) i)
      never e =
          let clash : Best b i k i → ⊥ = λ h. let r = test_from_best b i k i h in let z : ◌≡◌ {A = ℕ} 0 1 = cc in omega arith in
          let p = best_not i (suc k) i (λ a. clash (record { from = omega arith; upto = omega arith; over = λ m u v d. a.over m u (omega arith) d })) in
          let q = not_left (λ l. clash (subst (λ j. Best b i j i) low l.next)) in
          rw (p, q, e)

  lefts_step : (n k : ℕ) → suc k ≤ n → lefts b n (suc k) + ancestors (suc k) ≡ 1 + ancestors k
  unfolding ancestors
  lefts_step n k h =
      let e : k + (n - k) ≡ n = omega arith in
      let cut : lefts b n (suc k) ≡ tally (in_l b (suc k)) 1 k =
      ap (tally (in_l b (suc k)) 1) (sym e) ∙ tally_split (in_l b (suc k)) 1 k (n - k)
      ∙ omega (arith, tally_none (in_l b (suc k)) (1 + k) (n - k) (λ m u v. elim (cases_Bool (in_l b (suc k) m)) [ inl g ↦ absurd (omega (arith, (LFromTest b (suc k) m g).less)) | inr g ↦ g ])) in
      let both = tally_add (in_l b (suc k)) (λ i. is_best b i (suc k) i) (λ i. is_best b i k i) 1 k (λ m u v. kept_or_left k m u (omega arith)) in
      let last = tally_last (λ i. is_best b i (suc k) i) 1 k in
      let itself : is_best b (1 + k) (suc k) (1 + k) ≡ true = ap (λ z. is_best b z (suc k) z) (let g : 1 + k ≡ suc k = omega arith in g) ∙ best_alone (suc k) in
      omega (arith, cut, both, last, ap one itself)

  lefts_total : (n m : ℕ) → m ≤ n → total (lefts b n) 1 m + ancestors m ≡ m
  unfolding total ancestors tally
  lefts_total n zero h = refl
  lefts_total n (suc m) h =
      let e : 1 + m ≡ suc m = omega arith in
      omega (arith, total_last (lefts b n) 1 m, lefts_total n m (omega arith), lefts_step n m h, ap (lefts b n) e)

  -- a lot's ancestors are itself and those of its parent
  ancestors_up : (k : ℕ) → 1 ≤ k → ancestors k ≡ 1 + ancestors (parent b k)
  unfolding ancestors
  ancestors_up k h =
      let p = parent b k in
      let f : ℕ → Bool = λ i. is_best b i k i in
      let q = k - p - 1 in
      let below = parent_less k h in
      let e : p + suc q ≡ k = omega arith in
      let same = tally_same f (λ i. is_best b i p i) 1 p (λ m u v. upto_parent m u (omega arith)) in
      let none = tally_none f (1 + p) q (λ m u v. best_not m k m (λ a. let x = a.over k (omega arith) (omega arith) (omega arith) in let y = between k m (omega arith) (omega arith) in asym b s m k x y)) in
      let itself : f (1 + p + q) ≡ true = ap f (let g : 1 + p + q ≡ k = omega arith in g) ∙ best_alone k in
      ap (tally f 1) (sym e) ∙ tally_split f 1 p (suc q) ∙ omega (arith, same, tally_last f (1 + p) q, none, ap one itself)
    where
      p : ℕ
      p = parent b k

      upto_parent : (i : ℕ) → 1 ≤ i → i ≤ parent b k → is_best b i k i ≡ is_best b i (parent b k) i
      upto_parent i u v = elim (cases_Bool (is_best b i (parent b k) i)) [
        | inl e ↦ test_from_best b i k i (longer (best_from_test b i (parent b k) i e)) ∙ sym e
        | inr e ↦ best_not i k i (λ a. shorter e a) ∙ sym e
      ]
        where
          below : parent b k < k
          below = parent_less k h

          over_k : Best b i (parent b k) i → b i k ≡ true
          over_k a = elim (cases_eq i (parent b k)) [
            | inl e ↦ rw e (parent_beats k (omega arith))
            | inr e ↦ s.transitive i (parent b k) k (a.over (parent b k) v (omega arith) (λ z. e (sym z))) (parent_beats k (omega arith))
          ]

          longer : Best b i (parent b k) i → Best b i k i
          longer a = record {
            from = omega arith;
            upto = omega (arith, below);
            over = λ m x y d. elim (cases_lt (parent b k) m) [
              | inl z ↦ elim (cases_eq m k) [ inl w ↦ rw w (over_k a) | inr w ↦ s.transitive i k m (over_k a) (between k m z (omega arith)) ]
              | inr z ↦ a.over m x z d
            ];
          }

          shorter : is_best b i (parent b k) i ≡ false → Best b i k i → ⊥
          shorter e a =
              let r = test_from_best b i (parent b k) i (record { from = omega arith; upto = v; over = λ m x y d. a.over m x (omega (arith, below)) d }) in
              let z : ◌≡◌ {A = ℕ} 0 1 = cc in omega arith

  path_length : (most k : ℕ) → k ≤ most → length (path_up b most k) ≡ ancestors k
  unfolding path_up ancestors tally
  path_length zero zero h = refl
  path_length zero (suc k) h = absurd (omega arith)
  path_length (suc most) zero h = refl
  path_length (suc most) (suc k) h =
      let below = parent_less (suc k) (omega arith) in
      ap suc (path_length most (parent b (suc k)) (omega arith)) ∙ omega (arith, ancestors_up (suc k) (omega arith))

  -- right siblings along a path: the lots above k whose parents are below k
  beyond : ℕ → ℕ → ℕ
  beyond n k = tally (λ m. ltb k m && ltb (parent b m) k) 1 n

  sibling_or_beyond : (k m : ℕ) → 1 ≤ k → 1 ≤ m →
      one (ltb k m && ltb (parent b m) k) ≡ one (ltb k m && eqb (parent b m) (parent b k)) + one (ltb (parent b k) m && ltb (parent b m) (parent b k))
  sibling_or_beyond k m h g =
      let below = parent_less k h in
      elim (cases_lt k m) [
        | inl e ↦ elim (cases_order (parent b m) (parent b k)) [
          | inl f ↦ rw (lt-ltb k m e, eq-eqb (parent b m) (parent b k) f, lt-ltb (parent b k) m (omega arith), lt-ltb (parent b m) k (omega arith), le-ltb (parent b m) (parent b k) (omega arith))
          | inr (inl f) ↦ rw (lt-ltb k m e, ne_eqb (parent b m) (parent b k) (omega arith), lt-ltb (parent b k) m (omega arith), lt-ltb (parent b m) k (omega arith), lt-ltb (parent b m) (parent b k) f)
          | inr (inr f) ↦
              let far : k ≤ parent b m = elim (cases_lt (parent b m) k) [
                | inr z ↦ z
                | inl z ↦ absurd (asym b s (parent b m) m (parent_beats m (omega arith)) (s.transitive m k (parent b m) (between m k z e) (between k (parent b m) f z)))
              ] in
              rw (lt-ltb k m e, ne_eqb (parent b m) (parent b k) (omega arith), lt-ltb (parent b k) m (omega arith), le-ltb (parent b m) k far, le-ltb (parent b m) (parent b k) (omega arith))
        ]
        | inr e ↦ elim (cases_lt (parent b k) m) [
          | inr f ↦ rw (le-ltb k m e, le-ltb (parent b k) m f)
          | inl f ↦
              let high : parent b k ≤ parent b m = elim (cases_lt (parent b m) (parent b k)) [
                | inr z ↦ z
                | inl z ↦
                    let over_k = parent_beats k (omega arith) in
                    let over-m : b (parent b k) m ≡ true = elim (cases_eq m k) [ inl w ↦ rw w over_k | inr w ↦ s.transitive (parent b k) k m over_k (between k m f (omega arith)) ] in
                    let not-over = (parent_is m).none (parent b k) z (omega arith) in
                    absurd (let y : ◌≡◌ {A = ℕ} 0 1 = cc in omega arith)
              ] in
              rw (le-ltb k m e, le-ltb (parent b m) (parent b k) high, lt-ltb (parent b k) m f)
        ]
      ]

  siblings_are : (n most k : ℕ) → k ≤ most → siblings_of b n (path_up b most k) ≡ beyond n k
  unfolding path_up siblings_of beyond
  siblings_are n zero zero h = sym (tally_none (λ m. ltb 0 m && ltb (parent b m) 0) 1 n (λ m u v. grind (arith, nat_tests)))
  siblings_are n zero (suc k) h = absurd (omega arith)
  siblings_are n (suc most) zero h = sym (tally_none (λ m. ltb 0 m && ltb (parent b m) 0) 1 n (λ m u v. grind (arith, nat_tests)))
  siblings_are n (suc most) (suc k) h =
      let below = parent_less (suc k) (omega arith) in
      let p = parent b (suc k) in
      omega (arith, siblings_are n most p (omega arith), tally_add (λ m. ltb (suc k) m && eqb (parent b m) p) (λ m. ltb p m && ltb (parent b m) p) (λ m. ltb (suc k) m && ltb (parent b m) (suc k)) 1 n (λ m u v. sibling_or_beyond (suc k) m (omega arith) u))

  -- children
  children_below : (n k : ℕ) → total (children b n) 0 k ≡ tally (λ m. ltb (parent b m) k) 1 n
  unfolding total children
  children_below n zero = sym (tally_none (λ m. ltb (parent b m) 0) 1 n (λ m u v. grind (arith, nat_tests)))
  children_below n (suc k) =
      let e : 0 + k ≡ k = omega arith in
      omega (
        arith,
        total_last (children b n) 0 k,
        children_below n k,
        ap (children b n) e,
        tally_add (λ m. ltb (parent b m) k) (λ m. eqb (parent b m) k) (λ m. ltb (parent b m) (suc k)) 1 n (λ m u v. elim (cases_order (parent b m) k) [
          | inl f ↦ rw (lt-ltb (parent b m) (suc k) (omega arith), le-ltb (parent b m) k (omega arith), eq-eqb (parent b m) k f)
          | inr (inl f) ↦ rw (lt-ltb (parent b m) (suc k) (omega arith), lt-ltb (parent b m) k f, ne_eqb (parent b m) k (omega arith))
          | inr (inr f) ↦ rw (le-ltb (parent b m) (suc k) (omega arith), le-ltb (parent b m) k (omega arith), ne_eqb (parent b m) k (omega arith))
        ]),
      )

  children_upto : (n k : ℕ) → k ≤ n → total (children b n) 0 k ≡ k + beyond n k
  unfolding beyond
  children_upto n k h =
      let g : ℕ → Bool = λ m. ltb k m && ltb (parent b m) k in
      let f : ℕ → Bool = λ m. ltb m (suc k) in
      let e : k + (n - k) ≡ n = omega arith in
      let first : tally f 1 n ≡ k =
      ap (tally f 1) (sym e) ∙ tally_split f 1 k (n - k)
      ∙ omega (arith, tally_all f 1 k (λ m u v. lt-ltb m (suc k) (omega arith)), tally_none f (1 + k) (n - k) (λ m u v. le-ltb m (suc k) (omega arith))) in
      children_below n k ∙ omega (
        arith,
        first,
        tally_add f g (λ m. ltb (parent b m) k) 1 n (λ m u v. elim (cases_lt k m) [
          | inl z ↦ rw (lt-ltb k m z, le-ltb m (suc k) (omega arith)) (grind (arith, nat_tests))
          | inr z ↦ let below = parent_less m u in rw (le-ltb k m z, lt-ltb m (suc k) (omega arith), lt-ltb (parent b m) k (omega arith))
        ]),
      )

  children_all : (n : ℕ) → total (children b n) 0 (suc n) ≡ n
  children_all n = children_below n (suc n) ∙ tally_all (λ m. ltb (parent b m) (suc n)) 1 n (λ m u v. let below = parent_less m u in lt-ltb (parent b m) (suc n) (omega arith))

  -- spines
  spine_length : (n k : ℕ) → 1 ≤ k → length (spine_of b n k) + 1 ≡ lefts b n k + children b n k + one (lone b n k)
  unfolding full_word children
  spine_length n k h =
      let side : ℕ → Bool = λ i. in_l b k i || in_r b k i in
      let zs = ranked b side 1 n in
      let rights : tally (in_r b k) 1 n ≡ children b n k = tally_same (in_r b k) (λ j. eqb (parent b j) k) 1 n (λ m u v. r_is_children b s k m h u) in
      let apart = tally_add (in_l b k) (in_r b k) side 1 n (λ m u v. elim (cases_Bool (in_l b k m)) [
        | inr e ↦ rw e (omega arith)
        | inl e ↦ elim (cases_Bool (in_r b k m)) [ inr f ↦ rw (e, f) | inl f ↦ absurd (omega (arith, (LFromTest b k m e).less, (RFromTest b k m f).less)) ]
      ]) in
      let long : length (spine_of b n k) ≡ lefts b n k + children b n k - 1 =
      drop_last_length (map (ltb k) zs) ∙ omega (arith, length-map zs (ltb k), ranked_length b side 1 n, apart, rights) in
      elim (cases_eq (lefts b n k) 0) [
        | inl e ↦ elim (cases_eq (children b n k) 0) [
          | inl f ↦ rw (eq-eqb (lefts b n k) 0 e, eq-eqb (children b n k) 0 f) (omega arith)
          | inr f ↦ rw (ne_eqb (children b n k) 0 f) (pick (eqb (lefts b n k) 0) (omega arith))
        ]
        | inr e ↦ rw (ne_eqb (lefts b n k) 0 e) (omega arith)
      ]
    where
      pick : {x y : ℕ} (c : Bool) → x ≡ y → x ≡ y + one (c && false)
      pick true e = omega arith
      pick false e = omega arith

  spines_length : (n m : ℕ) → length (spread (spine_of b n) 1 m) + m ≡ total (lefts b n) 1 m + total (children b n) 1 m + tally (lone b n) 1 m
  unfolding total tally
  spines_length n m = ap (λ z. z + m) (spread_length (spine_of b n) 1 m) ∙ go m
    where
      go : (m : ℕ) → total (λ q. length (spine_of b n q)) 1 m + m ≡ total (lefts b n) 1 m + total (children b n) 1 m + tally (lone b n) 1 m
      go zero = refl
      go (suc m) =
          omega (arith, go m, total_last (λ q. length (spine_of b n q)) 1 m, total_last (lefts b n) 1 m, total_last (children b n) 1 m, tally_last (lone b n) 1 m, spine_length n (1 + m) (omega arith))

  first_child : (n m : ℕ) → total (children b n) 0 (suc m) ≡ children b n 0 + total (children b n) 1 m
  unfolding total
  first_child n m = refl

  brackets_length : (n : ℕ) → length (brackets b n) ≡ 2 * n + 2
  unfolding total
  brackets_length n = omega (arith, spread_length (λ j. unary (children b n j)) 0 (suc n), go 0 (suc n), children_all n)
    where
      go : (i m : ℕ) → total (λ j. length (unary (children b n j))) i m ≡ m + total (children b n) i m
      go i zero = refl
      go i (suc m) = omega (arith, unary_length (children b n i), go (suc i) m)

pub sheet_lengths : SheetLengths
sheet_lengths b s n = record {
  of_brackets = brackets_length b s n;
  of_spines = λ h.
      omega (arith, spines_length b s n n, lefts_total b s n n (omega arith), first_child b s n n, children_all b s n, path_length b s n n (omega arith));
  before_spine = λ k h g.
      let m = k - 1 in
      let e : suc m ≡ k = omega arith in
      omega (
        arith,
        spines_length b s n m,
        lefts_total b s n m (omega arith),
        subst (λ z. lefts b n z + ancestors b s z ≡ 1 + ancestors b s m) e (lefts_step b s n m (omega arith)),
        first_child b s n m,
        subst (λ z. total (children b n) 0 z ≡ k + beyond b s n k) (sym e) (children_upto b s n k g),
        path_length b s k k (omega arith),
        siblings_are b s n k k (omega arith),
        ancestors_up b s k h,
      );
  of_sheet = λ h.
      let (t, x, f) = has_a_tree b s 0 n in
      let short = codes_are_short t (trees_are_wellformed b 0 t f) (omega (arith, x)) in
      omega (arith, short, x, ap length (sheet_is_code b s t f), ap (λ z. length (sheet b z)) x);
}
