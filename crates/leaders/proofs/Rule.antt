-- The second of a range, by the spine of its best lot.
use Rattle.std.proofs.Common.{◌≡◌, ℕ, zero, suc, ◌-◌, ◌<◌, ◌≤◌, Bool, true, false, cond, ◌&&◌, ◌||◌, ltb, ◌≢◌, ◌⊎◌, List, [], ◌∷◌, map, Some, None, Option, sym, refl, ap, ◌∙◌, subst, inl, inr, arith}
use Rattle.std.specs.Option.{option_map}
use Rattle.std.proofs.lemmas.Bool.{cases_lt, cases_eq, cases_order, cases_Bool, or_cases, or_left, or_right, eq-eqb, ne_eqb, lt-ltb, le-ltb}
use Rattle.std.proofs.lemmas.Bool.Decides.{nat_tests}
use Rattle.leaders.specs.Order.{Strict, Best, Second, IsSecond, best, second}
use Rattle.leaders.specs.Sheet.{tally, insert, ranked, in_l, in_r, full_word, drop_last, spine_of}
use Rattle.leaders.specs.Tree.{Mem, sooner}
use Rattle.leaders.specs.Theorems.{symbol_at, before, is_left_first, SecondByTheSpine}
use Rattle.leaders.proofs.Trees.{Sorted, asym}
use Rattle.leaders.proofs.Sheets.{InL, InR, LFromTest, RFromTest, test_from_L, test_from_R, ranked_there, ranked_here, ranked_sorted}
use Rattle.leaders.proofs.Found.{best_is, second_is}
use Rattle.leaders.proofs.Same.{second_one}

before_next : (p q : Option ℕ) → before (option_map suc p) (option_map suc q) ≡ before p q
before_next None q = refl
before_next (Some p) None = refl
before_next (Some p) (Some q) = grind (arith, nat_tests)

before_first : (q : Option ℕ) → before (Some 0) (option_map suc q) ≡ true
before_first None = refl
before_first (Some q) = grind (arith, nat_tests)

before_zero : (p : Option ℕ) → before (option_map suc p) (Some 0) ≡ false
before_zero None = refl
before_zero (Some p) = grind (arith, nat_tests)

pub sooner_before : (w : List Bool) (x y : ℕ) → before (symbol_at false x w) (symbol_at true y w) ≡ sooner w x y
unfolding symbol_at sooner
sooner_before [] x y = refl
sooner_before (false ∷ w) zero y = before_first (symbol_at true y w)
sooner_before (false ∷ w) (suc x) y = before_next (symbol_at false x w) (symbol_at true y w) ∙ sooner_before w x y
sooner_before (true ∷ w) x zero = before_zero (symbol_at false x w)
sooner_before (true ∷ w) x (suc y) = before_next (symbol_at false x w) (symbol_at true y w) ∙ sooner_before w x y

-- how many of a list pass a test
count : (ℕ → Bool) → List ℕ → ℕ
count f [] = 0
count f (z ∷ zs) = cond (f z) (suc (count f zs)) (count f zs)

count_yes : (f : ℕ → Bool) (z : ℕ) (zs : List ℕ) → f z ≡ true → count f (z ∷ zs) ≡ suc (count f zs)
unfolding count
count_yes f z zs e = rw e

count_no : (f : ℕ → Bool) (z : ℕ) (zs : List ℕ) → f z ≡ false → count f (z ∷ zs) ≡ count f zs
unfolding count
count_no f z zs e = rw e

count_none : (f : ℕ → Bool) (zs : List ℕ) → ((z : ℕ) → Mem z zs → f z ≡ false) → count f zs ≡ 0
unfolding count
count_none f [] h = refl
count_none f (z ∷ zs) h = count_no f z zs (h z (inl refl)) ∙ count_none f zs (λ y m. h y (inr m))

count_insert : (b : ℕ → ℕ → Bool) (f : ℕ → Bool) (x : ℕ) (ys : List ℕ) → count f (insert b x ys) ≡ count f (x ∷ ys)
unfolding insert count
count_insert b f x [] = refl
count_insert b f x (y ∷ ys) = let h = count_insert b f x ys in grind (arith, nat_tests)

count_ranked : (b : ℕ → ℕ → Bool) (f g h : ℕ → Bool) → ((m : ℕ) → (g m && f m) ≡ h m) → (i n : ℕ) → count f (ranked b g i n) ≡ tally h i n
unfolding ranked tally count
count_ranked b f g h e i zero = refl
count_ranked b f g h e i (suc n) = let u = count_ranked b f g h e (suc i) n in let v = count_insert b f i (ranked b g (suc i) n) in let w = e i in grind (arith, nat_tests)

head_lower : (c : Bool) (w : List Bool) (x y : ℕ) → c ≡ false → x ≡ 0 → sooner (c ∷ w) x y ≡ true
unfolding sooner
head_lower c w x y e f = rw (e, f)

head_higher : (c : Bool) (w : List Bool) (x y : ℕ) → c ≡ true → y ≡ 0 → sooner (c ∷ w) x y ≡ false
unfolding sooner
head_higher c w x y e f = rw (e, f)

next_lower : (c : Bool) (w : List Bool) (x x' y : ℕ) → c ≡ false → x ≡ suc x' → sooner (c ∷ w) x y ≡ sooner w x' y
unfolding sooner
next_lower c w x x' y e f = rw (e, f)

next_higher : (c : Bool) (w : List Bool) (x y y' : ℕ) → c ≡ true → y ≡ suc y' → sooner (c ∷ w) x y ≡ sooner w x y'
unfolding sooner
next_higher c w x y y' e f = rw (e, f)

-- zs, from best to worst, has a below k and r above k; of those below k the lower ones are better than a, of those above k the higher ones are better than r
module _ (b : ℕ → ℕ → Bool) (s : Strict b) (k a r : ℕ) (low : a < k) (high : k < r) where
  record Sides (zs : List ℕ) : Type 0 where
    sorted : Sorted b zs
    apart : (z : ℕ) → Mem z zs → z ≢ k
    lower : (z : ℕ) → Mem z zs → z < k → (z < a → b z a ≡ true) × (b z a ≡ true → z < a)
    higher : (z : ℕ) → Mem z zs → k < z → (r < z → b z r ≡ true) × (b z r ≡ true → r < z)

  abbrev isLower : ℕ → Bool
  isLower z = ltb z k && ltb z a

  abbrev isHigher : ℕ → Bool
  isHigher z = ltb k z && ltb r z

  rest : (z : ℕ) (zs : List ℕ) → Sides (z ∷ zs) → Sides zs
  rest z zs h = record {
    sorted = h.sorted.1;
    apart = λ y m. h.apart y (inr m);
    lower = λ y m. h.lower y (inr m);
    higher = λ y m. h.higher y (inr m);
  }

  none_lower : (zs : List ℕ) → Sides (a ∷ zs) → count isLower (a ∷ zs) ≡ 0
  none_lower zs h = count_none isLower (a ∷ zs) (λ z m. elim m [
    | inl e ↦ grind (arith, nat_tests)
    | inr n ↦ elim (cases_lt z k) [
      | inl g ↦ elim (cases_lt z a) [
        | inl u ↦ absurd (asym b s z a ((h.lower z (inr n) g).0 u) (h.sorted.0 z n))
        | inr u ↦ grind (arith, nat_tests)
      ]
      | inr g ↦ grind (arith, nat_tests)
    ]
  ])

  none_higher : (zs : List ℕ) → Sides (r ∷ zs) → count isHigher (r ∷ zs) ≡ 0
  none_higher zs h = count_none isHigher (r ∷ zs) (λ z m. elim m [
    | inl e ↦ grind (arith, nat_tests)
    | inr n ↦ elim (cases_lt k z) [
      | inl g ↦ elim (cases_lt r z) [
        | inl u ↦ absurd (asym b s z r ((h.higher z (inr n) g).0 u) (h.sorted.0 z n))
        | inr u ↦ grind (arith, nat_tests)
      ]
      | inr g ↦ grind (arith, nat_tests)
    ]
  ])

  abbrev word : List ℕ → List Bool
  word zs = drop_last (map (ltb k) zs)

  -- the word of a list says which of a and r comes first in it
  abbrev Tells : List ℕ → Type 0
  Tells zs = sooner (word zs) (count isLower zs) (count isHigher zs) ≡ b a r

  found : (zs : List ℕ) → Sides zs → Mem a zs → Mem r zs → Tells zs
  unfolding drop_last
  found [] h m n = absurd m
  found (z ∷ []) h m n = absurd (elim m [ inl e ↦ elim n [ inl g ↦ omega arith | inr g ↦ g ] | inr e ↦ e ])
  found (z ∷ y ∷ zs) h m n = elim (cases_lt z k) [
    | inl g ↦ elim (cases_eq z a) [
      | inl e ↦ first e
      | inr e ↦ skip_lower (found (y ∷ zs) (rest z (y ∷ zs) h)) g e
    ]
    | inr g ↦ elim (cases_eq z r) [
      | inl e ↦ second e
      | inr e ↦ skip_higher (found (y ∷ zs) (rest z (y ∷ zs) h)) (let d = h.apart z (inl refl) in omega arith) e
    ]
  ]
    where
      other_r : z ≢ r → Mem r (y ∷ zs)
      other_r d = elim n [ inl e ↦ absurd (d (sym e)) | inr e ↦ e ]

      other_a : z ≢ a → Mem a (y ∷ zs)
      other_a d = elim m [ inl e ↦ absurd (d (sym e)) | inr e ↦ e ]

      first : z ≡ a → Tells (z ∷ y ∷ zs)
      first e =
          let none : count isLower (z ∷ y ∷ zs) ≡ 0 = ap (λ v. count isLower (v ∷ y ∷ zs)) e ∙ none_lower (y ∷ zs) (subst (λ v. Sides (v ∷ y ∷ zs)) e h) in
          head_lower (ltb k z) (word (y ∷ zs)) (count isLower (z ∷ y ∷ zs)) (count isHigher (z ∷ y ∷ zs)) (le-ltb k z (omega arith)) none
          ∙ sym (ap (λ v. b v r) (sym e) ∙ h.sorted.0 r (other_r (omega arith)))

      second : z ≡ r → Tells (z ∷ y ∷ zs)
      second e =
          let none : count isHigher (z ∷ y ∷ zs) ≡ 0 = ap (λ v. count isHigher (v ∷ y ∷ zs)) e ∙ none_higher (y ∷ zs) (subst (λ v. Sides (v ∷ y ∷ zs)) e h) in
          let over : b r a ≡ true = ap (λ v. b v a) (sym e) ∙ h.sorted.0 a (other_a (omega arith)) in
          head_higher (ltb k z) (word (y ∷ zs)) (count isLower (z ∷ y ∷ zs)) (count isHigher (z ∷ y ∷ zs)) (lt-ltb k z (omega arith)) none
          ∙ sym (elim (cases_Bool (b a r)) [ inl f ↦ absurd (asym b s a r f over) | inr f ↦ f ])

      skip_lower : (Mem a (y ∷ zs) → Mem r (y ∷ zs) → Tells (y ∷ zs)) → z < k → z ≢ a → Tells (z ∷ y ∷ zs)
      skip_lower ih g e =
          let ahead = (h.lower z (inl refl) g).1 (h.sorted.0 a (other_a e)) in
          let p = count_yes isLower z (y ∷ zs) (grind (arith, nat_tests)) in
          let q = count_no isHigher z (y ∷ zs) (grind (arith, nat_tests)) in
          next_lower (ltb k z) (word (y ∷ zs)) (count isLower (z ∷ y ∷ zs)) (count isLower (y ∷ zs)) (count isHigher (z ∷ y ∷ zs)) (le-ltb k z (omega arith)) p
          ∙ ap (sooner (word (y ∷ zs)) (count isLower (y ∷ zs))) q
          ∙ ih (other_a e) (other_r (omega arith))

      skip_higher : (Mem a (y ∷ zs) → Mem r (y ∷ zs) → Tells (y ∷ zs)) → k < z → z ≢ r → Tells (z ∷ y ∷ zs)
      skip_higher ih g e =
          let ahead = (h.higher z (inl refl) g).1 (h.sorted.0 r (other_r e)) in
          let p = count_yes isHigher z (y ∷ zs) (grind (arith, nat_tests)) in
          let q = count_no isLower z (y ∷ zs) (grind (arith, nat_tests)) in
          next_higher (ltb k z) (word (y ∷ zs)) (count isLower (z ∷ y ∷ zs)) (count isHigher (z ∷ y ∷ zs)) (count isHigher (y ∷ zs)) (lt-ltb k z g) p
          ∙ ap (λ v. sooner (word (y ∷ zs)) v (count isHigher (y ∷ zs))) q
          ∙ ih (other_a (omega arith)) (other_r e)

-- the lots of L(k) and R(k), from best to worst
module _ (b : ℕ → ℕ → Bool) (s : Strict b) (n k a r : ℕ) (la : InL b k a) (rr : InR b k r) (first : 1 ≤ a) (last : r ≤ n) where
  abbrev side : ℕ → Bool
  side i = in_l b k i || in_r b k i

  LOrR : (z : ℕ) → side z ≡ true → InL b k z ⊎ InR b k z
  LOrR z e = elim (or_cases (in_l b k z) (in_r b k z) e) [ inl h ↦ inl (LFromTest b k z h) | inr h ↦ inr (RFromTest b k z h) ]

  sides : Sides b s k a r la.less rr.less (ranked b side 1 n)
  sides = record {
    sorted = ranked_sorted b s side 1 n;
    apart = λ z m. elim (LOrR z (ranked_there b side 1 n z m).2) [ inl h ↦ omega (arith, h.less) | inr h ↦ omega (arith, h.less) ];
    lower = λ z m g. elim (LOrR z (ranked_there b side 1 n z m).2) [
      | inr h ↦ absurd (omega (arith, h.less))
      | inl h ↦ (
        λ u. h.next.over a (omega arith) (omega (arith, la.less)) (omega arith),
        λ u. elim (cases_order z a) [
          | inl e ↦ absurd (asym b s a a (subst (λ v. b v a ≡ true) e u) (subst (λ v. b v a ≡ true) e u))
          | inr (inl e) ↦ e
          | inr (inr e) ↦ absurd (asym b s z a u (la.next.over z (omega arith) (omega (arith, h.less)) (omega arith)))
        ],
      )
    ];
    higher = λ z m g. elim (LOrR z (ranked_there b side 1 n z m).2) [
      | inl h ↦ absurd (omega (arith, h.less))
      | inr h ↦ (
        λ u. h.next.over r (omega (arith, rr.less)) (omega arith) (omega arith),
        λ u. elim (cases_order z r) [
          | inl e ↦ absurd (asym b s r r (subst (λ v. b v r ≡ true) e u) (subst (λ v. b v r ≡ true) e u))
          | inr (inr e) ↦ e
          | inr (inl e) ↦ absurd (asym b s z r u (rr.next.over z (omega (arith, h.less)) (omega arith) (omega arith)))
        ],
      )
    ];
  }

  lower_is : (m : ℕ) → (side m && (ltb m k && ltb m a)) ≡ (in_l b k m && ltb m a)
  lower_is m = elim (cases_Bool (in_l b k m)) [
    | inl e ↦ let h = (LFromTest b k m e).less in grind (arith, nat_tests)
    | inr e ↦ elim (cases_Bool (in_r b k m)) [ inl g ↦ let h = (RFromTest b k m g).less in grind (arith, nat_tests) | inr g ↦ grind (arith, nat_tests) ]
  ]

  higher_is : (m : ℕ) → (side m && (ltb k m && ltb r m)) ≡ (in_r b k m && ltb r m)
  higher_is m = elim (cases_Bool (in_r b k m)) [
    | inl e ↦ let h = (RFromTest b k m e).less in grind (arith, nat_tests)
    | inr e ↦ elim (cases_Bool (in_l b k m)) [ inl g ↦ let h = (LFromTest b k m g).less in grind (arith, nat_tests) | inr g ↦ grind (arith, nat_tests) ]
  ]

  pub left_first_lem : is_left_first b n k a r ≡ b a r
  unfolding full_word
  left_first_lem =
      let x = count_ranked b (isLower b s k a r la.less rr.less) side (λ m. in_l b k m && ltb m a) lower_is 1 n in
      let y = count_ranked b (isHigher b s k a r la.less rr.less) side (λ m. in_r b k m && ltb r m) higher_is 1 n in
      sooner_before (spine_of b n k) (tally (λ m. in_l b k m && ltb m a) 1 n) (tally (λ m. in_r b k m && ltb r m) 1 n)
      ∙ ap (λ v. sooner (spine_of b n k) v (tally (λ m. in_r b k m && ltb r m) 1 n)) (sym x)
      ∙ ap (sooner (spine_of b n k) (count (isLower b s k a r la.less rr.less) (ranked b side 1 n))) (sym y)
      ∙ found b s k a r la.less rr.less (ranked b side 1 n) sides
      (ranked_here b side 1 n a first (omega (arith, la.less, rr.less)) (or_left (in_l b k a) (in_r b k a) (test_from_L b k a la)))
      (ranked_here b side 1 n r (omega (arith, la.less, rr.less)) (omega arith) (or_right (in_l b k r) (in_r b k r) (test_from_R b k r rr)))

-- the second, where it is known to be one
pub second_some : (b : ℕ → ℕ → Bool) → Strict b → (i j s : ℕ) → i ≤ j → Second b i j (best b i j) s → second b i j ≡ Some s
second_some b p i j s h g = pick (second b i j) (second_is b p i j h)
  where
    pick : (o : Option ℕ) → IsSecond b i j (best b i j) o → o ≡ Some s
    pick None e = absurd (omega (arith, g.from, g.upto, g.best.from, g.best.upto, g.other))
    pick (Some t) e = ap Some (second_one b p i j (best b i j) t (best b i j) s e g)

pub second_none : (b : ℕ → ℕ → Bool) → Strict b → (i j : ℕ) → i ≡ j → second b i j ≡ None
second_none b p i j h = pick (second b i j) (second_is b p i j (omega arith))
  where
    pick : (o : Option ℕ) → IsSecond b i j (best b i j) o → o ≡ None
    pick None e = refl
    pick (Some t) e = absurd (omega (arith, e.from, e.upto, e.best.from, e.best.upto, e.other))

-- a range whose best has lots on one side, or on both
module _ (b : ℕ → ℕ → Bool) (s : Strict b) (n i j : ℕ) (one : 1 ≤ i) (range : i ≤ j) (fits : j ≤ n) where
  abbrev k : ℕ
  k = best b i j

  top : Best b i j k
  top = best_is b s i j range

  right_only : i ≡ k → k < j → Second b i j k (best b (suc k) j)
  right_only e h =
      let g = best_is b s (suc k) j h in
      record { best = top; from = omega (arith, g.from); upto = g.upto; other = omega (arith, g.from); over = λ m u v d c. g.over m (omega arith) v c }

  left_only : i < k → k ≡ j → Second b i j k (best b i (k - 1))
  left_only h e =
      let g = best_is b s i (k - 1) (omega arith) in
      record { best = top; from = g.from; upto = omega (arith, g.upto); other = omega (arith, g.upto); over = λ m u v d c. g.over m u (omega arith) c }

  module _ (left : i < k) (right : k < j) where
    abbrev a : ℕ
    a = best b i (k - 1)

    abbrev r : ℕ
    r = best b (suc k) j

    a_best : Best b i (k - 1) a
    a_best = best_is b s i (k - 1) (omega arith)

    r_best : Best b (suc k) j r
    r_best = best_is b s (suc k) j right

    a_in : InL b k a
    a_in = let h = top in let g = a_best in record {
      less = omega (arith, g.upto);
      over = record { from = omega (arith, g.upto); upto = omega arith; over = λ m u v d. h.over m (omega (arith, g.from)) (omega arith) d };
      next = record { from = omega arith; upto = g.upto; over = λ m u v d. g.over m (omega (arith, g.from)) v d };
    }

    r_in : InR b k r
    r_in = let h = top in let g = r_best in record {
      less = g.from;
      over = record { from = omega arith; upto = omega (arith, g.from); over = λ m u v d. h.over m (omega arith) (omega (arith, g.upto)) d };
      next = record { from = g.from; upto = omega arith; over = λ m u v d. g.over m u (omega (arith, g.upto)) d };
    }

    both_left : b a r ≡ true → Second b i j k a
    both_left e = let g = a_best in let h = r_best in record {
      best = top;
      from = g.from;
      upto = omega (arith, g.upto);
      other = omega (arith, g.upto);
      over = λ m u v d c. elim (cases_lt m k) [
        | inl f ↦ g.over m u (omega arith) c
        | inr f ↦ elim (cases_eq m r) [ inl q ↦ rw q e | inr q ↦ s.transitive a r m e (h.over m (omega arith) v q) ]
      ];
    }

    both_right : b r a ≡ true → Second b i j k r
    both_right e = let g = a_best in let h = r_best in record {
      best = top;
      from = omega (arith, h.from);
      upto = h.upto;
      other = omega (arith, h.from);
      over = λ m u v d c. elim (cases_lt m k) [
        | inl f ↦ elim (cases_eq m a) [ inl q ↦ rw q e | inr q ↦ s.transitive r a m e (g.over m u (omega arith) q) ]
        | inr f ↦ h.over m (omega arith) v c
      ];
    }

    both : second b i j ≡ cond (is_left_first b n k a r) (Some a) (Some r)
    both =
        let same = left_first_lem b s n k a r a_in r_in (omega (arith, a_best.from)) (omega (arith, r_best.upto)) in
        rw same (elim (cases_Bool (b a r)) [
          | inl e ↦ rw e (second_some b s i j a range (both_left e))
          | inr e ↦ rw e (second_some b s i j r range (both_right (s.total a r (omega (arith, a_best.upto, r_best.from)) e)))
        ])

pub second_by_the_spine : SecondByTheSpine
second_by_the_spine b s n i j one range fits =
    let k = best b i j in
    let h = best_is b s i j range in
    elim (cases_eq i k) [
      | inl e ↦ rw (eq-eqb i k e) (elim (cases_eq k j) [
        | inl g ↦ rw (eq-eqb k j g) (second_none b s i j (e ∙ g))
        | inr g ↦ rw (ne_eqb k j g) (second_some b s i j (best b (suc k) j) range (right_only b s n i j one range fits e (omega (arith, h.upto))))
      ])
      | inr e ↦ rw (ne_eqb i k e) (elim (cases_eq k j) [
        | inl g ↦ rw (eq-eqb k j g) (second_some b s i j (best b i (k - 1)) range (left_only b s n i j one range fits (omega (arith, h.from)) g))
        | inr g ↦ rw (ne_eqb k j g) (both b s n i j one range fits (omega (arith, h.from)) (omega (arith, h.upto)))
      ])
    ]
