-- The theorems on sheets in the words of the subject, from what is shown of trees.
use Rattle.std.proofs.Common.{◌≡◌, ℕ, ◌-◌, ◌^◌, ◌<◌, ◌≤◌, Bool, true, List, [], ◌++◌, Some, None, Option, sym, refl, ap, ◌∙◌, subst, inl, inr, arith, lit<}
use Rattle.std.proofs.lemmas.Bool.{cases_Bool, cases_eq, cases_order, eq-eqb, ne_eqb}
use Rattle.leaders.specs.Order.{Strict, Best, Second, IsSecond, best, second, SameLeaders, beats, dearer}
use Rattle.leaders.specs.Sheet.{highest, parent, in_r, sheet}
use Rattle.leaders.specs.Rebuilt.{rebuilt}
use Rattle.leaders.specs.Tree.{size, encode}
use Rattle.leaders.specs.Theorems.{LeadersAreFound, RIsChildren, EqualSheetsExactlyWhenEqualLeaders, NoSheetBeginsAnother, AcceptedExactlyWhenCast}
use Rattle.leaders.proofs.Trees.{asym, best_one, has_a_tree, trees_are_wellformed}
use Rattle.leaders.proofs.Codes.{prefix_free}
use Rattle.leaders.proofs.Found.{best_is, second_is}
use Rattle.leaders.proofs.Sheets.{InR, RFromTest, test_from_R, Highest, highest_is, sheet_is_code}
use Rattle.leaders.proofs.Same.{Agree, same_sheet_agree, agree_same_sheet}
use Rattle.leaders.proofs.Rule.{second_some, second_none}
use Rattle.leaders.proofs.Verdicts.{accepts_sheets}
use Rattle.leaders.proofs.Merging.{prices_strict, rebuilt_prices_cast_the_sheet}

-- leaders

pub leaders_are_found : LeadersAreFound
leaders_are_found b p i j h = record {
  best_is = best_is b p i j h;
  second_is = second_is b p i j h;
  best_one = λ k g. best_one b p i j k (best b i j) g (best_is b p i j h);
  second_one = λ k s g. second_some b p i j s h (subst (λ z. Second b i j z s) (best_one b p i j k (best b i j) g.best (best_is b p i j h)) g);
}

-- children

pub r_is_children : RIsChildren
unfolding parent
r_is_children b s k j one first = elim (cases_Bool (in_r b k j)) [
  | inl e ↦ e ∙ sym (eq-eqb (parent b j) k (child (RFromTest b k j e)))
  | inr e ↦ e ∙ sym (ne_eqb (parent b j) k (λ g. let z = test_from_R b k j (from g) in let y : ◌≡◌ {A = ℕ} 0 1 = cc in omega arith))
]
  where
    h : Highest b j (j - 1) (highest b j (j - 1))
    h = highest_is b j (j - 1)

    child : InR b k j → parent b j ≡ k
    child r = elim (cases_order (highest b j (j - 1)) k) [
      | inl e ↦ e
      | inr (inl e) ↦ let x = h.none k e (omega (arith, r.less)) in let y = r.over.over j (omega (arith, r.less)) (omega arith) (omega (arith, r.less)) in absurd (let z : ◌≡◌ {A = ℕ} 0 1 = cc in omega arith)
      | inr (inr e) ↦ elim h.beats [
        | inl z ↦ absurd (omega arith)
        | inr z ↦ absurd (asym b s (highest b j (j - 1)) j z (r.next.over (highest b j (j - 1)) e (omega (arith, h.upto)) (omega (arith, h.upto))))
      ]
    ]

    from : parent b j ≡ k → InR b k j
    from e =
        let g : Highest b j (j - 1) k = subst (Highest b j (j - 1)) e h in
        let over : b k j ≡ true = elim g.beats [ inl z ↦ absurd (omega arith) | inr z ↦ z ] in
        let behind : (m : ℕ) → k < m → m < j → b j m ≡ true = λ m u v. s.total m j (omega arith) (g.none m u (omega arith)) in
        record {
          less = omega (arith, g.upto);
          over = record {
            from = omega arith;
            upto = omega (arith, g.upto);
            over = λ m u v d. elim (cases_eq m j) [ inl q ↦ rw q over | inr q ↦ s.transitive k j m over (behind m (omega arith) (omega arith)) ];
          };
          next = record { from = omega (arith, g.upto); upto = omega arith; over = λ m u v d. behind m u (omega arith) };
        }

-- sheets

tells_lots : (b c : ℕ → ℕ → Bool) → Strict b → Strict c → (n m : ℕ) (x y : List Bool) → sheet b n ++ x ≡ sheet c m ++ y → (n ≡ m) × (x ≡ y) × (sheet b n ≡ sheet c m)
tells_lots b c p q n m x y e =
    let (t, u, f) = has_a_tree b p 0 n in
    let (t', v, g) = has_a_tree c q 0 m in
    let i : encode t ≡ sheet b n = sym (sheet_is_code b p t f) ∙ ap (sheet b) u in
    let j : encode t' ≡ sheet c m = sym (sheet_is_code c q t' g) ∙ ap (sheet c) v in
    let h = prefix_free t t' x y (trees_are_wellformed b 0 t f) (trees_are_wellformed c 0 t' g) (ap (λ z. z ++ x) i ∙ e ∙ sym (ap (λ z. z ++ y) j)) in
    (sym u ∙ ap size h.0 ∙ v, h.1, sym i ∙ ap encode h.0 ∙ j)

pub no_sheet_begins_another : NoSheetBeginsAnother
no_sheet_begins_another b c p q n m x y e = let h = tells_lots b c p q n m x y e in (h.2, h.1)

-- the leaders of a range in an order that agrees
same_best : (b c : ℕ → ℕ → Bool) → Strict b → Strict c → (n : ℕ) → Agree b c n → (i j : ℕ) → 1 ≤ i → i ≤ j → j ≤ n → best b i j ≡ best c i j
same_best b c p q n a i j x y z = best_one c q i j (best b i j) (best c i j) (a.bests i j (best b i j) x z (best_is b p i j y)) (best_is c q i j y)

agree_leaders : (b c : ℕ → ℕ → Bool) → Strict b → Strict c → (n : ℕ) → Agree b c n → SameLeaders b c n
agree_leaders b c p q n a i j x y z =
    let e = same_best b c p q n a i j x y z in (
      e,
      elim (cases_eq i j) [
        | inl g ↦ second_none b p i j g ∙ sym (second_none c q i j g)
        | inr g ↦ pick (second b i j) refl (second_is b p i j y)
      ],
    )
  where
    pick : (o : Option ℕ) → second b i j ≡ o → IsSecond b i j (best b i j) o → second b i j ≡ second c i j
    pick None g h = second_none b p i j h ∙ sym (second_none c q i j h)
    pick (Some s) g h = g ∙ sym (second_some c q i j s y (subst (λ k. Second c i j k s) (same_best b c p q n a i j x y z) (a.seconds i j (best b i j) s x z h)))

leaders_agree : (b c : ℕ → ℕ → Bool) → Strict b → Strict c → (n : ℕ) → SameLeaders b c n → Agree b c n
leaders_agree b c p q n h = record {
  bests = λ i j k x y g.
      let r : i ≤ j = omega (arith, g.from, g.upto) in
      let e = best_one b p i j k (best b i j) g (best_is b p i j r) ∙ (h i j x r y).0 in
      subst (Best c i j) (sym e) (best_is c q i j r);
  seconds = λ i j k s x y g.
      let r : i ≤ j = omega (arith, g.from, g.upto) in
      let e = best_one b p i j k (best b i j) g.best (best_is b p i j r) ∙ (h i j x r y).0 in
      let f : second c i j ≡ Some s = sym (h i j x r y).1 ∙ second_some b p i j s r (subst (λ z. Second b i j z s) (best_one b p i j k (best b i j) g.best (best_is b p i j r)) g) in
      subst (λ z. Second c i j z s) (sym e) (subst (IsSecond c i j (best c i j)) f (second_is c q i j r));
}

pub equal_sheets_exactly_when_equal_leaders : EqualSheetsExactlyWhenEqualLeaders
equal_sheets_exactly_when_equal_leaders b c p q n m = (
  λ e.
      let h = (tells_lots b c p q n m [] [] (ap (λ z. z ++ []) e)).0 in
      (h, agree_leaders b c p q n (same_sheet_agree b c p q n (e ∙ ap (sheet c) (sym h)))),
  λ (h, l). agree_same_sheet b c p q n (leaders_agree b c p q n l) ∙ ap (sheet c) h,
)

-- what is accepted

pub accepted_exactly_when_cast : AcceptedExactlyWhenCast
accepted_exactly_when_cast s n = (
  λ e.
      let (b, p, few, f) = (accepts_sheets s n).0 e in
      let h = rebuilt_prices_cast_the_sheet b p n in (
        few,
        (
          rebuilt b n,
          record {
            many = h.many;
            fit = λ k. let m = h.most k in let big : 4000 < 2 ^ 32 = lit< tt in omega arith;
            cast = h.cast ∙ f;
          },
        ),
      ),
  λ (few, (prices, c)). (accepts_sheets s n).1 (beats dearer prices, prices_strict prices, few, c.cast),
)
