-- How the pass over the lots links one more.
use Rattle.std.proofs.Common.{◌≡◌, ℕ, zero, suc, ◌+◌, ◌-◌, ◌<◌, ◌≤◌, Bool, true, false, cond, eqb, ◌≢◌, ◌⊎◌, List, length, get_or, set, sym, ◌∙◌, subst, inl, inr, arith, get_or-set_other, get_or-set_same}
use Rattle.std.proofs.lemmas.Bool.{cond_both, cases_eq, cases_order, cases_Bool, cases_lt, eqb-true, eqb-false, both_ways}
use Rattle.leaders.specs.Order.{Strict}
use Rattle.leaders.specs.Sheet.{parent, tally}
use Rattle.leaders.proofs.Trees.{asym}
use Rattle.leaders.proofs.Sheets.{Highest, highest_is}
use Rattle.links.specs.Links.{Climbed, Top, last_child, children_to, Linked}

pub parent_is : (b : ℕ → ℕ → Bool) (k : ℕ) → Highest b k (k - 1) (parent b k)
unfolding parent
parent_is b k = highest_is b k (k - 1)

pub highest_one : (b : ℕ → ℕ → Bool) (i j p q : ℕ) → Highest b i j p → Highest b i j q → p ≡ q
highest_one b i j p q g h = elim (cases_order p q) [
  | inl e ↦ e
  | inr (inl e) ↦ elim h.beats [ inl z ↦ absurd (omega arith) | inr z ↦ absurd (both_ways (b q i) (g.none q e h.upto) z) ]
  | inr (inr e) ↦ elim g.beats [ inl z ↦ absurd (omega arith) | inr z ↦ absurd (both_ways (b p i) (h.none p e g.upto) z) ]
]

module _ (b : ℕ → ℕ → Bool) (s : Strict b) where
  pub beaten_false : (x y : ℕ) → b x y ≡ true → b y x ≡ false
  beaten_false x y p = elim (cases_Bool (b y x)) [ inl e ↦ absurd (asym b s x y p e) | inr e ↦ e ]

  pub climb_more : (k x last p : ℕ) → Climbed b k x last → x ≢ 0 → b x k ≡ false → p ≡ parent b x → Climbed b k p x
  climb_more k x last p c d e q =
      let h : Highest b x (x - 1) p = subst (Highest b x (x - 1)) (sym q) (parent_is b x) in
      let over : b k x ≡ true = s.total x k (omega (arith, c.below)) e in
      let less : p < x = omega (arith, h.upto) in
      let down : (m : ℕ) → p < m → m < x → b x m ≡ true = λ m u v. s.total m x (omega arith) (h.none m u (omega arith)) in
      let up : (m : ℕ) → x < m → m ≤ k - 1 → b x m ≡ true = λ m u v. elim c.top [
        | inl z ↦ absurd (omega arith)
        | inr z ↦
            let on = c.hangs (omega (arith, z.from)) in
            let g : Highest b last (last - 1) x = subst (Highest b last (last - 1)) on (parent_is b last) in
            let f : b x last ≡ true = elim g.beats [ inl i ↦ absurd (d i) | inr i ↦ i ] in
            elim (cases_eq m last) [ inl i ↦ rw i f | inr i ↦ s.transitive x last m f (z.over m u v i) ]
      ] in
      record {
        below = omega (arith, c.below);
        beaten = λ m u v. elim (cases_order m x) [
          | inl i ↦ rw i e
          | inr (inl i) ↦ beaten_false k m (s.transitive k x m over (down m u i))
          | inr (inr i) ↦ c.beaten m i v
        ];
        top = inr (record {
          from = less;
          upto = omega (arith, c.below);
          over = λ m u v i. elim (cases_lt m x) [ inl j ↦ down m u j | inr j ↦ up m (omega arith) v ];
        });
        hangs = λ _. sym q;
      }

  pub climb_end : (k x last : ℕ) → Climbed b k x last → (x ≡ 0) ⊎ (b x k ≡ true) → x ≡ parent b k
  climb_end k x last c d = highest_one b k (k - 1) x (parent b k) (record { upto = omega (arith, c.below); beats = d; none = λ m u v. c.beaten m u (omega (arith, c.below)) }) (parent_is b k)

pub tally_more : (f : ℕ → Bool) (i n k : ℕ) → k ≡ i + n → tally f i (suc n) ≡ cond (f k) (suc (tally f i n)) (tally f i n)
unfolding tally
tally_more f i zero k z = let e : k ≡ i = omega arith in rw e
tally_more f i (suc n) k z =
    let h = tally_more f (suc i) n k (omega arith) in
    elim (cases_Bool (f i)) [ inl p ↦ grind (arith, h, p) | inr p ↦ grind (arith, h, p) ]

pub none_on_first : (n : ℕ) (was left : List ℕ) → length was ≡ suc n → left ≡ set was 0 0 → get_or left 0 0 ≡ 0
none_on_first n was left long e = rw e (get_or-set_same was 0 0 0 (omega arith))

pub link_none : (b : ℕ → ℕ → Bool) (n : ℕ) (up left right kids : List ℕ) → get_or left 0 0 ≡ 0 → ((k : ℕ) → k ≤ n → get_or right k 0 ≡ 0) → ((k : ℕ) → k ≤ n → get_or kids k 0 ≡ 0) → Linked b n 0 up left right kids
unfolding last_child tally
link_none b n up left right kids e f g = record { parents = λ k p q. absurd (omega arith); first = e; lefts = λ k p q. absurd (omega arith); rights = f; counts = g }

link_step : (b : ℕ → ℕ → Bool) (n m : ℕ) (up left right kids : List ℕ) → Linked b n m up left right kids → length up ≡ suc n → length left ≡ suc n → length right ≡ suc n → length kids ≡ suc n → suc m ≤ n →
    (x v : ℕ) → x ≡ parent b (suc m) → x < suc m → Top b (suc x) m v → Linked b n (suc m) (set up (suc m) x) (set left (suc m) v) (set right x (suc m)) (set kids x (get_or kids x 0 + 1))
unfolding last_child
link_step b n m up left right kids h lu ll lr lk f x v e d t = record {
  parents = λ k p q. elim (cases_eq k (suc m)) [
    | inl z ↦ rw z (get_or-set_same up (suc m) x 0 (omega arith) ∙ e)
    | inr z ↦ get_or-set_other up (suc m) k x 0 z ∙ h.parents k p (omega arith)
  ];
  first = get_or-set_other left (suc m) 0 v 0 (omega arith) ∙ h.first;
  lefts = λ k p q. elim (cases_eq k (suc m)) [
    | inl z ↦
        let g = get_or-set_same left (suc m) v 0 (omega arith) in
        let i : suc m - 1 ≡ m = omega arith in
        rw (z, g, i, ← e) t
    | inr z ↦ let g = get_or-set_other left (suc m) k v 0 z in rw g (h.lefts k p (omega arith))
  ];
  rights = λ y q. cond_both (eqb (parent b (suc m)) y) (suc m) (last_child b y m) (λ z. get_or (set right x (suc m)) y 0 ≡ z)
      (λ i. let j : y ≡ x = sym (e ∙ eqb-true (parent b (suc m)) y i) in rw j (get_or-set_same right x (suc m) 0 (omega arith)))
      (λ i. get_or-set_other right x y (suc m) 0 (λ j. eqb-false (parent b (suc m)) y i (sym e ∙ sym j)) ∙ h.rights y q);
  counts = λ y q. back (tally_more (λ i. eqb (parent b i) y) 1 m (suc m) (omega arith)) (cond_both (eqb (parent b (suc m)) y) (suc (children_to b y m)) (children_to b y m) (λ z. get_or (set kids x (get_or kids x 0 + 1)) y 0 ≡ z)
      (λ i. let j : y ≡ x = sym (e ∙ eqb-true (parent b (suc m)) y i) in rw j (get_or-set_same kids x (get_or kids x 0 + 1) 0 (omega arith) ∙ omega (arith, h.counts x (omega arith))))
      (λ i. get_or-set_other kids x y (get_or kids x 0 + 1) 0 (λ j. eqb-false (parent b (suc m)) y i (sym e ∙ sym j)) ∙ h.counts y q));
}
  where
    back : {a c d : ℕ} → c ≡ d → a ≡ d → a ≡ c
    back p q = q ∙ sym p

pub link_more : (b : ℕ → ℕ → Bool) (n k : ℕ) (up left right kids : List ℕ) → Linked b n (k - 1) up left right kids → length up ≡ suc n → length left ≡ suc n → length right ≡ suc n → length kids ≡ suc n → 1 ≤ k → k ≤ n →
    (x v : ℕ) → x ≡ parent b k → x < k → Top b (suc x) (k - 1) v → Linked b n (k + 1 - 1) (set up k x) (set left k v) (set right x k) (set kids x (get_or kids x 0 + 1))
link_more b n zero up left right kids h lu ll lr lk p q x v e d t = absurd (omega arith)
link_more b n (suc m) up left right kids h lu ll lr lk p q x v e d t =
    let i : suc m - 1 ≡ m = omega arith in
    let j : suc m + 1 - 1 ≡ suc m = omega arith in
    rw j (link_step b n m up left right kids (rw i at h) lu ll lr lk q x v e d (rw i at t))

pub tally_most : (f : ℕ → Bool) (i n : ℕ) → tally f i n ≤ n
unfolding tally
tally_most f i zero = omega arith
tally_most f i (suc n) = let h = tally_most f (suc i) n in elim (cases_Bool (f i)) [ inl p ↦ grind (arith, h, p) | inr p ↦ grind (arith, h, p) ]
