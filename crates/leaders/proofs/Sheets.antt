-- The sheet of an order, as it is defined, is the code of its tree.
use Rattle.std.proofs.Common.{◌≡◌, ℕ, zero, suc, ◌+◌, ◌-◌, ◌<◌, ◌≤◌, Bool, true, false, ◌&&◌, ◌||◌, eqb, ltb, leb, ◌≢◌, ◌⊎◌, List, [], ◌∷◌, ◌++◌, map, length, sym, refl, ap, ◌∙◌, subst, ap₂, inl, inr, append_assoc, arith}
use Rattle.std.proofs.lemmas.Bool.{ltb-true, leb-true, cond_both, cases_lt, cases_order, and_parts, and_from, or_cases, or_left, or_right, le-leb, lt-ltb, le-ltb, eqb-true, eq-eqb, cases_eq}
use Rattle.leaders.specs.Order.{Strict, Best}
use Rattle.leaders.specs.Sheet.{highest, parent, tally, every, spread, insert, ranked, children, unary, is_best, in_l, in_r, full_word, drop_last, sheet}
use Rattle.leaders.specs.Tree.{Tree, leaf, node, size, ls, counts, words, encode, Mem, Merged, root, spine_r, spine_l, Follows}
use Rattle.leaders.proofs.Trees.{Sorted, asym, spine_r_in, spine_l_in, spine_r_sorted, spine_l_sorted, spine_l_length}

every_at : (f : ℕ → Bool) (i n : ℕ) → every f i n ≡ true → (m : ℕ) → i ≤ m → m < i + n → f m ≡ true
unfolding every
every_at f i zero e m p q = absurd (omega arith)
every_at f i (suc n) e m p q =
    let (h, t) = and_parts (f i) (every f (suc i) n) e in
    elim (cases_eq m i) [ inl z ↦ rw z h | inr z ↦ every_at f (suc i) n t m (omega arith) (omega arith) ]

every_from : (f : ℕ → Bool) (i n : ℕ) → ((m : ℕ) → i ≤ m → m < i + n → f m ≡ true) → every f i n ≡ true
unfolding every
every_from f i zero g = refl
every_from f i (suc n) g = and_from (f i) (every f (suc i) n) (g i (omega arith) (omega arith)) (every_from f (suc i) n (λ m p q. g m (omega arith) (omega arith)))

pub best_from_test : (b : ℕ → ℕ → Bool) (i j k : ℕ) → is_best b i j k ≡ true → Best b i j k
unfolding is_best
best_from_test b i j k e =
    let (h, t) = and_parts (leb i k && leb k j) (every (λ m. eqb m k || b k m) i (suc j - i)) e in
    let (p, q) = and_parts (leb i k) (leb k j) h in
    record {
      from = leb-true i k p;
      upto = leb-true k j q;
      over = λ m u v d. elim (or_cases (eqb m k) (b k m) (every_at (λ m. eqb m k || b k m) i (suc j - i) t m u (omega arith))) [ inl z ↦ absurd (d (eqb-true m k z)) | inr z ↦ z ];
    }

pub test_from_best : (b : ℕ → ℕ → Bool) (i j k : ℕ) → Best b i j k → is_best b i j k ≡ true
unfolding is_best
test_from_best b i j k h =
    and_from (leb i k && leb k j) (every (λ m. eqb m k || b k m) i (suc j - i))
    (and_from (leb i k) (leb k j) (le-leb i k h.from) (le-leb k j h.upto))
    (every_from (λ m. eqb m k || b k m) i (suc j - i) (λ m u v. elim (cases_eq m k) [ inl z ↦ or_left (eqb m k) (b k m) (eq-eqb m k z) | inr z ↦ or_right (eqb m k) (b k m) (h.over m u (omega arith) z) ]))

pub record InL (b : ℕ → ℕ → Bool) (k i : ℕ) : Type 0 where
  pub less : i < k
  pub over : Best b i k k
  pub next : Best b i (k - 1) i

pub record InR (b : ℕ → ℕ → Bool) (k j : ℕ) : Type 0 where
  pub less : k < j
  pub over : Best b k j k
  pub next : Best b (suc k) j j

pub LFromTest : (b : ℕ → ℕ → Bool) (k i : ℕ) → in_l b k i ≡ true → InL b k i
unfolding in_l
LFromTest b k i e =
    let (h, t) = and_parts (ltb i k && is_best b i k k) (is_best b i (k - 1) i) e in
    let (p, q) = and_parts (ltb i k) (is_best b i k k) h in
    record { less = ltb-true i k p; over = best_from_test b i k k q; next = best_from_test b i (k - 1) i t }

pub RFromTest : (b : ℕ → ℕ → Bool) (k j : ℕ) → in_r b k j ≡ true → InR b k j
unfolding in_r
RFromTest b k j e =
    let (h, t) = and_parts (ltb k j && is_best b k j k) (is_best b (suc k) j j) e in
    let (p, q) = and_parts (ltb k j) (is_best b k j k) h in
    record { less = ltb-true k j p; over = best_from_test b k j k q; next = best_from_test b (suc k) j j t }

pub test_from_L : (b : ℕ → ℕ → Bool) (k i : ℕ) → InL b k i → in_l b k i ≡ true
unfolding in_l
test_from_L b k i h = and_from (ltb i k && is_best b i k k) (is_best b i (k - 1) i) (and_from (ltb i k) (is_best b i k k) (lt-ltb i k h.less) (test_from_best b i k k h.over)) (test_from_best b i (k - 1) i h.next)

pub test_from_R : (b : ℕ → ℕ → Bool) (k j : ℕ) → InR b k j → in_r b k j ≡ true
unfolding in_r
test_from_R b k j h = and_from (ltb k j && is_best b k j k) (is_best b (suc k) j j) (and_from (ltb k j) (is_best b k j k) (lt-ltb k j h.less) (test_from_best b k j k h.over)) (test_from_best b (suc k) j j h.next)

-- lists from best to worst

insert_there : (b : ℕ → ℕ → Bool) (x : ℕ) (ys : List ℕ) (z : ℕ) → Mem z (insert b x ys) → Mem z (x ∷ ys)
unfolding insert
insert_there b x [] z = λ m. m
insert_there b x (y ∷ ys) z = cond_both (b x y) (x ∷ y ∷ ys) (y ∷ insert b x ys) (λ zs. Mem z zs → Mem z (x ∷ y ∷ ys)) (λ e m. m)
    (λ e m. elim m [ inl h ↦ inr (inl h) | inr h ↦ elim (insert_there b x ys z h) [ inl g ↦ inl g | inr g ↦ inr (inr g) ] ])

insert_here : (b : ℕ → ℕ → Bool) (x : ℕ) (ys : List ℕ) (z : ℕ) → Mem z (x ∷ ys) → Mem z (insert b x ys)
unfolding insert
insert_here b x [] z m = m
insert_here b x (y ∷ ys) z m = cond_both (b x y) (x ∷ y ∷ ys) (y ∷ insert b x ys) (Mem z) (λ e. m)
    (λ e. elim m [ inl h ↦ inr (insert_here b x ys z (inl h)) | inr (inl h) ↦ inl h | inr (inr h) ↦ inr (insert_here b x ys z (inr h)) ])

pub ranked_there : (b : ℕ → ℕ → Bool) (f : ℕ → Bool) (i n z : ℕ) → Mem z (ranked b f i n) → (i ≤ z) × (z < i + n) × (f z ≡ true)
unfolding ranked
ranked_there b f i zero z = λ m. absurd m
ranked_there b f i (suc n) z = cond_both (f i) (insert b i (ranked b f (suc i) n)) (ranked b f (suc i) n) (λ zs. Mem z zs → (i ≤ z) × (z < i + suc n) × (f z ≡ true))
    (λ e m. elim (insert_there b i (ranked b f (suc i) n) z m) [ inl h ↦ (omega arith, omega arith, rw h e) | inr h ↦ wider (ranked_there b f (suc i) n z h) ])
    (λ e m. wider (ranked_there b f (suc i) n z m))
  where
    wider : (suc i ≤ z) × (z < suc i + n) × (f z ≡ true) → (i ≤ z) × (z < i + suc n) × (f z ≡ true)
    wider h = (omega arith, omega arith, h.2)

pub ranked_here : (b : ℕ → ℕ → Bool) (f : ℕ → Bool) (i n z : ℕ) → i ≤ z → z < i + n → f z ≡ true → Mem z (ranked b f i n)
unfolding ranked
ranked_here b f i zero z p q e = absurd (omega arith)
ranked_here b f i (suc n) z p q e = elim (cases_eq z i) [
  | inl h ↦ rw (rw h at e) (insert_here b i (ranked b f (suc i) n) z (inl h))
  | inr h ↦ cond_both (f i) (insert b i (ranked b f (suc i) n)) (ranked b f (suc i) n) (Mem z)
      (λ g. insert_here b i (ranked b f (suc i) n) z (inr (ranked_here b f (suc i) n z (omega arith) (omega arith) e)))
      (λ g. ranked_here b f (suc i) n z (omega arith) (omega arith) e)
]

insert_length : (b : ℕ → ℕ → Bool) (x : ℕ) (ys : List ℕ) → length (insert b x ys) ≡ suc (length ys)
unfolding insert
insert_length b x [] = refl
insert_length b x (y ∷ ys) = cond_both (b x y) (x ∷ y ∷ ys) (y ∷ insert b x ys) (λ zs. length zs ≡ suc (suc (length ys))) (λ e. refl) (λ e. ap suc (insert_length b x ys))

pub ranked_length : (b : ℕ → ℕ → Bool) (f : ℕ → Bool) (i n : ℕ) → length (ranked b f i n) ≡ tally f i n
unfolding ranked tally
ranked_length b f i zero = refl
ranked_length b f i (suc n) = grind (arith, insert_length b i (ranked b f (suc i) n), ranked_length b f (suc i) n)

module _ (b : ℕ → ℕ → Bool) (s : Strict b) where
  insert_sorted : (x : ℕ) (ys : List ℕ) → ((y : ℕ) → Mem y ys → x ≢ y) → Sorted b ys → Sorted b (insert b x ys)
  unfolding insert
  insert_sorted x [] d h = (λ y m. absurd m, tt)
  insert_sorted x (y ∷ ys) d h = cond_both (b x y) (x ∷ y ∷ ys) (y ∷ insert b x ys) (Sorted b)
      (λ e. (λ z m. elim m [ inl g ↦ rw g e | inr g ↦ s.transitive x y z e (h.0 z g) ], h))
      (λ e. (λ z m. elim (insert_there b x ys z m) [ inl g ↦ rw g (s.total x y (d y (inl refl)) e) | inr g ↦ h.0 z g ], insert_sorted x ys (λ z m. d z (inr m)) h.1))

  pub ranked_sorted : (f : ℕ → Bool) (i n : ℕ) → Sorted b (ranked b f i n)
  unfolding ranked
  ranked_sorted f i zero = tt
  ranked_sorted f i (suc n) = cond_both (f i) (insert b i (ranked b f (suc i) n)) (ranked b f (suc i) n) (Sorted b)
      (λ e. insert_sorted i (ranked b f (suc i) n) (λ y m. omega (arith, (ranked_there b f (suc i) n y m).0)) (ranked_sorted f (suc i) n))
      (λ e. ranked_sorted f (suc i) n)

  -- two lists from best to worst of the same lots are equal
  pub sorted_one : (xs ys : List ℕ) → Sorted b xs → Sorted b ys → ((z : ℕ) → Mem z xs → Mem z ys) → ((z : ℕ) → Mem z ys → Mem z xs) → xs ≡ ys
  sorted_one [] [] p q f g = refl
  sorted_one [] (y ∷ ys) p q f g = absurd (g y (inl refl))
  sorted_one (x ∷ xs) [] p q f g = absurd (f x (inl refl))
  sorted_one (x ∷ xs) (y ∷ ys) p q f g =
      let e = same (f x (inl refl)) (g y (inl refl)) in
      let t = sorted_one xs ys p.1 q.1
      (λ z m. elim (f z (inr m)) [ inl h ↦ absurd (asym b s x x (p.0 x (rw (h ∙ sym e) at m)) (p.0 x (rw (h ∙ sym e) at m))) | inr h ↦ h ])
      (λ z m. elim (g z (inr m)) [ inl h ↦ absurd (asym b s y y (q.0 y (rw (h ∙ e) at m)) (q.0 y (rw (h ∙ e) at m))) | inr h ↦ h ]) in
      cc
    where
      same : Mem x (y ∷ ys) → Mem y (x ∷ xs) → x ≡ y
      same (inl e) m = e
      same (inr m) (inl e) = sym e
      same (inr m) (inr n) = absurd (asym b s x y (p.0 y n) (q.0 x m))

  -- the lots of the spines
  pub spine_r_best : (o : ℕ) (t : Tree) → Follows b o t → (z : ℕ) → Mem z (spine_r o t) → Best b z (o + size t) z
  unfolding size spine_r
  spine_r_best o leaf f z m = absurd m
  spine_r_best o (node l w r) f z (inl e) = record { from = omega arith; upto = omega arith; over = λ m p q d. rw e (f.0.over m (omega arith) q (omega arith)) }
  spine_r_best o (node l w r) f z (inr m) =
      let h = spine_r_best (root o l) r f.2 z m in
      record { from = omega arith; upto = omega (arith, h.upto); over = λ m p q d. h.over m p (omega arith) d }

  best_spine_r : (o : ℕ) (t : Tree) → Follows b o t → (z : ℕ) → o < z → z ≤ o + size t → Best b z (o + size t) z → Mem z (spine_r o t)
  unfolding size spine_r
  best_spine_r o leaf f z p q h = absurd (omega arith)
  best_spine_r o (node l w r) f z p q h = elim (cases_order z (root o l)) [
    | inl e ↦ inl e
    | inr (inl e) ↦ absurd (asym b s z (root o l) (h.over (root o l) (omega arith) (omega arith) (omega arith)) (f.0.over z p q (omega arith)))
    | inr (inr e) ↦ inr (best_spine_r (root o l) r f.2 z e (omega arith) (record { from = omega arith; upto = omega arith; over = λ m u v d. h.over m u (omega arith) d }))
  ]

  pub spine_l_best : (o : ℕ) (t : Tree) → Follows b o t → (z : ℕ) → Mem z (spine_l o t) → Best b (suc o) z z
  unfolding size spine_l
  spine_l_best o leaf f z m = absurd m
  spine_l_best o (node l w r) f z (inl e) = record { from = omega arith; upto = omega arith; over = λ m p q d. rw e (f.0.over m p (omega arith) (omega arith)) }
  spine_l_best o (node l w r) f z (inr m) = spine_l_best o l f.1 z m

  best_spine_l : (o : ℕ) (t : Tree) → Follows b o t → (z : ℕ) → o < z → z ≤ o + size t → Best b (suc o) z z → Mem z (spine_l o t)
  unfolding size spine_l
  best_spine_l o leaf f z p q h = absurd (omega arith)
  best_spine_l o (node l w r) f z p q h = elim (cases_order z (root o l)) [
    | inl e ↦ inl e
    | inr (inl e) ↦ inr (best_spine_l o l f.1 z p (omega arith) h)
    | inr (inr e) ↦ absurd (asym b s z (root o l) (h.over (root o l) (omega arith) (omega arith) (omega arith)) (f.0.over z p q (omega arith)))
  ]

-- the merged lots of two lists
weave : List Bool → List ℕ → List ℕ → List ℕ
weave [] xs ys = []
weave (false ∷ w) [] ys = []
weave (false ∷ w) (x ∷ xs) ys = x ∷ weave w xs ys
weave (true ∷ w) xs [] = []
weave (true ∷ w) xs (y ∷ ys) = y ∷ weave w xs ys

weave_there : (w : List Bool) (xs ys : List ℕ) (z : ℕ) → Mem z (weave w xs ys) → Mem z xs ⊎ Mem z ys
unfolding weave
weave_there [] xs ys z m = absurd m
weave_there (false ∷ w) [] ys z m = absurd m
weave_there (false ∷ w) (x ∷ xs) ys z (inl e) = inl (inl e)
weave_there (false ∷ w) (x ∷ xs) ys z (inr m) = elim (weave_there w xs ys z m) [ inl h ↦ inl (inr h) | inr h ↦ inr h ]
weave_there (true ∷ w) xs [] z m = absurd m
weave_there (true ∷ w) xs (y ∷ ys) z (inl e) = inr (inl e)
weave_there (true ∷ w) xs (y ∷ ys) z (inr m) = elim (weave_there w xs ys z m) [ inl h ↦ inl h | inr h ↦ inr (inr h) ]

weave_here : (b : ℕ → ℕ → Bool) (w : List Bool) (xs ys : List ℕ) → Merged b w xs ys → (z : ℕ) → Mem z xs ⊎ Mem z ys → Mem z (weave w xs ys)
unfolding weave
weave_here b [] [] [] m z (inl h) = h
weave_here b [] [] [] m z (inr h) = h
weave_here b [] [] (y ∷ ys) m z h = absurd m
weave_here b [] (x ∷ xs) ys m z h = absurd m
weave_here b (false ∷ w) [] ys m z h = absurd m
weave_here b (false ∷ w) (x ∷ xs) ys m z h = elim h [ inl (inl e) ↦ inl e | inl (inr k) ↦ inr (weave_here b w xs ys m.1 z (inl k)) | inr k ↦ inr (weave_here b w xs ys m.1 z (inr k)) ]
weave_here b (true ∷ w) xs [] m z h = absurd m
weave_here b (true ∷ w) xs (y ∷ ys) m z h = elim h [ inr (inl e) ↦ inl e | inr (inr k) ↦ inr (weave_here b w xs ys m.1 z (inr k)) | inl k ↦ inr (weave_here b w xs ys m.1 z (inl k)) ]

weave_sorted : (b : ℕ → ℕ → Bool) (w : List Bool) (xs ys : List ℕ) → Merged b w xs ys → Sorted b xs → Sorted b ys → Sorted b (weave w xs ys)
unfolding weave
weave_sorted b [] xs ys m p q = tt
weave_sorted b (false ∷ w) [] ys m p q = tt
weave_sorted b (false ∷ w) (x ∷ xs) ys m p q = (λ z h. elim (weave_there w xs ys z h) [ inl k ↦ p.0 z k | inr k ↦ m.0 z k ], weave_sorted b w xs ys m.1 p.1 q)
weave_sorted b (true ∷ w) xs [] m p q = tt
weave_sorted b (true ∷ w) xs (y ∷ ys) m p q = (λ z h. elim (weave_there w xs ys z h) [ inl k ↦ m.0 z k | inr k ↦ q.0 z k ], weave_sorted b w xs ys m.1 p q.1)

weave_word : (b : ℕ → ℕ → Bool) (k : ℕ) (w : List Bool) (xs ys : List ℕ) → Merged b w xs ys → ((x : ℕ) → Mem x xs → x < k) → ((y : ℕ) → Mem y ys → k < y) → map (ltb k) (weave w xs ys) ≡ w
unfolding weave
weave_word b k [] xs ys m f g = refl
weave_word b k (false ∷ w) [] ys m f g = absurd m
weave_word b k (false ∷ w) (x ∷ xs) ys m f g = ap₂ ◌∷◌ (le-ltb k x (omega (arith, f x (inl refl)))) (weave_word b k w xs ys m.1 (λ x h. f x (inr h)) g)
weave_word b k (true ∷ w) xs [] m f g = absurd m
weave_word b k (true ∷ w) xs (y ∷ ys) m f g = ap₂ ◌∷◌ (lt-ltb k y (g y (inl refl))) (weave_word b k w xs ys m.1 f (λ y h. g y (inr h)))

-- a part of the whole tree: what stands before and after it
pub record Within (b : ℕ → ℕ → Bool) (n o : ℕ) (t : Tree) : Type 0 where
  pub fits : o + size t ≤ n
  pub before : (o ≡ 0) ⊎ ((m : ℕ) → o < m → m ≤ o + size t → b o m ≡ true)
  pub after : o + size t < n → (m : ℕ) → o < m → m ≤ o + size t → b (suc (o + size t)) m ≡ true

pub within_left : (b : ℕ → ℕ → Bool) (n o : ℕ) (l : Tree) (w : List Bool) (r : Tree) → Follows b o (node l w r) → Within b n o (node l w r) → Within b n o l
unfolding size
within_left b n o l w r f c = record {
  fits = omega (arith, c.fits);
  before = elim c.before [ inl e ↦ inl e | inr h ↦ inr (λ m p q. h m p (omega arith)) ];
  after = λ _ m p q. f.0.over m p (omega arith) (omega arith);
}

pub within_right : (b : ℕ → ℕ → Bool) (n o : ℕ) (l : Tree) (w : List Bool) (r : Tree) → Follows b o (node l w r) → Within b n o (node l w r) → Within b n (root o l) r
unfolding size
within_right b n o l w r f c =
    let e : o + size (node l w r) ≡ root o l + size r = omega arith in
    record {
      fits = omega (arith, c.fits);
      before = inr (λ m p q. f.0.over m (omega arith) (omega arith) (omega arith));
      after = λ h m p q. rw e at (c.after (omega arith) m (omega arith) (omega arith));
    }

module _ (b : ℕ → ℕ → Bool) (s : Strict b) (n o : ℕ) (l : Tree) (w : List Bool) (r : Tree) (f : Follows b o (node l w r)) (c : Within b n o (node l w r)) where
  pub left_there : (z : ℕ) → 1 ≤ z → InL b (root o l) z → Mem z (spine_r o l)
  unfolding size
  left_there z p h = elim (cases_lt o z) [
    | inl g ↦ best_spine_r b s o l f.1 z g (omega (arith, h.less)) (subst (λ j. Best b z j z) (omega arith) h.next)
    | inr g ↦ elim c.before [
      | inl e ↦ absurd (omega arith)
      | inr u ↦ absurd (asym b s o (root o l) (u (root o l) (omega arith) (omega arith)) (h.over.over o g (omega arith) (omega arith)))
    ]
  ]

  pub right_there : (z : ℕ) → z ≤ n → InR b (root o l) z → Mem z (spine_l (root o l) r)
  unfolding size
  right_there z q h = elim (cases_lt (o + size (node l w r)) z) [
    | inr g ↦ best_spine_l b s (root o l) r f.2 z h.less (omega arith) h.next
    | inl g ↦ absurd (asym b s (suc (o + size (node l w r))) (root o l) (c.after (omega arith) (root o l) (omega arith) (omega arith)) (h.over.over (suc (o + size (node l w r))) (omega arith) (omega arith) (omega arith)))
  ]

  side_there : (z : ℕ) → 1 ≤ z → z ≤ n → (in_l b (root o l) z || in_r b (root o l) z) ≡ true → Mem z (spine_r o l) ⊎ Mem z (spine_l (root o l) r)
  side_there z p q e = elim (or_cases (in_l b (root o l) z) (in_r b (root o l) z) e) [
    | inl h ↦ inl (left_there z p (LFromTest b (root o l) z h))
    | inr h ↦ inr (right_there z q (RFromTest b (root o l) z h))
  ]

  pub left_here : (z : ℕ) → Mem z (spine_r o l) → (1 ≤ z) × (z ≤ n) × (in_l b (root o l) z ≡ true)
  unfolding size
  left_here z m =
      let u = spine_r_in o l z m in
      let h : InL b (root o l) z = record {
        less = omega arith;
        over = record { from = omega arith; upto = omega arith; over = λ m p q d. f.0.over m (omega arith) (omega arith) d };
        next = subst (λ j. Best b z j z) (omega arith) (spine_r_best b s o l f.1 z m);
      } in
      (omega arith, omega (arith, c.fits), test_from_L b (root o l) z h)

  pub right_here : (z : ℕ) → Mem z (spine_l (root o l) r) → (1 ≤ z) × (z ≤ n) × (in_r b (root o l) z ≡ true)
  unfolding size
  right_here z m =
      let u = spine_l_in (root o l) r z m in
      let h : InR b (root o l) z = record {
        less = omega arith;
        over = record { from = omega arith; upto = omega arith; over = λ m p q d. f.0.over m (omega arith) (omega arith) d };
        next = spine_l_best b s (root o l) r f.2 z m;
      } in
      (omega arith, omega (arith, c.fits), test_from_R b (root o l) z h)

  side_here : (z : ℕ) → Mem z (spine_r o l) ⊎ Mem z (spine_l (root o l) r) → (1 ≤ z) × (z ≤ n) × ((in_l b (root o l) z || in_r b (root o l) z) ≡ true)
  side_here z (inl m) = let h = left_here z m in (h.0, h.1, or_left (in_l b (root o l) z) (in_r b (root o l) z) h.2)
  side_here z (inr m) = let h = right_here z m in (h.0, h.1, or_right (in_l b (root o l) z) (in_r b (root o l) z) h.2)

  pub full_word_lem : full_word b n (root o l) ≡ w
  unfolding full_word
  full_word_lem =
      let xs = spine_r o l in
      let k = root o l in
      let ys = spine_l k r in
      let test : ℕ → Bool = λ i. in_l b k i || in_r b k i in
      let e : ranked b test 1 n ≡ weave w xs ys = sorted_one b s (ranked b test 1 n) (weave w xs ys) (ranked_sorted b s test 1 n)
      (weave_sorted b w xs ys f.3 (spine_r_sorted b s o l f.1) (spine_l_sorted b s k r f.2))
      (λ z m. let h = ranked_there b test 1 n z m in weave_here b w xs ys f.3 z (side_there z h.0 (omega arith) h.2))
      (λ z m. let h = side_here z (weave_there w xs ys z m) in ranked_here b test 1 n z h.0 (omega arith) h.2) in
      ap (map (ltb k)) e ∙ weave_word b k w xs ys f.3 (λ x m. omega (arith, spine_r_in o l x m)) (λ y m. omega (arith, spine_l_in k r y m))

pub record Highest (b : ℕ → ℕ → Bool) (i j p : ℕ) : Type 0 where
  pub upto : p ≤ j
  pub beats : (p ≡ 0) ⊎ (b p i ≡ true)
  pub none : (m : ℕ) → p < m → m ≤ j → b m i ≡ false

pub highest_is : (b : ℕ → ℕ → Bool) (i j : ℕ) → Highest b i j (highest b i j)
unfolding highest
highest_is b i zero = record { upto = omega arith; beats = inl refl; none = λ m p q. absurd (omega arith) }
highest_is b i (suc j) =
    let h = highest_is b i j in
    cond_both (b (suc j) i) (suc j) (highest b i j) (Highest b i (suc j))
    (λ e. record { upto = omega arith; beats = inr e; none = λ m p q. absurd (omega arith) })
    (λ e. record { upto = omega (arith, h.upto); beats = h.beats; none = λ m p q. elim (cases_eq m (suc j)) [ inl g ↦ rw g e | inr g ↦ h.none m p (omega arith) ] })

module _ (b : ℕ → ℕ → Bool) (s : Strict b) (n k : ℕ) (r : Tree) (f : Follows b k r) (fits : k + size r ≤ n)
    (first : (k ≡ 0) ⊎ ((m : ℕ) → k < m → m ≤ k + size r → b k m ≡ true)) (last : (m : ℕ) → k + size r < m → m ≤ n → parent b m ≢ k) where
  child_there : (z : ℕ) → 1 ≤ z → z ≤ n → parent b z ≡ k → Mem z (spine_l k r)
  unfolding parent
  child_there z p q e =
      let h : Highest b z (z - 1) k = subst (Highest b z (z - 1)) e (highest_is b z (z - 1)) in
      elim (cases_lt (k + size r) z) [
        | inl g ↦ absurd (last z g q e)
        | inr g ↦ best_spine_l b s k r f z (omega (arith, h.upto)) g (record { from = omega (arith, h.upto); upto = omega arith; over = λ m u v d. s.total m z d (h.none m u (omega arith)) })
      ]

  child_here : (z : ℕ) → Mem z (spine_l k r) → parent b z ≡ k
  unfolding parent
  child_here z m =
      let h = highest_is b z (z - 1) in
      let g = spine_l_best b s k r f z m in
      let u = spine_l_in k r z m in
      elim (cases_order (highest b z (z - 1)) k) [
        | inl e ↦ e
        | inr (inl e) ↦ elim first [ inl i ↦ absurd (omega arith) | inr i ↦ let x = i z u.0 u.1 in let y = h.none k e (omega arith) in cc ]
        | inr (inr e) ↦ elim h.beats [ inl i ↦ absurd (omega arith) | inr i ↦ absurd (asym b s (highest b z (z - 1)) z i (g.over (highest b z (z - 1)) e (omega (arith, h.upto)) (omega (arith, h.upto)))) ]
      ]

  pub children_are : children b n k ≡ ls r
  unfolding children
  children_are =
      let test : ℕ → Bool = λ i. eqb (parent b i) k in
      let e : ranked b test 1 n ≡ spine_l k r = sorted_one b s (ranked b test 1 n) (spine_l k r) (ranked_sorted b s test 1 n) (spine_l_sorted b s k r f)
      (λ z m. let h = ranked_there b test 1 n z m in child_there z h.0 (omega arith) (eqb-true (parent b z) k h.2))
      (λ z m. let h = spine_l_in k r z m in ranked_here b test 1 n z (omega arith) (omega arith) (eq-eqb (parent b z) k (child_here z m))) in
      sym (ranked_length b test 1 n) ∙ ap length e ∙ spine_l_length k r

-- no lot after the part is a child of its root
pub none_after : (b : ℕ → ℕ → Bool) (s : Strict b) (n o : ℕ) (l : Tree) (w : List Bool) (r : Tree) → Within b n o (node l w r) → (m : ℕ) → root o l + size r < m → m ≤ n → parent b m ≢ root o l
unfolding size parent
none_after b s n o l w r c m p q e =
    let h : Highest b m (m - 1) (root o l) = subst (Highest b m (m - 1)) e (highest_is b m (m - 1)) in
    let above = c.after (omega arith) (root o l) (omega arith) (omega arith) in
    let beaten : b (root o l) m ≡ true = elim h.beats [ inl i ↦ absurd (omega arith) | inr i ↦ i ] in
    elim (cases_eq (suc (o + size (node l w r))) m) [
      | inl g ↦ asym b s (root o l) m beaten (rw g at above)
      | inr g ↦ asym b s (root o l) m beaten (s.transitive m (suc (o + size (node l w r))) (root o l) (s.total (suc (o + size (node l w r))) m g (h.none (suc (o + size (node l w r))) (omega arith) (omega arith))) above)
    ]

pub root_children : (b : ℕ → ℕ → Bool) (s : Strict b) (n o : ℕ) (l : Tree) (w : List Bool) (r : Tree) → Follows b o (node l w r) → Within b n o (node l w r) → children b n (root o l) ≡ ls r
root_children b s n o l w r f c = children_are b s n (root o l) r f.2 (within_right b n o l w r f c).fits (within_right b n o l w r f c).before (none_after b s n o l w r c)

spread_append : (g : ℕ → List Bool) (i m n k : ℕ) → k ≡ i + m → spread g i (suc (m + n)) ≡ spread g i m ++ (g k ++ spread g (suc k) n)
unfolding spread
spread_append g i zero n k e =
    let p : k ≡ i = omega arith in
    let q : 0 + n ≡ n = omega arith in
    rw (p, q)
spread_append g i (suc m) n k e =
    let q : suc m + n ≡ suc (m + n) = omega arith in
    let h = spread_append g (suc i) m n k (omega arith) in
    rw (q, append_assoc) (ap (◌++◌ (g i)) h)

pub counts_are : (b : ℕ → ℕ → Bool) (s : Strict b) (n o : ℕ) (t : Tree) → Follows b o t → Within b n o t → spread (λ j. unary (children b n j)) (suc o) (size t) ≡ counts t
unfolding size counts spread
counts_are b s n o leaf f c = refl
counts_are b s n o (node l w r) f c =
    spread_append (λ j. unary (children b n j)) (suc o) (size l) (size r) (root o l) (omega arith)
    ∙ ap₂ ◌++◌ (counts_are b s n o l f.1 (within_left b n o l w r f c)) (ap₂ ◌++◌ (ap unary (root_children b s n o l w r f c)) (counts_are b s n (root o l) r f.2 (within_right b n o l w r f c)))

pub words_are : (b : ℕ → ℕ → Bool) (s : Strict b) (n o : ℕ) (t : Tree) → Follows b o t → Within b n o t → spread (λ k. drop_last (full_word b n k)) (suc o) (size t) ≡ words t
unfolding size words spread
words_are b s n o leaf f c = refl
words_are b s n o (node l w r) f c =
    spread_append (λ k. drop_last (full_word b n k)) (suc o) (size l) (size r) (root o l) (omega arith)
    ∙ ap₂ ◌++◌ (words_are b s n o l f.1 (within_left b n o l w r f c)) (ap₂ ◌++◌ (ap drop_last (full_word_lem b s n o l w r f c)) (words_are b s n (root o l) r f.2 (within_right b n o l w r f c)))

pub sheet_is_code : (b : ℕ → ℕ → Bool) → Strict b → (t : Tree) → Follows b 0 t → sheet b (size t) ≡ encode t
unfolding sheet encode spread
sheet_is_code b s t f =
    let c : Within b (size t) 0 t = record { fits = omega arith; before = inl refl; after = λ h m p q. absurd (omega arith) } in
    let roots = children_are b s (size t) 0 t f (omega arith) (inl refl) (λ m p q e. omega arith) in
    let kids = counts_are b s (size t) 0 t f c in
    let rest = words_are b s (size t) 0 t f c in
    rw (roots, kids, rest) (ap (◌∷◌ true) (append_assoc (unary (ls t)) (counts t) (words t)))
