-- The best and the second of a range are read off the tree alone.
use Rattle.std.proofs.Common.{◌≡◌, ℕ, ◌+◌, ◌<◌, ◌≤◌, Bool, true, false, cond, ltb, leb, ◌≢◌, ◌⊎◌, List, [], ◌∷◌, refl, inl, inr, arith}
use Rattle.std.proofs.lemmas.Bool.{ltb-true, ltb-false, leb-true, leb-false, cond_both, cases_lt, cases_order}
use Rattle.leaders.specs.Order.{Strict, Best, Second}
use Rattle.leaders.specs.Tree.{Tree, leaf, node, size, Mem, Merged, root, spine_r, spine_l, Follows, best_of, scan, second_of}
use Rattle.leaders.proofs.Trees.{Sorted, spine_r_in, spine_l_in, spine_r_sorted, spine_l_sorted}

pub best_is_found : (b : ℕ → ℕ → Bool) (o : ℕ) (t : Tree) → Follows b o t → (i j : ℕ) → o < i → i ≤ j → j ≤ o + size t → Best b i j (best_of o t i j)
unfolding size best_of
best_is_found b o leaf f i j p q h = absurd (omega arith)
best_is_found b o (node l w r) f i j p q h =
    cond_both (ltb j (root o l)) _ _ (Best b i j)
    (λ e. best_is_found b o l f.1 i j p q (omega (arith, ltb-true j (root o l) e)))
    (λ e. cond_both (ltb (root o l) i) _ _ (Best b i j)
    (λ g. best_is_found b (root o l) r f.2 i j (ltb-true (root o l) i g) q (omega arith))
    (λ g. record {
      from = ltb-false (root o l) i g;
      upto = ltb-false j (root o l) e;
      over = λ m u v d. f.0.over m (omega arith) (omega arith) d;
    }))

abbrev Cand : ℕ → ℕ → List ℕ → List ℕ → ℕ → Type 0
Cand i j xs ys z = (Mem z xs × (i ≤ z)) ⊎ (Mem z ys × (z ≤ j))

abbrev OrBeats : (ℕ → ℕ → Bool) → ℕ → ℕ → Type 0
OrBeats b x m = (m ≡ x) ⊎ (b x m ≡ true)

or_beats : (b : ℕ → ℕ → Bool) → Strict b → (x y z : ℕ) → OrBeats b x y → OrBeats b y z → OrBeats b x z
or_beats b s x y z (inl p) (inl q) = inl (cc)
or_beats b s x y z (inl p) (inr q) = inr (rw p at q)
or_beats b s x y z (inr p) (inl q) = inr (rw q p)
or_beats b s x y z (inr p) (inr q) = inr (s.transitive x y z p q)

scan_found : (b : ℕ → ℕ → Bool) (i j : ℕ) (w : List Bool) (xs ys : List ℕ) → Merged b w xs ys → Sorted b xs → Sorted b ys → (z : ℕ) → Cand i j xs ys z →
    Cand i j xs ys (scan i j w xs ys) × OrBeats b (scan i j w xs ys) z
unfolding scan
scan_found b i j [] [] [] m p q z (inl c) = absurd c.0
scan_found b i j [] [] [] m p q z (inr c) = absurd c.0
scan_found b i j [] [] (y ∷ ys) m p q z c = absurd m
scan_found b i j [] (x ∷ xs) ys m p q z c = absurd m
scan_found b i j (false ∷ w) [] ys m p q z c = absurd m
scan_found b i j (false ∷ w) (x ∷ xs) ys m p q z c =
    cond_both (leb i x) x (scan i j w xs ys) (λ s. Cand i j (x ∷ xs) ys s × OrBeats b s z)
    (λ e. (inl (inl refl, leb-true i x e), elim c [ inl (inl e, h) ↦ inl e | inl (inr k, h) ↦ inr (p.0 z k) | inr (k, h) ↦ inr (m.0 z k) ]))
    (λ e. let less = leb-false i x e in lift (scan_found b i j w xs ys m.1 p.1 q z (elim c [ inl (inl e, h) ↦ absurd (omega arith) | inl (inr k, h) ↦ inl (k, h) | inr d ↦ inr d ])))
  where
    lift : Cand i j xs ys (scan i j w xs ys) × OrBeats b (scan i j w xs ys) z → Cand i j (x ∷ xs) ys (scan i j w xs ys) × OrBeats b (scan i j w xs ys) z
    lift d = (elim d.0 [ inl (k, h) ↦ inl (inr k, h) | inr k ↦ inr k ], d.1)
scan_found b i j (true ∷ w) xs [] m p q z c = absurd m
scan_found b i j (true ∷ w) xs (y ∷ ys) m p q z c =
    cond_both (leb y j) y (scan i j w xs ys) (λ s. Cand i j xs (y ∷ ys) s × OrBeats b s z)
    (λ e. (inr (inl refl, leb-true y j e), elim c [ inl (k, h) ↦ inr (m.0 z k) | inr (inl e, h) ↦ inl e | inr (inr k, h) ↦ inr (q.0 z k) ]))
    (λ e. let less = leb-false y j e in lift (scan_found b i j w xs ys m.1 p q.1 z (elim c [ inl d ↦ inl d | inr (inl e, h) ↦ absurd (omega arith) | inr (inr k, h) ↦ inr (k, h) ])))
  where
    lift : Cand i j xs ys (scan i j w xs ys) × OrBeats b (scan i j w xs ys) z → Cand i j xs (y ∷ ys) (scan i j w xs ys) × OrBeats b (scan i j w xs ys) z
    lift d = (elim d.0 [ inl k ↦ inl k | inr (k, h) ↦ inr (inr k, h) ], d.1)

cover_right : (b : ℕ → ℕ → Bool) (o : ℕ) (t : Tree) → Follows b o t → (m : ℕ) → o < m → m ≤ o + size t → (x : ℕ) × Mem x (spine_r o t) × (m ≤ x) × OrBeats b x m
unfolding size spine_r
cover_right b o leaf f m p q = absurd (omega arith)
cover_right b o (node l w r) f m p q = elim (cases_order m (root o l)) [
  | inl e ↦ (root o l, inl refl, omega arith, inl e)
  | inr (inl h) ↦ (root o l, inl refl, omega arith, inr (f.0.over m p q (omega arith)))
  | inr (inr h) ↦ let (x, k, g, a) = cover_right b (root o l) r f.2 m h (omega arith) in (x, inr k, g, a)
]

cover_left : (b : ℕ → ℕ → Bool) (o : ℕ) (t : Tree) → Follows b o t → (m : ℕ) → o < m → m ≤ o + size t → (x : ℕ) × Mem x (spine_l o t) × (x ≤ m) × OrBeats b x m
unfolding size spine_l
cover_left b o leaf f m p q = absurd (omega arith)
cover_left b o (node l w r) f m p q = elim (cases_order m (root o l)) [
  | inl e ↦ (root o l, inl refl, omega arith, inl e)
  | inr (inl h) ↦ let (x, k, g, a) = cover_left b o l f.1 m p (omega arith) in (x, inr k, g, a)
  | inr (inr h) ↦ (root o l, inl refl, omega arith, inr (f.0.over m p q (omega arith)))
]

module _ (b : ℕ → ℕ → Bool) (s : Strict b) (o : ℕ) (l r : Tree) (w : List Bool) (f : Follows b o (node l w r)) (i j : ℕ) (p : o < i) (q : i < j) (h : j ≤ o + size (node l w r)) (u : i ≤ root o l) (v : root o l ≤ j) where
  abbrev Candidate : ℕ → Type 0
  Candidate = Cand i j (spine_r o l) (spine_l (root o l) r)

  abbrev chosen : ℕ
  chosen = scan i j w (spine_r o l) (spine_l (root o l) r)

  candidate : (m : ℕ) → i ≤ m → m ≤ j → m ≢ root o l → (z : ℕ) × Candidate z × OrBeats b z m
  unfolding size
  candidate m c d e = elim (cases_order m (root o l)) [
    | inl k ↦ absurd (e k)
    | inr (inl k) ↦ let (x, y, g, a) = cover_right b o l f.1 m (omega arith) (omega arith) in (x, inl (y, omega arith), a)
    | inr (inr k) ↦ let (x, y, g, a) = cover_left b (root o l) r f.2 m (omega arith) (omega arith) in (x, inr (y, omega arith), a)
  ]

  at_root : (m : ℕ) → i ≤ m → m ≤ j → m ≢ root o l → Candidate chosen × OrBeats b chosen m
  at_root m c d e =
      let (z, g, a) = candidate m c d e in
      let (k, y) = scan_found b i j w (spine_r o l) (spine_l (root o l) r) f.3 (spine_r_sorted b s o l f.1) (spine_l_sorted b s (root o l) r f.2) z g in
      (k, or_beats b s chosen z m y a)

  placed : (z : ℕ) → Candidate z → (i ≤ z) × (z ≤ j) × (z ≢ root o l)
  placed z (inl (m, c)) = let k = spine_r_in o l z m in omega arith
  placed z (inr (m, c)) = let k = spine_l_in (root o l) r z m in omega arith

  some_other : (m : ℕ) × (i ≤ m) × (m ≤ j) × (m ≢ root o l)
  some_other = elim (cases_lt i (root o l)) [ inl k ↦ (i, omega arith, omega arith, omega arith) | inr k ↦ (j, omega arith, omega arith, omega arith) ]

  second_at_root : Best b i j (root o l) → Second b i j (root o l) chosen
  second_at_root best =
      let (m, c, d, e) = some_other in
      let k = placed chosen (at_root m c d e).0 in
      record {
        best = best;
        from = k.0;
        upto = k.1;
        other = k.2;
        over = λ m c d e g. elim (at_root m c d e).1 [ inl x ↦ absurd (g x) | inr y ↦ y ];
      }

cond_two : (t : Bool) (x y x' y' : ℕ) (P : ℕ → ℕ → Type 0) → (t ≡ true → P x x') → (t ≡ false → P y y') → P (cond t x y) (cond t x' y')
cond_two true x y x' y' P f g = f refl
cond_two false x y x' y' P f g = g refl

pub second_is_found : (b : ℕ → ℕ → Bool) → Strict b → (o : ℕ) (t : Tree) → Follows b o t → (i j : ℕ) → o < i → i < j → j ≤ o + size t → Second b i j (best_of o t i j) (second_of o t i j)
unfolding size best_of second_of
second_is_found b s o leaf f i j p q h = absurd (omega arith)
second_is_found b s o (node l w r) f i j p q h =
    cond_two (ltb j (root o l)) _ _ _ _ (Second b i j)
    (λ e. second_is_found b s o l f.1 i j p q (omega (arith, ltb-true j (root o l) e)))
    (λ e. cond_two (ltb (root o l) i) _ _ _ _ (Second b i j)
    (λ g. second_is_found b s (root o l) r f.2 i j (ltb-true (root o l) i g) q (omega arith))
    (λ g. let u = ltb-false (root o l) i g in let v = ltb-false j (root o l) e in
    second_at_root b s o l r w f i j p q h u v (record { from = u; upto = v; over = λ m u v d. f.0.over m (omega arith) (omega arith) d })))
