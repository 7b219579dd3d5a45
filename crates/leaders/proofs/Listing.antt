-- The merge order of a wellformed tree, taken as an order of lots, has that tree.
use Rattle.std.proofs.Common.{◌≡◌, ℕ, ◌+◌, ◌<◌, ◌≤◌, Bool, true, false, eqb, ltb, ◌⊎◌, List, [], ◌∷◌, ◌++◌, length, sym, refl, ◌∙◌, inl, inr, arith}
use Rattle.std.proofs.lemmas.Bool.{cond_both, cases_eq, cases_lt, cases_Bool, eqb-true, eqb-false, eq-eqb, ne_eqb}
use Rattle.std.proofs.lemmas.Bool.Decides.{nat_tests}
use Rattle.leaders.specs.Order.{Strict}
use Rattle.leaders.specs.Verdict.{falses, trues}
use Rattle.leaders.specs.Rebuilt.{through, past, blend, place}
use Rattle.leaders.specs.Tree.{Tree, leaf, node, size, Wellformed, Mem, root, spine_r, spine_l, Follows, list_of, earlier}
use Rattle.leaders.proofs.Trees.{Sorted, asym, spine_r_in, spine_l_in, spine_r_sorted, spine_l_sorted, spine_r_length, spine_l_length}
use Rattle.leaders.proofs.Realise.{follows_along, pos, turn, pos_later, ltb_strict, lex_of, lex_strict, order_of, order_strict, order_root, order_left, order_right, order_across, order_back, order_follows}

mem_append : (xs ys : List ℕ) (z : ℕ) → Mem z (xs ++ ys) → Mem z xs ⊎ Mem z ys
mem_append [] ys z m = inr m
mem_append (x ∷ xs) ys z (inl e) = inl (inl e)
mem_append (x ∷ xs) ys z (inr m) = elim (mem_append xs ys z m) [ inl h ↦ inl (inr h) | inr h ↦ inr h ]

append_mem : (xs ys : List ℕ) (z : ℕ) → Mem z xs ⊎ Mem z ys → Mem z (xs ++ ys)
append_mem [] ys z (inl m) = absurd m
append_mem [] ys z (inr m) = m
append_mem (x ∷ xs) ys z m = elim m [ inl (inl e) ↦ inl e | inl (inr h) ↦ inr (append_mem xs ys z (inl h)) | inr h ↦ inr (append_mem xs ys z (inr h)) ]

through_in : (s : ℕ) (xs : List ℕ) (z : ℕ) → Mem z (through s xs) → Mem z xs
unfolding through
through_in s [] z m = m
through_in s (x ∷ xs) z (inl e) = inl e
through_in s (x ∷ xs) z (inr m) = inr (cond_both (eqb x s) [] (through s xs) (λ zs. Mem z zs → Mem z xs) (λ e h. absurd h) (λ e h. through_in s xs z h) m)

past_in : (s : ℕ) (xs : List ℕ) (z : ℕ) → Mem z (past s xs) → Mem z xs
unfolding past
past_in s [] z m = m
past_in s (x ∷ xs) z m = inr (cond_both (eqb x s) xs (past s xs) (λ zs. Mem z zs → Mem z xs) (λ e h. h) (λ e h. past_in s xs z h) m)

split_in : (s : ℕ) (xs : List ℕ) (z : ℕ) → Mem z xs → Mem z (through s xs) ⊎ Mem z (past s xs)
unfolding through past
split_in s [] z m = absurd m
split_in s (x ∷ xs) z (inl e) = inl (inl e)
split_in s (x ∷ xs) z (inr m) = elim (cases_Bool (eqb x s)) [
  | inl e ↦ rw e (inr m)
  | inr e ↦ rw e (elim (split_in s xs z m) [ inl h ↦ inl (inr h) | inr h ↦ inr h ])
]

blend_there : (w : List Bool) (ss ts xs ys : List ℕ) (z : ℕ) → Mem z (blend w ss ts xs ys) → Mem z xs ⊎ Mem z ys
unfolding blend
blend_there [] ss ts xs ys z m = mem_append xs ys z m
blend_there (false ∷ w) [] ts xs ys z m = mem_append xs ys z m
blend_there (false ∷ w) (s ∷ ss) ts xs ys z m = elim (mem_append (through s xs) (blend w ss ts (past s xs) ys) z m) [
  | inl h ↦ inl (through_in s xs z h)
  | inr h ↦ elim (blend_there w ss ts (past s xs) ys z h) [ inl g ↦ inl (past_in s xs z g) | inr g ↦ inr g ]
]
blend_there (true ∷ w) ss [] xs ys z m = mem_append xs ys z m
blend_there (true ∷ w) ss (t ∷ ts) xs ys z m = elim (mem_append (through t ys) (blend w ss ts xs (past t ys)) z m) [
  | inl h ↦ inr (through_in t ys z h)
  | inr h ↦ elim (blend_there w ss ts xs (past t ys) z h) [ inl g ↦ inl g | inr g ↦ inr (past_in t ys z g) ]
]

blend_here : (w : List Bool) (ss ts xs ys : List ℕ) (z : ℕ) → Mem z xs ⊎ Mem z ys → Mem z (blend w ss ts xs ys)
unfolding blend
blend_here [] ss ts xs ys z m = append_mem xs ys z m
blend_here (false ∷ w) [] ts xs ys z m = append_mem xs ys z m
blend_here (false ∷ w) (s ∷ ss) ts xs ys z m = append_mem (through s xs) (blend w ss ts (past s xs) ys) z (elim m [
  | inl h ↦ elim (split_in s xs z h) [ inl g ↦ inl g | inr g ↦ inr (blend_here w ss ts (past s xs) ys z (inl g)) ]
  | inr h ↦ inr (blend_here w ss ts (past s xs) ys z (inr h))
])
blend_here (true ∷ w) ss [] xs ys z m = append_mem xs ys z m
blend_here (true ∷ w) ss (t ∷ ts) xs ys z m = append_mem (through t ys) (blend w ss ts xs (past t ys)) z (elim m [
  | inr h ↦ elim (split_in t ys z h) [ inl g ↦ inl g | inr g ↦ inr (blend_here w ss ts xs (past t ys) z (inr g)) ]
  | inl h ↦ inr (blend_here w ss ts xs (past t ys) z (inl h))
])

-- the list has the tree's lots
pub list_there : (o : ℕ) (t : Tree) (z : ℕ) → Mem z (list_of o t) → (o < z) × (z ≤ o + size t)
unfolding size list_of
list_there o leaf z m = absurd m
list_there o (node l w r) z (inl e) = omega arith
list_there o (node l w r) z (inr m) = elim (blend_there w (spine_r o l) (spine_l (root o l) r) (list_of o l) (list_of (root o l) r) z m) [
  | inl h ↦ omega (arith, list_there o l z h)
  | inr h ↦ omega (arith, list_there (root o l) r z h)
]

pub list_here : (o : ℕ) (t : Tree) (z : ℕ) → o < z → z ≤ o + size t → Mem z (list_of o t)
unfolding size list_of
list_here o leaf z p q = absurd (omega arith)
list_here o (node l w r) z p q = elim (cases_eq z (root o l)) [
  | inl e ↦ inl e
  | inr e ↦ inr (blend_here w (spine_r o l) (spine_l (root o l) r) (list_of o l) (list_of (root o l) r) z (elim (cases_lt z (root o l)) [
    | inl h ↦ inl (list_here o l z p (omega arith))
    | inr h ↦ inr (list_here (root o l) r z (omega arith) (omega arith))
  ]))
]

sorted_append : (b : ℕ → ℕ → Bool) (xs ys : List ℕ) → Sorted b xs → Sorted b ys → ((x y : ℕ) → Mem x xs → Mem y ys → b x y ≡ true) → Sorted b (xs ++ ys)
sorted_append b [] ys p q f = q
sorted_append b (x ∷ xs) ys p q f =
    (λ z m. elim (mem_append xs ys z m) [ inl h ↦ p.0 z h | inr h ↦ f x z (inl refl) h ], sorted_append b xs ys p.1 q (λ x y m. f x y (inr m)))

sorted_along : (a b : ℕ → ℕ → Bool) (xs : List ℕ) → Sorted a xs → ((x y : ℕ) → Mem x xs → Mem y xs → a x y ≡ true → b x y ≡ true) → Sorted b xs
sorted_along a b [] s f = tt
sorted_along a b (x ∷ xs) s f = (λ y m. f x y (inl refl) (inr m) (s.0 y m), sorted_along a b xs s.1 (λ x y m n. f x y (inr m) (inr n)))

through_sorted : (b : ℕ → ℕ → Bool) (s : ℕ) (xs : List ℕ) → Sorted b xs → Sorted b (through s xs)
unfolding through
through_sorted b s [] p = tt
through_sorted b s (x ∷ xs) p = cond_both (eqb x s) [] (through s xs) (λ zs. Sorted b (x ∷ zs)) (λ e. (λ y m. absurd m, tt)) (λ e. (λ y m. p.0 y (through_in s xs y m), through_sorted b s xs p.1))

past_sorted : (b : ℕ → ℕ → Bool) (s : ℕ) (xs : List ℕ) → Sorted b xs → Sorted b (past s xs)
unfolding past
past_sorted b s [] p = tt
past_sorted b s (x ∷ xs) p = cond_both (eqb x s) xs (past s xs) (Sorted b) (λ e. p.1) (λ e. past_sorted b s xs p.1)

module _ (a : ℕ → ℕ → Bool) (p : Strict a) where
  past_after : (s : ℕ) (xs : List ℕ) → Sorted a xs → Mem s xs → (z : ℕ) → Mem z (past s xs) → a s z ≡ true
  unfolding past
  past_after s [] h m z = λ k. absurd k
  past_after s (x ∷ xs) h m z = cond_both (eqb x s) xs (past s xs) (λ zs. Mem z zs → a s z ≡ true)
      (λ e k. rw (← (eqb-true x s e)) (h.0 z k))
      (λ e k. past_after s xs h.1 (elim m [ inl g ↦ absurd (eqb-false x s e (sym g)) | inr g ↦ g ]) z k)

  through_before : (s : ℕ) (xs : List ℕ) → Sorted a xs → Mem s xs → (z : ℕ) → Mem z (through s xs) → a s z ≡ false
  unfolding through
  through_before s [] h m z k = absurd k
  through_before s (x ∷ xs) h m z (inl k) = elim m [ inl g ↦ rw (g, k) (p.irreflexive x) | inr g ↦ rw k (elim (cases_Bool (a s x)) [ inl e ↦ absurd (asym a p s x e (h.0 s g)) | inr e ↦ e ]) ]
  through_before s (x ∷ xs) h m z (inr k) = cond_both (eqb x s) [] (through s xs) (λ zs. Mem z zs → a s z ≡ false)
      (λ e k. absurd k)
      (λ e k. through_before s xs h.1 (elim m [ inl g ↦ absurd (eqb-false x s e (sym g)) | inr g ↦ g ]) z k) k

  part_before : (s : ℕ) (xs : List ℕ) → Sorted a xs → Mem s xs → (u v : ℕ) → Mem u (through s xs) → Mem v (past s xs) → a u v ≡ true
  part_before s xs h m u v k g =
      let x = through_before s xs h m u k in
      let y = past_after s xs h m v g in
      elim (cases_eq s u) [ inl e ↦ rw e at y | inr e ↦ p.transitive u s v (p.total s u e x) y ]

pos_none : (b : ℕ → ℕ → Bool) (w : List Bool) (x y : ℕ) (xs : List ℕ) → b x y ≡ false → pos b (false ∷ w) (x ∷ xs) y ≡ 0
unfolding pos
pos_none b w x y xs e = rw e

record Side (a : ℕ → ℕ → Bool) (b : ℕ → ℕ → Bool) (ss xs : List ℕ) : Type 0 where
  spine : Sorted a ss
  lots : Sorted a xs
  has : (z : ℕ) → Mem z ss → Mem z xs
  keeps : (x y : ℕ) → Mem x xs → Mem y xs → a x y ≡ true → b x y ≡ true

-- a side after its next lot of the spine
side_past : (a b : ℕ → ℕ → Bool) → Strict a → (s : ℕ) (ss xs : List ℕ) → Side a b (s ∷ ss) xs → Side a b ss (past s xs)
side_past a b p s ss xs h = record {
  spine = h.spine.1;
  lots = past_sorted a s xs h.lots;
  has = λ z m. elim (split_in s xs z (h.has z (inr m))) [
    | inl g ↦ absurd (differ (h.spine.0 z m) (through_before a p s xs h.lots (h.has s (inl refl)) z g))
    | inr g ↦ g
  ];
  keeps = λ x y m n. h.keeps x y (past_in s xs x m) (past_in s xs y n);
}
  where
    differ : {t : Bool} → t ≡ true → t ≡ false → ⊥
    differ {t} e g = let z : ◌≡◌ {A = ℕ} 0 1 = cc in omega arith

-- the front of a side, before all of the rest
side_front : (a b : ℕ → ℕ → Bool) → Strict a → (s : ℕ) (ss xs : List ℕ) → Side a b (s ∷ ss) xs → Sorted b (through s xs)
side_front a b p s ss xs h = sorted_along a b (through s xs) (through_sorted a s xs h.lots) (λ x y m n. h.keeps x y (through_in s xs x m) (through_in s xs y n))

side_parts : (a b : ℕ → ℕ → Bool) → Strict a → (s : ℕ) (ss xs : List ℕ) → Side a b (s ∷ ss) xs → (x y : ℕ) → Mem x (through s xs) → Mem y (past s xs) → b x y ≡ true
side_parts a b p s ss xs h x y m n = h.keeps x y (through_in s xs x m) (past_in s xs y n) (part_before a p s xs h.lots (h.has s (inl refl)) x y m n)

module _ (a c b : ℕ → ℕ → Bool) (p : Strict a) (q : Strict c) where
  blend_sorted : (w : List Bool) (ss ts xs ys : List ℕ) → falses w ≡ length ss → trues w ≡ length ts → Side a b ss xs → Side c b ts ys →
      ((x y : ℕ) → Mem x xs → Mem y ys → pos a w ss x ≤ pos c (turn w) ts y → b x y ≡ true) →
      ((y x : ℕ) → Mem y ys → Mem x xs → pos c (turn w) ts y < pos a w ss x → b y x ≡ true) → Sorted b (blend w ss ts xs ys)
  unfolding blend falses trues turn pos
  blend_sorted [] ss ts xs ys d e h k f g =
      sorted_append b xs ys (sorted_along a b xs h.lots h.keeps) (sorted_along c b ys k.lots k.keeps) (λ x y m n. f x y m n (omega arith))
  blend_sorted (false ∷ w) [] ts xs ys d e h k f g = absurd (omega arith)
  blend_sorted (false ∷ w) (s ∷ ss) ts xs ys d e h k f g =
      let in-lots = h.has s (inl refl) in
      sorted_append b (through s xs) (blend w ss ts (past s xs) ys) (side_front a b p s ss xs h)
      (blend_sorted w ss ts (past s xs) ys (omega arith) (omega arith) (side_past a b p s ss xs h) k
      (λ x y m n i. f x y (past_in s xs x m) n (omega (arith, pos_later a w s x ss (past_after a p s xs h.lots in-lots x m))))
      (λ y x n m i. g y x n (past_in s xs x m) (omega (arith, pos_later a w s x ss (past_after a p s xs h.lots in-lots x m)))))
      (λ x y m n. elim (blend_there w ss ts (past s xs) ys y n) [
        | inl i ↦ side_parts a b p s ss xs h x y m i
        | inr i ↦ f x y (through_in s xs x m) i (omega (arith, pos_none a w s x ss (through_before a p s xs h.lots in-lots x m)))
      ])
  blend_sorted (true ∷ w) ss [] xs ys d e h k f g = absurd (omega arith)
  blend_sorted (true ∷ w) ss (t ∷ ts) xs ys d e h k f g =
      let in-lots = k.has t (inl refl) in
      sorted_append b (through t ys) (blend w ss ts xs (past t ys)) (side_front c b q t ts ys k)
      (blend_sorted w ss ts xs (past t ys) (omega arith) (omega arith) h (side_past c b q t ts ys k)
      (λ x y m n i. f x y m (past_in t ys y n) (omega (arith, pos_later c (turn w) t y ts (past_after c q t ys k.lots in-lots y n))))
      (λ y x n m i. g y x (past_in t ys y n) m (omega (arith, pos_later c (turn w) t y ts (past_after c q t ys k.lots in-lots y n)))))
      (λ y x n m. elim (blend_there w ss ts xs (past t ys) x m) [
        | inr i ↦ side_parts c b q t ts ys k y x n i
        | inl i ↦ g y x (through_in t ys y n) i (omega (arith, pos_none c (turn w) t y ts (through_before c q t ys k.lots in-lots y n)))
      ])

pub list_follows_raw : (t : Tree) (o : ℕ) → Wellformed t → (b : ℕ → ℕ → Bool) × Strict b × Follows b o t × Sorted b (list_of o t)
unfolding Wellformed list_of
list_follows_raw leaf o v = (ltb, ltb_strict, tt, tt)
list_follows_raw (node l w r) o v =
    let (a, p, f, s) = list_follows_raw l o v.2 in
    let (c, q, g, t) = list_follows_raw r (root o l) v.3 in
    joined a p f s c q g t
  where
    joined : (a : ℕ → ℕ → Bool) → Strict a → Follows a o l → Sorted a (list_of o l) → (c : ℕ → ℕ → Bool) → Strict c → Follows c (root o l) r → Sorted c (list_of (root o l) r) →
        (b : ℕ → ℕ → Bool) × Strict b × Follows b o (node l w r) × Sorted b (list_of o (node l w r))
    joined a p f s c q g t =
        let k = root o l in
        let xs = spine_r o l in
        let ys = spine_l k r in
        let b = order_of a c k w xs ys in (
          b,
          order_strict a c p q k w xs ys,
          order_follows a c p q o l r w v f g,
          (
            λ z m. order_root a c p q k w xs ys z (elim (blend_there w xs ys (list_of o l) (list_of k r) z m) [ inl h ↦ omega (arith, list_there o l z h) | inr h ↦ omega (arith, list_there k r z h) ]),
            blend_sorted a c b p q w xs ys (list_of o l) (list_of k r) (v.0 ∙ sym (spine_r_length o l)) (v.1 ∙ sym (spine_l_length k r))
                (record {
                  spine = spine_r_sorted a p o l f;
                  lots = s;
                  has = λ z m. let h = spine_r_in o l z m in list_here o l z h.0 h.1;
                  keeps = λ x y m n. order_left a c p q k w xs ys x y (omega (arith, list_there o l x m)) (omega (arith, list_there o l y n));
                })
                (record {
                  spine = spine_l_sorted c q k r g;
                  lots = t;
                  has = λ z m. let h = spine_l_in k r z m in list_here k r z h.0 h.1;
                  keeps = λ x y m n. order_right a c p q k w xs ys x y (omega (arith, list_there k r x m)) (omega (arith, list_there k r y n));
                })
                (λ x y m n. order_across a c p q k w xs ys x y (omega (arith, list_there o l x m)) (omega (arith, list_there k r y n)))
                (λ y x n m. order_back a c p q k w xs ys y x (omega (arith, list_there k r y n)) (omega (arith, list_there o l x m))),
          ),
        )

place_less : (b : ℕ → ℕ → Bool) → Strict b → (zs : List ℕ) → Sorted b zs → (x y : ℕ) → Mem x zs → Mem y zs → b x y ≡ true → place zs x < place zs y
unfolding place
place_less b s [] h x y m n e = absurd m
place_less b s (z ∷ zs) h x y m n e = elim (cases_eq z y) [
  | inl i ↦ absurd (elim m [
    | inl j ↦ asym b s y y (rw (j ∙ i) at e) (rw (j ∙ i) at e)
    | inr j ↦ asym b s x y e (rw i at (h.0 x j))
  ])
  | inr i ↦ elim (cases_eq z x) [
    | inl j ↦ rw (eq-eqb z x j, ne_eqb z y i) (omega arith)
    | inr j ↦ rw (ne_eqb z x j, ne_eqb z y i) (omega (arith, place_less b s zs h.1 x y (elim m [ inl k ↦ absurd (j (sym k)) | inr k ↦ k ]) (elim n [ inl k ↦ absurd (i (sym k)) | inr k ↦ k ]) e))
  ]
]

earlier_strict : (zs : List ℕ) → Strict (earlier zs)
unfolding earlier lex_of
earlier_strict zs = lex_strict (place zs) ltb ltb_strict

pub list_follows : (t : Tree) (o : ℕ) → Wellformed t → Strict (earlier (list_of o t)) × Follows (earlier (list_of o t)) o t
unfolding earlier
list_follows t o v =
    let (b, s, f, h) = list_follows_raw t o v in (
      earlier_strict (list_of o t),
      follows_along b (earlier (list_of o t)) o t f (λ x y p q u i e.
          let less = place_less b s (list_of o t) h x y (list_here o t x p q) (list_here o t y u i) e in
          grind (arith, nat_tests)),
    )
