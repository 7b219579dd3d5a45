-- Every wellformed tree is the tree of some strict order.
use Rattle.std.proofs.Common.{◌≡◌, ℕ, suc, ◌+◌, ◌<◌, ◌≤◌, Bool, true, false, cond, not, eqb, ltb, ◌≢◌, List, [], ◌∷◌, length, sym, refl, ◌∙◌, inl, inr, arith}
use Rattle.std.proofs.lemmas.Bool.Decides.{nat_tests}
use Rattle.leaders.specs.Order.{Strict}
use Rattle.leaders.specs.Verdict.{falses, trues}
use Rattle.leaders.specs.Tree.{Tree, leaf, node, size, Wellformed, Mem, Merged, root, spine_r, spine_l, Follows}
use Rattle.leaders.proofs.Trees.{Sorted, spine_r_in, spine_l_in, spine_r_sorted, spine_l_sorted, spine_r_length, spine_l_length}

-- the lots of one side before those of the other
pub sum_of : (ℕ → Bool) → (ℕ → ℕ → Bool) → (ℕ → ℕ → Bool) → ℕ → ℕ → Bool
sum_of side a c x y = cond (side x) (cond (side y) (a x y) true) (cond (side y) false (c x y))

sum_strict : (side : ℕ → Bool) (a c : ℕ → ℕ → Bool) → Strict a → Strict c → Strict (sum_of side a c)
unfolding sum_of
sum_strict side a c p q = record {
  irreflexive = λ x. grind (arith, p.irreflexive x, q.irreflexive x);
  total = λ x y d e. grind (arith, p.total x y d, q.total x y d);
  transitive = λ x y z e g. grind (arith, p.transitive x y z, q.transitive x y z);
}

-- first by a rank, and then by an order
unfoldable pub lex_of : (ℕ → ℕ) → (ℕ → ℕ → Bool) → ℕ → ℕ → Bool
lex_of rank c x y = cond (ltb (rank x) (rank y)) true (cond (ltb (rank y) (rank x)) false (c x y))

pub lex_strict : (rank : ℕ → ℕ) (c : ℕ → ℕ → Bool) → Strict c → Strict (lex_of rank c)
unfolding lex_of
lex_strict rank c p = record {
  irreflexive = λ x. grind (arith, nat_tests, p.irreflexive x);
  total = λ x y d e. grind (arith, nat_tests, p.total x y d);
  transitive = λ x y z e g. grind (arith, nat_tests, p.transitive x y z);
}

pub ltb_strict : Strict ltb
ltb_strict = record {
  irreflexive = λ x. grind (arith, nat_tests);
  total = λ x y d e. grind (arith, nat_tests);
  transitive = λ x y z e g. grind (arith, nat_tests);
}

pub merged_along : (a c : ℕ → ℕ → Bool) (w : List Bool) (xs ys : List ℕ) → Merged a w xs ys →
    ((x y : ℕ) → Mem x xs → Mem y ys → a x y ≡ true → c x y ≡ true) → ((y x : ℕ) → Mem y ys → Mem x xs → a y x ≡ true → c y x ≡ true) → Merged c w xs ys
merged_along a c [] [] [] m f g = tt
merged_along a c [] [] (y ∷ ys) m f g = m
merged_along a c [] (x ∷ xs) ys m f g = m
merged_along a c (false ∷ w) [] ys m f g = m
merged_along a c (false ∷ w) (x ∷ xs) ys m f g =
    (λ y k. f x y (inl refl) k (m.0 y k), merged_along a c w xs ys m.1 (λ x y h. f x y (inr h)) (λ y x h k. g y x h (inr k)))
merged_along a c (true ∷ w) xs [] m f g = m
merged_along a c (true ∷ w) xs (y ∷ ys) m f g =
    (λ x k. g y x (inl refl) k (m.0 x k), merged_along a c w xs ys m.1 (λ x y h k. f x y h (inr k)) (λ y x h. g y x (inr h)))

-- an order that agrees on the tree's lots has the tree too
pub follows_along : (a c : ℕ → ℕ → Bool) (o : ℕ) (t : Tree) → Follows a o t →
    ((x y : ℕ) → o < x → x ≤ o + size t → o < y → y ≤ o + size t → a x y ≡ true → c x y ≡ true) → Follows c o t
unfolding size
follows_along a c o leaf f g = tt
follows_along a c o (node l w r) f g = (
  record { from = f.0.from; upto = f.0.upto; over = λ m p q d. g (root o l) m (omega arith) (omega arith) (omega arith) (omega arith) (f.0.over m p q d) },
  follows_along a c o l f.1 (λ x y p q u v. g x y p (omega arith) u (omega arith)),
  follows_along a c (root o l) r f.2 (λ x y p q u v. g x y (omega arith) (omega arith) (omega arith) (omega arith)),
  merged_along a c w (spine_r o l) (spine_l (root o l) r) f.3
      (λ x y m n. let p = spine_r_in o l x m in let q = spine_l_in (root o l) r y n in g x y (omega arith) (omega arith) (omega arith) (omega arith))
      (λ y x n m. let p = spine_r_in o l x m in let q = spine_l_in (root o l) r y n in g y x (omega arith) (omega arith) (omega arith) (omega arith)),
)

-- how much of the word w comes before x, if its falses stand for ss and x is of that side
unfoldable pub pos : (ℕ → ℕ → Bool) → List Bool → List ℕ → ℕ → ℕ
pos b [] ss x = 0
pos b (true ∷ w) ss x = suc (pos b w ss x)
pos b (false ∷ w) [] x = 0
pos b (false ∷ w) (s ∷ ss) x = cond (b s x) (suc (pos b w ss x)) 0

unfoldable pub turn : List Bool → List Bool
turn [] = []
turn (c ∷ w) = not c ∷ turn w

pub pos_first : (b : ℕ → ℕ → Bool) (w : List Bool) (x : ℕ) (xs : List ℕ) → b x x ≡ false → pos b (false ∷ w) (x ∷ xs) x ≡ 0
unfolding pos
pos_first b w x xs e = rw e

pub pos_later : (b : ℕ → ℕ → Bool) (w : List Bool) (x y : ℕ) (xs : List ℕ) → b x y ≡ true → pos b (false ∷ w) (x ∷ xs) y ≡ suc (pos b w xs y)
unfolding pos
pos_later b w x y xs e = rw e

pos_up : (b : ℕ → ℕ → Bool) → Strict b → (w : List Bool) (ss : List ℕ) (x y : ℕ) → b x y ≡ true → pos b w ss x ≤ pos b w ss y
unfolding pos
pos_up b s [] ss x y e = omega arith
pos_up b s (true ∷ w) ss x y e = omega (arith, pos_up b s w ss x y e)
pos_up b s (false ∷ w) [] x y e = omega arith
pos_up b s (false ∷ w) (z ∷ ss) x y e = grind (arith, s.transitive z x y, pos_up b s w ss x y e)

module _ (a c b : ℕ → ℕ → Bool) (p : Strict a) (q : Strict c) where
  merged_by : (w : List Bool) (xs ys : List ℕ) → falses w ≡ length xs → trues w ≡ length ys → Sorted a xs → Sorted c ys →
      ((x y : ℕ) → Mem x xs → Mem y ys → pos a w xs x ≤ pos c (turn w) ys y → b x y ≡ true) →
      ((y x : ℕ) → Mem y ys → Mem x xs → pos c (turn w) ys y < pos a w xs x → b y x ≡ true) → Merged b w xs ys
  unfolding falses trues turn pos
  merged_by [] [] [] h k s t f g = tt
  merged_by [] [] (y ∷ ys) h k s t f g = absurd (omega arith)
  merged_by [] (x ∷ xs) ys h k s t f g = absurd (omega arith)
  merged_by (false ∷ w) [] ys h k s t f g = absurd (omega arith)
  merged_by (false ∷ w) (x ∷ xs) ys h k s t f g = (
    λ y m. f x y (inl refl) m (omega (arith, pos_first a w x xs (p.irreflexive x))),
    merged_by w xs ys (omega arith) (omega arith) s.1 t
        (λ z y m n e. f z y (inr m) n (omega (arith, pos_later a w x z xs (s.0 z m))))
        (λ y z n m e. g y z n (inr m) (omega (arith, pos_later a w x z xs (s.0 z m)))),
  )
  merged_by (true ∷ w) xs [] h k s t f g = absurd (omega arith)
  merged_by (true ∷ w) xs (y ∷ ys) h k s t f g = (
    λ x m. g y x (inl refl) m (omega (arith, pos_first c (turn w) y ys (q.irreflexive y))),
    merged_by w xs ys (omega arith) (omega arith) s t.1
        (λ x z m n e. f x z m (inr n) (omega (arith, pos_later c (turn w) y z ys (t.0 z n))))
        (λ z x n m e. g z x (inr n) m (omega (arith, pos_later c (turn w) y z ys (t.0 z n)))),
  )

-- the order of a node from those of its parts: k first, then by how much of w comes before
pub rank_of : (a c : ℕ → ℕ → Bool) (k : ℕ) (w : List Bool) (xs ys : List ℕ) → ℕ → ℕ
rank_of a c k w xs ys x = cond (eqb x k) 0 (suc (cond (ltb x k) (pos a w xs x) (pos c (turn w) ys x)))

pub order_of : (a c : ℕ → ℕ → Bool) (k : ℕ) (w : List Bool) (xs ys : List ℕ) → ℕ → ℕ → Bool
order_of a c k w xs ys = lex_of (rank_of a c k w xs ys) (sum_of (λ x. ltb x k) a c)

module _ (a c : ℕ → ℕ → Bool) (p : Strict a) (q : Strict c) (k : ℕ) (w : List Bool) (xs ys : List ℕ) where
  pub order_strict : Strict (order_of a c k w xs ys)
  unfolding order_of
  order_strict = lex_strict (rank_of a c k w xs ys) (sum_of (λ x. ltb x k) a c) (sum_strict (λ x. ltb x k) a c p q)

  pub order_root : (m : ℕ) → m ≢ k → order_of a c k w xs ys k m ≡ true
  unfolding order_of lex_of rank_of
  order_root m d = grind (arith, nat_tests)

  pub order_left : (x y : ℕ) → x < k → y < k → a x y ≡ true → order_of a c k w xs ys x y ≡ true
  unfolding order_of lex_of rank_of sum_of
  order_left x y h g e = let u = pos_up a p w xs x y e in grind (arith, nat_tests)

  pub order_right : (x y : ℕ) → k < x → k < y → c x y ≡ true → order_of a c k w xs ys x y ≡ true
  unfolding order_of lex_of rank_of sum_of
  order_right x y h g e = let u = pos_up c q (turn w) ys x y e in grind (arith, nat_tests)

  pub order_across : (x y : ℕ) → x < k → k < y → pos a w xs x ≤ pos c (turn w) ys y → order_of a c k w xs ys x y ≡ true
  unfolding order_of lex_of rank_of sum_of
  order_across x y h g e = grind (arith, nat_tests)

  pub order_back : (y x : ℕ) → k < y → x < k → pos c (turn w) ys y < pos a w xs x → order_of a c k w xs ys y x ≡ true
  unfolding order_of lex_of rank_of sum_of
  order_back y x h g e = grind (arith, nat_tests)

pub order_follows : (a c : ℕ → ℕ → Bool) (p : Strict a) (q : Strict c) (o : ℕ) (l r : Tree) (w : List Bool) → Wellformed (node l w r) → Follows a o l → Follows c (root o l) r →
    Follows (order_of a c (root o l) w (spine_r o l) (spine_l (root o l) r)) o (node l w r)
unfolding Wellformed size
order_follows a c p q o l r w v f g =
    let xs = spine_r o l in
    let k = root o l in
    let ys = spine_l k r in
    let b = order_of a c k w xs ys in (
      record { from = omega arith; upto = omega arith; over = λ m x y d. order_root a c p q k w xs ys m d },
      follows_along a b o l f (λ x y h i j e. order_left a c p q k w xs ys x y (omega arith) (omega arith)),
      follows_along c b k r g (λ x y h i j e. order_right a c p q k w xs ys x y (omega arith) (omega arith)),
      merged_by a c b p q w xs ys (v.0 ∙ sym (spine_r_length o l)) (v.1 ∙ sym (spine_l_length k r)) (spine_r_sorted a p o l f) (spine_l_sorted c q k r g)
          (λ x y m n. order_across a c p q k w xs ys x y (omega (arith, spine_r_in o l x m)) (omega (arith, spine_l_in k r y n)))
          (λ y x n m. order_back a c p q k w xs ys y x (omega (arith, spine_l_in k r y n)) (omega (arith, spine_r_in o l x m))),
    )

pub every_tree_has_an_order : (t : Tree) (o : ℕ) → Wellformed t → (b : ℕ → ℕ → Bool) × Strict b × Follows b o t
unfolding Wellformed
every_tree_has_an_order leaf o v = (ltb, ltb_strict, tt)
every_tree_has_an_order (node l w r) o v =
    let (a, p, f) = every_tree_has_an_order l o v.2 in
    let (c, q, g) = every_tree_has_an_order r (root o l) v.3 in
    (order_of a c (root o l) w (spine_r o l) (spine_l (root o l) r), order_strict a c p q (root o l) w (spine_r o l) (spine_l (root o l) r), order_follows a c p q o l r w v f g)
