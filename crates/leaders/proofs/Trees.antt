-- Every strict order of lots has exactly one tree, and it is wellformed.
use Rattle.std.proofs.Common.{◌≡◌, ℕ, zero, suc, ◌+◌, ◌-◌, ◌<◌, ◌≤◌, Bool, true, false, ◌≢◌, List, [], ◌∷◌, length, sym, refl, ap, ◌∙◌, subst, inl, inr, arith}
use native.Mathlib.Decide.{ℕ_discrete}
use Rattle.leaders.specs.Order.{Strict, Best}
use Rattle.leaders.specs.Verdict.{falses, trues}
use Rattle.leaders.specs.Tree.{Tree, leaf, node, size, ls, rs, Wellformed, Mem, Above, Merged, root, spine_r, spine_l, Follows}

abbrev pub Sorted : (ℕ → ℕ → Bool) → List ℕ → Type 0
Sorted b [] = Unit {0}
Sorted b (x ∷ xs) = Above b x xs × Sorted b xs

-- the lots of a spine are lots of the tree
pub spine_r_in : (o : ℕ) (t : Tree) (x : ℕ) → Mem x (spine_r o t) → (o < x) × (x ≤ o + size t)
unfolding size spine_r
spine_r_in o leaf x m = absurd m
spine_r_in o (node l w r) x (inl e) = omega arith
spine_r_in o (node l w r) x (inr m) = omega (arith, spine_r_in (root o l) r x m)

pub spine_l_in : (o : ℕ) (t : Tree) (x : ℕ) → Mem x (spine_l o t) → (o < x) × (x ≤ o + size t)
unfolding size spine_l
spine_l_in o leaf x m = absurd m
spine_l_in o (node l w r) x (inl e) = omega arith
spine_l_in o (node l w r) x (inr m) = omega (arith, spine_l_in o l x m)

pub spine_r_length : (o : ℕ) (t : Tree) → length (spine_r o t) ≡ rs t
unfolding rs spine_r
spine_r_length o leaf = refl
spine_r_length o (node l w r) = ap suc (spine_r_length (root o l) r)

pub spine_l_length : (o : ℕ) (t : Tree) → length (spine_l o t) ≡ ls t
unfolding ls spine_l
spine_l_length o leaf = refl
spine_l_length o (node l w r) = ap suc (spine_l_length o l)

merged_falses : (b : ℕ → ℕ → Bool) (w : List Bool) (xs ys : List ℕ) → Merged b w xs ys → falses w ≡ length xs
unfolding falses
merged_falses b [] [] ys m = refl
merged_falses b [] (x ∷ xs) ys m = absurd m
merged_falses b (false ∷ w) [] ys m = absurd m
merged_falses b (false ∷ w) (x ∷ xs) ys m = ap suc (merged_falses b w xs ys m.1)
merged_falses b (true ∷ w) xs [] m = absurd m
merged_falses b (true ∷ w) xs (y ∷ ys) m = merged_falses b w xs ys m.1

merged_trues : (b : ℕ → ℕ → Bool) (w : List Bool) (xs ys : List ℕ) → Merged b w xs ys → trues w ≡ length ys
unfolding trues
merged_trues b [] [] [] m = refl
merged_trues b [] [] (y ∷ ys) m = absurd m
merged_trues b [] (x ∷ xs) ys m = absurd m
merged_trues b (false ∷ w) [] ys m = absurd m
merged_trues b (false ∷ w) (x ∷ xs) ys m = merged_trues b w xs ys m.1
merged_trues b (true ∷ w) xs [] m = absurd m
merged_trues b (true ∷ w) xs (y ∷ ys) m = ap suc (merged_trues b w xs ys m.1)

pub trees_are_wellformed : (b : ℕ → ℕ → Bool) (o : ℕ) (t : Tree) → Follows b o t → Wellformed t
unfolding Wellformed
trees_are_wellformed b o leaf f = tt
trees_are_wellformed b o (node l w r) f = (
  merged_falses b w (spine_r o l) (spine_l (root o l) r) f.3 ∙ spine_r_length o l,
  merged_trues b w (spine_r o l) (spine_l (root o l) r) f.3 ∙ spine_l_length (root o l) r,
  trees_are_wellformed b o l f.1,
  trees_are_wellformed b (root o l) r f.2,
)

module _ (b : ℕ → ℕ → Bool) (s : Strict b) where
  pub asym : (x y : ℕ) → b x y ≡ true → b y x ≡ true → ⊥
  asym x y p q =
      let h = s.transitive x y x p q in
      let i = s.irreflexive x in
      let z : ◌≡◌ {A = ℕ} 0 1 = cc in omega arith

  pub best_one : (i j k m : ℕ) → Best b i j k → Best b i j m → k ≡ m
  best_one i j k m p q = elim (ℕ_discrete k m) [ yes e ↦ e | no d ↦ absurd (asym k m (p.over m q.from q.upto (λ e. d (sym e))) (q.over k p.from p.upto d)) ]

  ended : (a : Bool) (w : List Bool) (xs ys : List ℕ) → Merged b [] xs ys → Merged b (a ∷ w) xs ys → ⊥
  ended false w [] ys p q = q
  ended false w (x ∷ xs) ys p q = p
  ended true w [] [] p q = q
  ended true w (x ∷ xs) [] p q = q
  ended true w [] (y ∷ ys) p q = p
  ended true w (x ∷ xs) (y ∷ ys) p q = p

  parted : (v w : List Bool) (xs ys : List ℕ) → Merged b (false ∷ v) xs ys → Merged b (true ∷ w) xs ys → ⊥
  parted v w [] ys p q = p
  parted v w (x ∷ xs) [] p q = q
  parted v w (x ∷ xs) (y ∷ ys) p q = asym x y (p.0 y (inl refl)) (q.0 x (inl refl))

  merged_one : (v w : List Bool) (xs ys : List ℕ) → Merged b v xs ys → Merged b w xs ys → v ≡ w
  merged_one [] [] xs ys p q = refl
  merged_one [] (a ∷ w) xs ys p q = absurd (ended a w xs ys p q)
  merged_one (a ∷ v) [] xs ys p q = absurd (ended a v xs ys q p)
  merged_one (false ∷ v) (false ∷ w) [] ys p q = absurd p
  merged_one (false ∷ v) (false ∷ w) (x ∷ xs) ys p q = ap (◌∷◌ false) (merged_one v w xs ys p.1 q.1)
  merged_one (true ∷ v) (true ∷ w) xs [] p q = absurd p
  merged_one (true ∷ v) (true ∷ w) xs (y ∷ ys) p q = ap (◌∷◌ true) (merged_one v w xs ys p.1 q.1)
  merged_one (false ∷ v) (true ∷ w) xs ys p q = absurd (parted v w xs ys p q)
  merged_one (true ∷ v) (false ∷ w) xs ys p q = absurd (parted w v xs ys q p)

  one_tree : (o : ℕ) (t u : Tree) → Follows b o t → Follows b o u → size t ≡ size u → t ≡ u
  unfolding size
  one_tree o leaf leaf f g e = refl
  one_tree o leaf (node l w r) f g e = absurd (omega arith)
  one_tree o (node l w r) leaf f g e = absurd (omega arith)
  one_tree o (node l w r) (node l' w' r') f g e =
      let k : root o l ≡ root o l' = best_one (suc o) (o + size (node l w r)) (root o l) (root o l') f.0 (subst (λ z. Best b (suc o) (o + z) (root o l')) (sym e) g.0) in
      let p = one_tree o l l' f.1 g.1 (omega arith) in
      let q = one_tree (root o l) r r' f.2 (subst (λ z. Follows b z r') (sym k) g.2) (omega arith) in
      let m = merged_one w w' (spine_r o l) (spine_l (root o l) r) f.3 (rw (p, q) g.3) in
      cc

  -- the best of a range
  best_is : (n i : ℕ) → (k : ℕ) × Best b i (i + n) k
  best_is zero i = (i, record { from = omega arith; upto = omega arith; over = λ m p q d. absurd (d (omega arith)) })
  best_is (suc n) i =
      let (k, h) = best_is n i in
      pick k h (b k (i + suc n)) refl
    where
      pick : (k : ℕ) → Best b i (i + n) k → (v : Bool) → b k (i + suc n) ≡ v → (k : ℕ) × Best b i (i + suc n) k
      pick k h true e = (k, record { from = h.from; upto = omega (arith, h.upto); over = λ m p q d. elim (ℕ_discrete m (i + suc n)) [ yes z ↦ rw z e | no z ↦ h.over m p (omega arith) d ] })
      pick k h false e =
          let u = s.total k (i + suc n) (omega (arith, h.upto)) e in
          (i + suc n, record { from = omega arith; upto = omega arith; over = λ m p q d. elim (ℕ_discrete m k) [ yes z ↦ rw z u | no z ↦ s.transitive (i + suc n) k m u (h.over m p (omega arith) z) ] })

  above_front : (x y : ℕ) (ys : List ℕ) → b x y ≡ true → Above b y ys → Above b x (y ∷ ys)
  above_front x y ys h a z (inl e) = rw e h
  above_front x y ys h a z (inr m) = s.transitive x y z h (a z m)

  merged_is : (xs ys : List ℕ) → Sorted b xs → Sorted b ys → ((x y : ℕ) → Mem x xs → Mem y ys → x ≢ y) → (w : List Bool) × Merged b w xs ys
  merged_is [] [] p q d = ([], tt)
  merged_is [] (y ∷ ys) p q d =
      let (w, h) = merged_is [] ys p q.1 (λ x y m n. d x y m (inr n)) in
      (true ∷ w, (λ z m. absurd m, h))
  merged_is (x ∷ xs) ys p q d = go (λ ys. merged_is xs ys p.1) ys q d
    where
      go : ((ys : List ℕ) → Sorted b ys → ((x y : ℕ) → Mem x xs → Mem y ys → x ≢ y) → (w : List Bool) × Merged b w xs ys) →
          (ys : List ℕ) → Sorted b ys → ((z y : ℕ) → Mem z (x ∷ xs) → Mem y ys → z ≢ y) → (w : List Bool) × Merged b w (x ∷ xs) ys
      go ih [] q d =
          let (w, h) = ih [] tt (λ x y m n. absurd n) in
          (false ∷ w, (λ z m. absurd m, h))
      go ih (y ∷ ys) q d =
          pick (go ih ys q.1 (λ z y m n. d z y m (inr n))) (ih (y ∷ ys) q (λ z y m n. d z y (inr m) n)) (b x y) refl
        where
          pick : ((w : List Bool) × Merged b w (x ∷ xs) ys) → ((w : List Bool) × Merged b w xs (y ∷ ys)) → (v : Bool) → b x y ≡ v → (w : List Bool) × Merged b w (x ∷ xs) (y ∷ ys)
          pick f g true e = (false ∷ g.0, (above_front x y ys e q.0, g.1))
          pick f g false e = (true ∷ f.0, (above_front y x xs (s.total x y (d x y (inl refl) (inl refl)) e) p.0, f.1))

  pub spine_r_sorted : (o : ℕ) (t : Tree) → Follows b o t → Sorted b (spine_r o t)
  unfolding spine_r size
  spine_r_sorted o leaf f = tt
  spine_r_sorted o (node l w r) f =
      (λ y m. let h = spine_r_in (root o l) r y m in f.0.over y (omega arith) (omega arith) (omega arith), spine_r_sorted (root o l) r f.2)

  pub spine_l_sorted : (o : ℕ) (t : Tree) → Follows b o t → Sorted b (spine_l o t)
  unfolding spine_l size
  spine_l_sorted o leaf f = tt
  spine_l_sorted o (node l w r) f =
      (λ y m. let h = spine_l_in o l y m in f.0.over y (omega arith) (omega arith) (omega arith), spine_l_sorted o l f.1)

  joined : (o n : ℕ) (l r : Tree) → Best b (suc o) (suc o + n) (root o l) → Follows b o l → Follows b (root o l) r → size l + size r ≡ n → (t : Tree) × (size t ≡ suc n) × Follows b o t
  unfolding size
  joined o n l r h f g e =
      let (w, m) = merged_is (spine_r o l) (spine_l (root o l) r) (spine_r_sorted o l f) (spine_l_sorted (root o l) r g) (λ x y p q. omega (arith, spine_r_in o l x p, spine_l_in (root o l) r y q)) in
      (node l w r, ap suc e, (record { from = omega arith; upto = omega arith; over = λ x p q d. h.over x p (omega arith) d }, f, g, m))

  tree_is : (depth n o : ℕ) → n ≤ depth → (t : Tree) × (size t ≡ n) × Follows b o t
  unfolding size
  tree_is depth zero o d = (leaf, refl, tt)
  tree_is zero (suc n) o d = absurd (omega arith)
  tree_is (suc depth) (suc n) o d =
      let (k, h) = best_is n (suc o) in
      let (l, p, f) = tree_is depth (k - suc o) o (omega (arith, h.upto)) in
      let (r, q, g) = tree_is depth (suc o + n - k) k (omega (arith, h.from)) in
      let e : k ≡ root o l = omega (arith, h.from) in
      joined o n l r (subst (Best b (suc o) (suc o + n)) e h) f (subst (λ z. Follows b z r) e g) (omega (arith, h.from, h.upto))

pub has_a_tree : (b : ℕ → ℕ → Bool) → Strict b → (o n : ℕ) → (t : Tree) × (size t ≡ n) × Follows b o t
has_a_tree b s o n = tree_is b s n n o (omega arith)

pub has_one_tree : (b : ℕ → ℕ → Bool) → Strict b → (o : ℕ) (t u : Tree) → Follows b o t → Follows b o u → size t ≡ size u → t ≡ u
has_one_tree b s o t u f g e = one_tree b s o t u f g e
