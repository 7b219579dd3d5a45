-- From the links to the walks: what the working numbers of linked lots give.
use Rattle.std.proofs.Common.{◌≡◌, ℕ, zero, suc, ◌+◌, ◌-◌, ◌*◌, ◌<◌, ◌≤◌, Bool, true, false, eqb, ◌≢◌, ◌⊎◌, List, [], ◌∷◌, ◌++◌, length, get_or, sym, refl, ap, ◌∙◌, subst, ap₂, inl, inr, arith, length-append}
use Rattle.std.proofs.lemmas.Bool.{cond_both, cases_eq, cases_order, cases_lt, eqb-true, eqb-false, both_ways}
use Rattle.std.proofs.lemmas.Bool.Decides.{nat_tests}
use Rattle.leaders.specs.Tree.{Tree, leaf, node, size}
use Rattle.leaders.specs.Sheet.{unary, drop_last}
use Rattle.leaders.specs.Order.{Strict, Best}
use Rattle.leaders.specs.Tree.{Above, Merged, root, spine_r, spine_l, Follows}
use Rattle.leaders.specs.Sheet.{parent, children, spread, full_word, sheet}
use Rattle.leaders.proofs.Trees.{best_one, spine_l_length, has_a_tree}
use Rattle.leaders.proofs.Sheets.{Highest, Within, within_left, within_right, none_after, full_word_lem, root_children}
use Rattle.leaders.proofs.Lengths.{drop_last_length}
use Rattle.leaders.proofs.Counting.{sheet_lengths}
use Rattle.links.specs.Links.{Top, last_child, Linked}
use Rattle.links.specs.Walks.{top, Chain, AtMost, turn, merge, walked, Sized, node_brackets, Ready}
use Rattle.leaders.specs.Sheet.{spine_of, spines}
use Rattle.links.proofs.Joins.{parent_is, highest_one, beaten_false, tally_most}

-- the last child of x among the lots 1 to m
pub record Last (b : ℕ → ℕ → Bool) (x m v : ℕ) : Type 0 where
  pub upto : v ≤ m
  pub child : (v ≡ 0) ⊎ (parent b v ≡ x)
  pub none : (z : ℕ) → v < z → z ≤ m → parent b z ≢ x

pub last_is : (b : ℕ → ℕ → Bool) (x m : ℕ) → Last b x m (last_child b x m)
unfolding last_child
last_is b x zero = record { upto = omega arith; child = inl refl; none = λ z p q. absurd (omega arith) }
last_is b x (suc m) =
    let h = last_is b x m in
    cond_both (eqb (parent b (suc m)) x) (suc m) (last_child b x m) (Last b x (suc m))
    (λ e. record { upto = omega arith; child = inr (eqb-true (parent b (suc m)) x e); none = λ z p q. absurd (omega arith) })
    (λ e. record { upto = omega (arith, h.upto); child = h.child; none = λ z p q. elim (cases_eq z (suc m)) [ inl g ↦ rw g (eqb-false (parent b (suc m)) x e) | inr g ↦ h.none z p (omega arith) ] })

pub last_one : (b : ℕ → ℕ → Bool) (x m u v : ℕ) → Last b x m u → Last b x m v → u ≡ v
last_one b x m u v g h = elim (cases_order u v) [
  | inl e ↦ e
  | inr (inl e) ↦ elim h.child [ inl z ↦ absurd (omega arith) | inr z ↦ absurd (g.none v e h.upto z) ]
  | inr (inr e) ↦ elim g.child [ inl z ↦ absurd (omega arith) | inr z ↦ absurd (h.none u e g.upto z) ]
]

module _ (b : ℕ → ℕ → Bool) (s : Strict b) (n : ℕ) where
  pub parent_root : (o : ℕ) (l : Tree) (w : List Bool) (r : Tree) → Follows b o (node l w r) → Within b n o (node l w r) → parent b (root o l) ≡ o
  unfolding size
  parent_root o l w r f c =
      let h : Highest b (root o l) (root o l - 1) o = record {
        upto = omega arith;
        beats = elim c.before [ inl e ↦ inl e | inr e ↦ inr (e (root o l) (omega arith) (omega arith)) ];
        none = λ m p q. beaten_false b s (root o l) m (f.0.over m p (omega arith) (omega arith));
      } in
      highest_one b (root o l) (root o l - 1) (parent b (root o l)) o (parent_is b (root o l)) h

  top_is : (o j v : ℕ) (t : Tree) → Follows b o t → j ≡ o + size t → Top b (suc o) j v → v ≡ top o t
  unfolding size
  top_is o j v leaf f e (inl h) = h.1
  top_is o j v leaf f e (inr h) = absurd (omega (arith, h.from, h.upto))
  top_is o j v (node l w r) f e (inl h) = absurd (omega (arith, h.0))
  top_is o j v (node l w r) f e (inr h) = best_one b s (suc o) j v (root o l) h (subst (λ z. Best b (suc o) z (root o l)) (sym e) f.0)

  last_top : (o : ℕ) (l : Tree) (w : List Bool) (r : Tree) → Follows b o (node l w r) → Within b n o (node l w r) → Last b (root o l) n (top (root o l) r)
  unfolding size
  last_top o l w leaf f c = record {
    upto = omega arith;
    child = inl refl;
    none = λ z p q e. elim (cases_lt (root o l) z) [ inl h ↦ none_after b s n o l w leaf c z (omega arith) q e | inr h ↦ omega (arith, (parent_is b z).upto) ];
  }
  last_top o l w (node l1 w1 r1) f c =
      let d = within_right b n o l w (node l1 w1 r1) f c in
      record {
        upto = omega (arith, d.fits);
        child = inr (parent_root (root o l) l1 w1 r1 f.2 d);
        none = λ z p q e. elim (cases_lt (root o l + size (node l1 w1 r1)) z) [
          | inl h ↦ none_after b s n o l w (node l1 w1 r1) c z h q e
          | inr h ↦
              let g : Highest b z (z - 1) (root o l) = subst (Highest b z (z - 1)) e (parent_is b z) in
              both_ways (b (root (root o l) l1) z) (g.none (root (root o l) l1) (omega arith) (omega arith)) (f.2.0.over z (omega arith) (omega arith) (omega arith))
        ];
      }

  module _ (up left right kids : List ℕ) (h : Linked b n n up left right kids) where
    pub left_is : (o : ℕ) (l : Tree) (w : List Bool) (r : Tree) → Follows b o (node l w r) → Within b n o (node l w r) → get_or left (root o l) 0 ≡ top o l
    unfolding size
    left_is o l w r f c =
        let k = root o l in
        let t : Top b (suc o) (k - 1) (get_or left k 0) = subst (λ p. Top b (suc p) (k - 1) (get_or left k 0)) (parent_root o l w r f c) (h.lefts k (omega arith) (omega (arith, c.fits))) in
        top_is o (k - 1) (get_or left k 0) l f.1 (omega arith) t

    pub right_is : (o : ℕ) (l : Tree) (w : List Bool) (r : Tree) → Follows b o (node l w r) → Within b n o (node l w r) → get_or right (root o l) 0 ≡ top (root o l) r
    unfolding size
    right_is o l w r f c = h.rights (root o l) (omega (arith, c.fits)) ∙ last_one b (root o l) n (last_child b (root o l) n) (top (root o l) r) (last_is b (root o l) n) (last_top o l w r f c)

    chainR : (o : ℕ) (t : Tree) → Follows b o t → Within b n o t → Chain right (top o t) (spine_r o t)
    unfolding spine_r
    chainR o leaf f c = refl
    chainR o (node l w r) f c = (refl, omega arith, subst (λ i. Chain right i (spine_r (root o l) r)) (sym (right_is o l w r f c)) (chainR (root o l) r f.2 (within_right b n o l w r f c)))

    chainL : (o : ℕ) (t : Tree) → Follows b o t → Within b n o t → Chain left (top o t) (spine_l o t)
    unfolding spine_l
    chainL o leaf f c = refl
    chainL o (node l w r) f c = (refl, omega arith, subst (λ i. Chain left i (spine_l o l)) (sym (left_is o l w r f c)) (chainL o l f.1 (within_left b n o l w r f c)))

-- the two walks of lot k
record TwoWalks (b : ℕ → ℕ → Bool) (n : ℕ) (left right : List ℕ) (k : ℕ) : Type 0 where
  xs : List ℕ
  ys : List ℕ
  lower : Chain right (get_or left k 0) xs
  upper : Chain left (get_or right k 0) ys
  merged : Merged b (full_word b n k) xs ys
  kids : children b n k ≡ length ys

module _ (b : ℕ → ℕ → Bool) (s : Strict b) (n : ℕ) (up left right kids : List ℕ) (h : Linked b n n up left right kids) where
  walks_of : (o : ℕ) (t : Tree) → Follows b o t → Within b n o t → (k : ℕ) → o < k → k ≤ o + size t → TwoWalks b n left right k
  unfolding size
  walks_of o leaf f c k p q = absurd (omega arith)
  walks_of o (node l w r) f c k p q = elim (cases_order k (root o l)) [
    | inl e ↦ subst (TwoWalks b n left right) (sym e) (record {
      xs = spine_r o l;
      ys = spine_l (root o l) r;
      lower = subst (λ i. Chain right i (spine_r o l)) (sym (left_is b s n up left right kids h o l w r f c)) (chainR b s n up left right kids h o l f.1 (within_left b n o l w r f c));
      upper = subst (λ i. Chain left i (spine_l (root o l) r)) (sym (right_is b s n up left right kids h o l w r f c)) (chainL b s n up left right kids h (root o l) r f.2 (within_right b n o l w r f c));
      merged = subst (λ v. Merged b v (spine_r o l) (spine_l (root o l) r)) (sym (full_word_lem b s n o l w r f c)) f.3;
      kids = root_children b s n o l w r f c ∙ sym (spine_l_length (root o l) r);
    })
    | inr (inl e) ↦ walks_of o l f.1 (within_left b n o l w r f c) k p (omega arith)
    | inr (inr e) ↦ walks_of (root o l) r f.2 (within_right b n o l w r f c) k e (omega arith)
  ]

merged_length : (b : ℕ → ℕ → Bool) (w : List Bool) (xs ys : List ℕ) → Merged b w xs ys → length w ≡ length xs + length ys
merged_length b [] [] [] m = refl
merged_length b [] [] (y ∷ ys) m = absurd m
merged_length b [] (x ∷ xs) ys m = absurd m
merged_length b (false ∷ w) [] ys m = absurd m
merged_length b (false ∷ w) (x ∷ xs) ys m = omega (arith, merged_length b w xs ys m.1)
merged_length b (true ∷ w) xs [] m = absurd m
merged_length b (true ∷ w) xs (y ∷ ys) m = omega (arith, merged_length b w xs ys m.1)

module _ (b : ℕ → ℕ → Bool) (s : Strict b) (left right : List ℕ) where
  turn_false : (x i j : ℕ) (ys : List ℕ) → i ≡ x → 1 ≤ x → Above b x ys → Chain left j ys → turn b i j ≡ false
  turn_false x i j [] e p a c = grind (arith, nat_tests, e, p, c)
  turn_false x i j (y ∷ ys) e p a c = let h = a y (inl refl) in let k : b i j ≡ true = rw (e, c.0) h in grind (arith, nat_tests, e, p, k)

  turn_true : (y i j : ℕ) (xs : List ℕ) → j ≡ y → 1 ≤ y → Above b y xs → Chain right i xs → turn b i j ≡ true
  turn_true y i j [] e p a c = grind (arith, nat_tests, e, p, c)
  turn_true y i j (x ∷ xs) e p a c = let h = beaten_false b s y x (a x (inl refl)) in let k : b i j ≡ false = rw (e, c.0) h in let q = c.1 in let z = c.0 in grind (arith, nat_tests, e, p, k, q, z)

  merge_is : (w : List Bool) (xs ys : List ℕ) (i j : ℕ) → Chain right i xs → Chain left j ys → Merged b w xs ys → merge b left right (length (drop_last w)) i j ≡ drop_last w
  unfolding merge drop_last
  merge_is [] xs ys i j p q m = refl
  merge_is (a ∷ []) xs ys i j p q m = refl
  merge_is (false ∷ a ∷ w) [] ys i j p q m = absurd m
  merge_is (false ∷ a ∷ w) (x ∷ xs) ys i j p q m =
      let e = turn_false x i j ys p.0 p.1 m.0 q in
      let h = merge_is (a ∷ w) xs ys (get_or right i 0) j (subst (λ z. Chain right (get_or right z 0) xs) (sym p.0) p.2) q m.1 in
      rw (e, h)
  merge_is (true ∷ a ∷ w) xs [] i j p q m = absurd m
  merge_is (true ∷ a ∷ w) xs (y ∷ ys) i j p q m =
      let e = turn_true y i j xs q.0 q.1 m.0 p in
      let h = merge_is (a ∷ w) xs ys i (get_or left j 0) p (subst (λ z. Chain left (get_or left z 0) ys) (sym q.0) q.2) m.1 in
      rw (e, h)

spread_same : (f g : ℕ → List Bool) (i n : ℕ) → ((k : ℕ) → i ≤ k → k < i + n → f k ≡ g k) → spread f i n ≡ spread g i n
unfolding spread
spread_same f g i zero e = refl
spread_same f g i (suc n) e = ap₂ ◌++◌ (e i (omega arith) (omega arith)) (spread_same f g (suc i) n (λ k p q. e k (omega arith) (omega arith)))

top_most : (b : ℕ → ℕ → Bool) (i j v : ℕ) → Top b i j v → v ≤ j
top_most b i j v (inl h) = omega (arith, h.1)
top_most b i j v (inr h) = h.upto

sheet_short : (b : ℕ → ℕ → Bool) → Strict b → (n : ℕ) → length (sheet b n) ≡ 2 * (n + 1) + length (spines b n) → 2 * length (sheet b n) ≤ 7 * n + 4
unfolding spread
sheet_short b s zero l = omega arith
sheet_short b s (suc n) l = omega (arith, (sheet_lengths b s (suc n)).of_sheet (omega arith))

pub sheet_parts : (b : ℕ → ℕ → Bool) (n : ℕ) → sheet b n ≡ true ∷ (node_brackets b n ++ spines b n)
unfolding sheet
sheet_parts b n = refl

pub ready_is : (b : ℕ → ℕ → Bool) → Strict b → (n : ℕ) (up left right kids : List ℕ) → Linked b n n up left right kids → length kids ≡ suc n → Ready b n left right kids
unfolding children
ready_is b s n up left right kids h lk =
    let (t, e, f) = has_a_tree b s 0 n in
    let c : Within b n 0 t = record { fits = omega arith; before = inl refl; after = λ h m p q. absurd (omega arith) } in
    let walks : (k : ℕ) → 1 ≤ k → k ≤ n → TwoWalks b n left right k = λ k p q. walks_of b s n up left right kids h 0 t f c k p (omega arith) in
    let last : (k : ℕ) → k ≤ n → Last b k n (get_or right k 0) = λ k p. subst (Last b k n) (sym (h.rights k p)) (last_is b k n) in
    let total : length (sheet b n) ≡ 2 * (n + 1) + length (spines b n) = omega (arith, ap length (sheet_parts b n), length-append (node_brackets b n) (spines b n), (sheet_lengths b s n).of_brackets) in
    record {
      chain = λ k p q. let z = walks k p q in (z.xs, z.lower, omega (arith, drop_last_length (full_word b n k), merged_length b (full_word b n k) z.xs z.ys z.merged, z.kids, h.counts k q));
      word = λ k p q. let z = walks k p q in merge_is b s left right (full_word b n k) z.xs z.ys (get_or left k 0) (get_or right k 0) z.lower z.upper z.merged;
      lowers = λ k p. elim (cases_eq k 0) [ inl z ↦ (rw z (omega (arith, h.first))) | inr z ↦ omega (arith, top_most b (suc (parent b k)) (k - 1) (get_or left k 0) (h.lefts k (omega arith) p)) ];
      uppers = λ k p. (last k p).upto;
      rising = λ k p. elim (cases_eq (get_or right k 0) 0) [
        | inl z ↦ inl z
        | inr z ↦ elim (last k p).child [ inl y ↦ inl y | inr y ↦ inr (omega (arith, y, (parent_is b (get_or right k 0)).upto)) ]
      ];
      counted = ap (spread (λ j. unary (get_or kids j 0)) 0) lk ∙ spread_same (λ j. unary (get_or kids j 0)) (λ j. unary (children b n j)) 0 (suc n) (λ k p q. ap unary (h.counts k (omega arith)));
      long = total;
      short = sheet_short b s n total;
    }

-- as many symbols of the walks as the words have are the words
pub walked_words : (b : ℕ → ℕ → Bool) (n : ℕ) (left right kids sizes : List ℕ) → Ready b n left right kids → Sized b n n sizes → spread (walked b left right sizes) 1 n ≡ spines b n
walked_words b n left right kids sizes r s = spread_same (walked b left right sizes) (spine_of b n) 1 n (λ k p q. let e = s k p (omega arith) in rw e (r.word k p (omega arith)))

pub kids_most : (b : ℕ → ℕ → Bool) (n : ℕ) (up left right kids : List ℕ) → Linked b n n up left right kids → AtMost n kids
kids_most b n up left right kids h k p = omega (arith, h.counts k p, tally_most (λ i. eqb (parent b i) k) 1 n)
