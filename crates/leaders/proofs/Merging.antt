-- The merge order of an order of lots is that of its tree, and the prices rebuilt by it have the sheet of the order.
use Rattle.std.proofs.Common.{◌≡◌, ℕ, zero, suc, ◌+◌, ◌-◌, ◌<◌, ◌≤◌, Bool, true, false, List, [], ◌∷◌, length, get_or, Some, sym, refl, ap, ◌∙◌, subst, inl, inr, arith, length-append}
use Rattle.std.specs.List.{slice_get}
use Rattle.std.proofs.lemmas.Bool.{cases_eq, eq-eqb, ne_eqb, lt-ltb, le-ltb}
use Rattle.std.proofs.lemmas.Bool.Decides.{nat_tests}
use Rattle.leaders.specs.Order.{Strict, Best, best, key_of, leads_lot, beats, dearer}
use Rattle.leaders.specs.Sheet.{ranked, in_l, in_r, full_word, sheet}
use Rattle.leaders.specs.Rebuilt.{through, past, blend, merge_order, place, prices_of, rebuilt}
use Rattle.leaders.specs.Tree.{Tree, leaf, node, size, Mem, root, spine_r, spine_l, Follows, list_of, earlier}
use Rattle.leaders.specs.Theorems.{Rebuilds, RebuiltPricesCastTheSheet}
use Rattle.leaders.proofs.Trees.{best_one, has_a_tree, trees_are_wellformed, spine_r_sorted, spine_l_sorted}
use Rattle.leaders.proofs.Found.{best_is}
use Rattle.leaders.proofs.Sheets.{Within, within_left, within_right, full_word_lem, left_there, right_there, left_here, right_here, LFromTest, RFromTest, ranked_there, ranked_here, ranked_sorted, sorted_one, sheet_is_code}
use Rattle.leaders.proofs.Listing.{list_follows, list_here}
use Rattle.leaders.proofs.Same.{Agree, agree_same_sheet, same_tree}
use Rattle.leaders.proofs.Strictly.{keys_order_lots}

-- L(k) and R(k), from best to worst, are the spines beside k
module _ (b : ℕ → ℕ → Bool) (s : Strict b) (n o : ℕ) (l : Tree) (w : List Bool) (r : Tree) (f : Follows b o (node l w r)) (c : Within b n o (node l w r)) where
  lefts_are : ranked b (in_l b (root o l)) 1 n ≡ spine_r o l
  lefts_are =
      let k = root o l in
      sorted_one b s (ranked b (in_l b k) 1 n) (spine_r o l) (ranked_sorted b s (in_l b k) 1 n) (spine_r_sorted b s o l f.1)
      (λ z m. let h = ranked_there b (in_l b k) 1 n z m in left_there b s n o l w r f c z h.0 (LFromTest b k z h.2))
      (λ z m. let h = left_here b s n o l w r f c z m in ranked_here b (in_l b k) 1 n z h.0 (omega arith) h.2)

  rights_are : ranked b (in_r b (root o l)) 1 n ≡ spine_l (root o l) r
  rights_are =
      let k = root o l in
      sorted_one b s (ranked b (in_r b k) 1 n) (spine_l k r) (ranked_sorted b s (in_r b k) 1 n) (spine_l_sorted b s k r f.2)
      (λ z m. let h = ranked_there b (in_r b k) 1 n z m in right_there b s n o l w r f c z (omega arith) (RFromTest b k z h.2))
      (λ z m. let h = right_here b s n o l w r f c z m in ranked_here b (in_r b k) 1 n z h.0 (omega arith) h.2)

merge_node : (b : ℕ → ℕ → Bool) (n depth i j k : ℕ) (w : List Bool) (ss ts xs ys : List ℕ) → i ≤ j → best b i j ≡ k → full_word b n k ≡ w →
    ranked b (in_l b k) 1 n ≡ ss → ranked b (in_r b k) 1 n ≡ ts → merge_order b n depth i (k - 1) ≡ xs → merge_order b n depth (suc k) j ≡ ys →
    merge_order b n (suc depth) i j ≡ k ∷ blend w ss ts xs ys
unfolding merge_order
merge_node b n depth i j k w ss ts xs ys h e f g p q r = rw (le-ltb j i h, e, f, g, p, q, r)

merge_none : (b : ℕ → ℕ → Bool) (n depth i j : ℕ) → j < i → merge_order b n depth i j ≡ []
unfolding merge_order
merge_none b n zero i j h = refl
merge_none b n (suc depth) i j h = rw (lt-ltb j i h)

pub merge_is : (b : ℕ → ℕ → Bool) (s : Strict b) (n depth o : ℕ) (t : Tree) → Follows b o t → Within b n o t → size t ≤ depth → merge_order b n depth (suc o) (o + size t) ≡ list_of o t
unfolding size list_of
merge_is b s n depth o leaf f c h = merge_none b n depth (suc o) (o + 0) (omega arith)
merge_is b s n zero o (node l w r) f c h = absurd (omega arith)
merge_is b s n (suc depth) o (node l w r) f c h =
    let k = root o l in
    let j = o + size (node l w r) in
    let left = merge_is b s n depth o l f.1 (within_left b n o l w r f c) (omega arith) in
    let right = merge_is b s n depth k r f.2 (within_right b n o l w r f c) (omega arith) in
    merge_node b n depth (suc o) j k w (spine_r o l) (spine_l k r) (list_of o l) (list_of k r) (omega arith)
    (best_one b s (suc o) j (best b (suc o) j) k (best_is b s (suc o) j (omega arith)) f.0)
    (full_word_lem b s n o l w r f c) (lefts_are b s n o l w r f c) (rights_are b s n o l w r f c)
    (ap (merge_order b n depth (suc o)) (let e : k - 1 ≡ o + size l = omega arith in e) ∙ left)
    (ap (merge_order b n depth (suc k)) (let e : j ≡ k + size r = omega arith in e) ∙ right)

pub whole : (b : ℕ → ℕ → Bool) (t : Tree) → Within b (size t) 0 t
whole b t = record { fits = omega arith; before = inl refl; after = λ h m p q. absurd (omega arith) }

merge_whole : (b : ℕ → ℕ → Bool) (s : Strict b) (t : Tree) → Follows b 0 t → merge_order b (size t) (size t) 1 (size t) ≡ list_of 0 t
merge_whole b s t f = ap (merge_order b (size t) (size t) 1) (let e : size t ≡ 0 + size t = omega arith in e) ∙ merge_is b s (size t) (size t) 0 t f (whole b t) (omega arith)

-- how long the merge order is

through_past : (s : ℕ) (xs : List ℕ) → length (through s xs) + length (past s xs) ≡ length xs
unfolding through past
through_past s [] = refl
through_past s (x ∷ xs) = let h = through_past s xs in grind (arith, nat_tests)

blend_length : (w : List Bool) (ss ts xs ys : List ℕ) → length (blend w ss ts xs ys) ≡ length xs + length ys
unfolding blend
blend_length [] ss ts xs ys = length-append xs ys
blend_length (false ∷ w) [] ts xs ys = length-append xs ys
blend_length (false ∷ w) (s ∷ ss) ts xs ys = length-append (through s xs) (blend w ss ts (past s xs) ys) ∙ omega (arith, blend_length w ss ts (past s xs) ys, through_past s xs)
blend_length (true ∷ w) ss [] xs ys = length-append xs ys
blend_length (true ∷ w) ss (t ∷ ts) xs ys = length-append (through t ys) (blend w ss ts xs (past t ys)) ∙ omega (arith, blend_length w ss ts xs (past t ys), through_past t ys)

pub list_length : (o : ℕ) (t : Tree) → length (list_of o t) ≡ size t
unfolding list_of size
list_length o leaf = refl
list_length o (node l w r) =
    omega (arith, blend_length w (spine_r o l) (spine_l (root o l) r) (list_of o l) (list_of (root o l) r), list_length o l, list_length (root o l) r)

place_in : (zs : List ℕ) (x : ℕ) → Mem x zs → place zs x < length zs
unfolding place
place_in [] x m = absurd m
place_in (z ∷ zs) x m = elim (cases_eq z x) [
  | inl e ↦ rw (eq-eqb z x e) (omega arith)
  | inr e ↦ rw (ne_eqb z x e) (omega (arith, place_in zs x (elim m [ inl h ↦ absurd (e (sym h)) | inr h ↦ h ])))
]

-- the prices of a list

prices_length : (n : ℕ) (zs : List ℕ) (i m : ℕ) → length (prices_of n zs i m) ≡ m
unfolding prices_of
prices_length n zs i zero = refl
prices_length n zs i (suc m) = ap suc (prices_length n zs (suc i) m)

prices_at : (n : ℕ) (zs : List ℕ) (i m k : ℕ) → k < m → (slice_get (prices_of n zs i m) k ≡ Some (n - place zs (i + k))) × (get_or (prices_of n zs i m) k 0 ≡ n - place zs (i + k))
unfolding prices_of
prices_at n zs i zero k h = absurd (omega arith)
prices_at n zs i (suc m) zero h = let e : i ≡ i + 0 = omega arith in (ap (λ z. Some (n - place zs z)) e, ap (λ z. n - place zs z) e)
prices_at n zs i (suc m) (suc k) h =
    let (p, q) = prices_at n zs (suc i) m k (omega arith) in
    let e : suc i + k ≡ i + suc k = omega arith in
    (p ∙ ap (λ z. Some (n - place zs z)) e, q ∙ ap (λ z. n - place zs z) e)

prices_most : (n : ℕ) (zs : List ℕ) (i m k : ℕ) → get_or (prices_of n zs i m) k 0 ≤ n
unfolding prices_of
prices_most n zs i zero k = omega arith
prices_most n zs i (suc m) zero = omega arith
prices_most n zs i (suc m) (suc k) = prices_most n zs (suc i) m k

module _ (n : ℕ) (zs : List ℕ) (here : (x : ℕ) → 1 ≤ x → x ≤ n → Mem x zs) (long : length zs ≡ n) where
  abbrev prices : List ℕ
  prices = prices_of n zs 1 n

  key_at : (i : ℕ) → 1 ≤ i → i ≤ n → key_of prices i ≡ Some (n - place zs i)
  unfolding key_of
  key_at zero h g = absurd (omega arith)
  key_at (suc i) h g = (prices_at n zs 1 n i (omega arith)).0 ∙ ap (λ z. Some (n - place zs z)) (let e : 1 + i ≡ suc i = omega arith in e)

  -- what is earlier in the list is dearer, and level prices go by the numbers
  same_way : (x y : ℕ) → 1 ≤ x → x ≤ n → 1 ≤ y → y ≤ n → earlier zs x y ≡ true → beats dearer prices x y ≡ true
  unfolding beats leads_lot earlier
  same_way x y h g p q e =
      let u = place_in zs x (here x h g) in
      let v = place_in zs y (here y p q) in
      rw (key_at x h g, key_at y p q) (grind (arith, nat_tests))

agree_by : (b c : ℕ → ℕ → Bool) (n : ℕ) → ((x y : ℕ) → 1 ≤ x → x ≤ n → 1 ≤ y → y ≤ n → b x y ≡ true → c x y ≡ true) → Agree b c n
agree_by b c n f = record {
  bests = bests;
  seconds = λ i j k s x y h. record {
    best = bests i j k x y h.best;
    from = h.from;
    upto = h.upto;
    other = h.other;
    over = λ m u v d e. f s m (omega (arith, h.from)) (omega (arith, h.upto)) (omega arith) (omega arith) (h.over m u v d e);
  };
}
  where
    bests : (i j k : ℕ) → 1 ≤ i → j ≤ n → Best b i j k → Best c i j k
    bests i j k x y h = record {
      from = h.from;
      upto = h.upto;
      over = λ m u v d. f k m (omega (arith, h.from)) (omega (arith, h.upto)) (omega arith) (omega arith) (h.over m u v d);
    }

pub prices_strict : (ps : List ℕ) → Strict (beats dearer ps)
prices_strict = keys_order_lots dearer (λ x y. grind (arith, nat_tests)) (λ x y z e f. grind (arith, nat_tests))

rebuilds : (b : ℕ → ℕ → Bool) (s : Strict b) (t : Tree) → Follows b 0 t → Rebuilds b (size t)
rebuilds b s t f =
    let n = size t in
    let zs = list_of 0 t in
    let v = trees_are_wellformed b 0 t f in
    let (st, ft) = list_follows t 0 v in
    let merged = merge_whole b s t f in
    let long = list_length 0 t in
    let here : (x : ℕ) → 1 ≤ x → x ≤ n → Mem x zs = λ x p q. list_here 0 t x p (omega arith) in
    let is : rebuilt b n ≡ prices_of n zs 1 n = ap (λ z. prices_of n z 1 n) merged in
    record {
      many = prices_length n (merge_order b n n 1 n) 1 n;
      least = λ k h. rw (is, (prices_at n zs 1 n k h).1) (let m = place_in zs (1 + k) (here (1 + k) (omega arith) (omega arith)) in omega arith);
      most = λ k. prices_most n (merge_order b n n 1 n) 1 n k;
      cast = ap (λ z. sheet (beats dearer z) n) is
          ∙ sym (agree_same_sheet (earlier zs) (beats dearer (prices_of n zs 1 n)) st (prices_strict (prices_of n zs 1 n)) n (agree_by (earlier zs) (beats dearer (prices_of n zs 1 n)) n (same_way n zs here long)))
          ∙ sheet_is_code (earlier zs) st t ft ∙ sym (sheet_is_code b s t f);
      one = λ c q e.
          let (u, y, g) = has_a_tree c q 0 n in
          let same = same_tree c b q s u t g f (ap (sheet c) y ∙ e) in
          ap (λ z. prices_of n z 1 n) (merge_whole c q t (subst (Follows c 0) same g) ∙ sym merged);
    }

pub rebuilt_prices_cast_the_sheet : RebuiltPricesCastTheSheet
rebuilt_prices_cast_the_sheet b s n = let (t, x, f) = has_a_tree b s 0 n in subst (Rebuilds b) x (rebuilds b s t f)
