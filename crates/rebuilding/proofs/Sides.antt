-- The two sides of a lot of a tree are ready to be joined.
use Rattle.std.proofs.Common.{◌≡◌, ℕ, ◌+◌, ◌<◌, ◌≤◌, Bool, true, eqb, ◌⊎◌, List, [], ◌∷◌, ◌++◌, get_or, sym, refl, ap, ◌∙◌, inl, inr, arith}
use Rattle.std.proofs.lemmas.Bool.{cases_order, cases_Bool, eqb-true, both_ways, ne_eqb}
use Rattle.leaders.specs.Tree.{Tree, node, size, Wellformed, Mem, root, spine_r, spine_l, list_of}
use Rattle.leaders.specs.Order.{Strict}
use Rattle.leaders.proofs.Trees.{Sorted, asym, spine_r_in, spine_l_in, spine_r_sorted, spine_l_sorted, spine_r_length, spine_l_length}
use Rattle.leaders.proofs.Listing.{list_there, list_here, list_follows_raw}
use Rattle.links.specs.Walks.{Chain}
use Rattle.rebuilding.specs.Splices.{count, Along, EndsIn, Ready}
use Rattle.rebuilding.proofs.Splicing.{count_same}

pub count_absent : (z : ℕ) (xs : List ℕ) → (Mem z xs → ⊥) → count z xs ≡ 0
unfolding count
count_absent z [] h = refl
count_absent z (x ∷ xs) h = let e = ne_eqb x z (λ e. h (inl (sym e))) in rw e (count_absent z xs (λ m. h (inr m)))

module _ (b : ℕ → ℕ → Bool) (s : Strict b) where
  sorted_once : (xs : List ℕ) → Sorted b xs → (z : ℕ) → count z xs ≤ 1
  unfolding count
  sorted_once [] h z = omega arith
  sorted_once (x ∷ xs) h z = elim (cases_Bool (eqb x z)) [
    | inl e ↦ let d = eqb-true x z e in let k = count_absent z xs (λ m. both_ways (b x z) (rw d (s.irreflexive z)) (h.0 z m)) in rw e (omega arith)
    | inr e ↦ rw e (sorted_once xs h.1 z)
  ]

  record Parted (t : ℕ) (xs : List ℕ) : Type 0 where
    us : List ℕ
    vs : List ℕ
    same : xs ≡ us ++ t ∷ vs
    none : count t us ≡ 0
    sorted : Sorted b vs
    after : (z : ℕ) → Mem z xs → b t z ≡ true → Mem z vs

  part : (t : ℕ) (xs : List ℕ) → Sorted b xs → Mem t xs → Parted t xs
  unfolding count
  part t [] h m = absurd m
  part t (x ∷ xs) h (inl e) = record {
    us = [];
    vs = xs;
    same = ap (λ y. y ∷ xs) (sym e);
    none = refl;
    sorted = h.1;
    after = λ z m d. elim m [ inl g ↦ absurd (both_ways (b t z) (rw (g, e) (s.irreflexive x)) d) | inr g ↦ g ];
  }
  part t (x ∷ xs) h (inr m) =
      let k = part t xs h.1 m in
      let above = h.0 t m in
      let ne = ne_eqb x t (λ e. both_ways (b x t) (rw e (s.irreflexive t)) above) in
      record {
        us = x ∷ k.us;
        vs = k.vs;
        same = ap (◌∷◌ x) k.same;
        none = rw ne k.none;
        sorted = k.sorted;
        after = λ z n d. elim n [ inl g ↦ absurd (asym b s x t above (rw g at d)) | inr g ↦ k.after z g d ];
      }

  along_is : (ss xs : List ℕ) → Sorted b ss → Sorted b xs → ((z : ℕ) → Mem z ss → Mem z xs) → Along ss xs
  along_is [] xs p q has = tt
  along_is (t ∷ ss) xs p q has =
      let k = part t xs q (has t (inl refl)) in
      (k.us, k.vs, k.same, k.none, along_is ss k.vs p.1 k.sorted (λ z m. k.after z (has z (inr m)) (p.0 z m)))

-- of a part of a tree
along_right : (o : ℕ) (t : Tree) → Wellformed t → Along (spine_r o t) (list_of o t)
along_right o t v =
    let (b, s, f, h) = list_follows_raw t o v in
    along_is b s (spine_r o t) (list_of o t) (spine_r_sorted b s o t f) h (λ z m. let k = spine_r_in o t z m in list_here o t z k.0 k.1)

along_left : (o : ℕ) (t : Tree) → Wellformed t → Along (spine_l o t) (list_of o t)
along_left o t v =
    let (b, s, f, h) = list_follows_raw t o v in
    along_is b s (spine_l o t) (list_of o t) (spine_l_sorted b s o t f) h (λ z m. let k = spine_l_in o t z m in list_here o t z k.0 k.1)

pub once : (o : ℕ) (t : Tree) → Wellformed t → (z : ℕ) → count z (list_of o t) ≤ 1
once o t v z = let (b, s, f, h) = list_follows_raw t o v in sorted_once b s (list_of o t) h z

pub absent : (o : ℕ) (t : Tree) (z : ℕ) → (z ≤ o) ⊎ (o + size t < z) → count z (list_of o t) ≡ 0
absent o t z h = count_absent z (list_of o t) (λ m. let k = list_there o t z m in elim h [ inl p ↦ omega arith | inr p ↦ omega arith ])

pub ready_is : (next left right : List ℕ) (o : ℕ) (l : Tree) (w : List Bool) (r : Tree) (end_l endR : ℕ) → Wellformed (node l w r) →
    Chain right (get_or left (root o l) 0) (spine_r o l) → Chain left (get_or right (root o l) 0) (spine_l (root o l) r) →
    Chain next (get_or left (root o l) 0) (list_of o l) → Chain next (get_or right (root o l) 0) (list_of (root o l) r) →
    EndsIn (list_of o l) end_l → EndsIn (list_of (root o l) r) endR → Ready next left right (root o l) w (list_of o (node l w r)) end_l endR
unfolding Wellformed list_of size count
ready_is next left right o l w r end_l endR v lows highs lower upper last_l last_r =
    let k = root o l in
    record {
      pre = [];
      ss = spine_r o l;
      ts = spine_l k r;
      xs = list_of o l;
      ys = list_of k r;
      run = refl;
      some = omega arith;
      lows = lows;
      highs = highs;
      lower = lower;
      upper = upper;
      along_l = along_right o l v.2;
      along_r = along_left k r v.3;
      last_l = last_l;
      last_r = last_r;
      apart = λ z. elim (cases_order z k) [
        | inl e ↦ omega (arith, absent o l z (inr (omega arith)), absent k r z (inl (omega arith)), (let q : count z (k ∷ []) ≡ 1 = ap (λ y. count z (y ∷ [])) (sym e) ∙ count_same z [] in q))
        | inr (inl e) ↦ omega (arith, once o l v.2 z, absent k r z (inl (omega arith)), count_absent z (k ∷ []) (λ m. elim m [ inl d ↦ omega arith | inr d ↦ d ]))
        | inr (inr e) ↦ omega (arith, absent o l z (inr (omega arith)), once k r v.3 z, count_absent z (k ∷ []) (λ m. elim m [ inl d ↦ omega arith | inr d ↦ d ]))
      ];
      lefts = v.0 ∙ sym (spine_r_length o l);
      rights = v.1 ∙ sym (spine_l_length k r);
      whole = refl;
      frame = λ z h. refl;
    }
