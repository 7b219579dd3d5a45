-- Lots that leave in the post-order of a tree link its merge order.
use Rattle.std.proofs.Common.{◌≡◌, ℕ, ◌+◌, ◌<◌, ◌≤◌, Bool, ◌≢◌, ◌⊎◌, List, [], ◌∷◌, ◌++◌, length, get_or, set, sym, refl, ap, ◌∙◌, subst, inl, inr, arith, get_or-set_other, get_or-set_same}
use Rattle.leaders.specs.Sheet.{drop_last}
use Rattle.leaders.specs.Tree.{Tree, leaf, node, size, Wellformed, Mem, root, spine_r, spine_l, list_of}
use Rattle.leaders.proofs.Listing.{list_there}
use Rattle.links.specs.Walks.{top, Chain}
use Rattle.rebuilding.specs.Splices.{count, EndsIn, Ready}
use Rattle.rebuilding.specs.Held.{Holds}
use Rattle.rebuilding.specs.Leaving.{Steps}
use Rattle.rebuilding.proofs.Splicing.{count_none}
use Rattle.rebuilding.proofs.Sides.{ready_is, absent}
use Rattle.rebuilding.proofs.Postorder.{postorder}

-- a word is its symbols without the last, and at most one more
last_left : (w : List Bool) → (rest : List Bool) × (length rest ≤ 1) × (drop_last w ++ rest ≡ w)
unfolding drop_last
last_left [] = ([], omega arith, refl)
last_left (a ∷ []) = (a ∷ [], omega arith, refl)
last_left (a ∷ b ∷ w) = let (rest, few, e) = last_left (b ∷ w) in (rest, few, ap (◌∷◌ a) e)

chain_frame : (next next' : List ℕ) (i : ℕ) (zs : List ℕ) → ((z : ℕ) → Mem z zs → get_or next' z 0 ≡ get_or next z 0) → Chain next i zs → Chain next' i zs
chain_frame next next' i [] f c = c
chain_frame next next' i (z ∷ zs) f c = let e = f z (inl refl) in (c.0, c.1, rw e (chain_frame next next' (get_or next z 0) zs (λ y m. f y (inr m)) c.2))

top_most : (o : ℕ) (t : Tree) → top o t ≤ o + size t
unfolding size
top_most o leaf = omega arith
top_most o (node l w r) = omega arith

module _ (left right : List ℕ) (word : ℕ → List Bool) where
  pub steps_append : (xs ys next₀ ends₀ next₁ ends₁ next ends : List ℕ) → Steps left right word xs next₀ ends₀ next₁ ends₁ → Steps left right word ys next₁ ends₁ next ends → Steps left right word (xs ++ ys) next₀ ends₀ next ends
  steps_append [] ys next₀ ends₀ next₁ ends₁ next ends (d, e) s = rw (d, e) at s
  steps_append (x ∷ xs) ys next₀ ends₀ next₁ ends₁ next ends (next₂, last, fits, joins, more) s = (next₂, last, fits, joins, steps_append xs ys next₂ (set ends₀ x last) next₁ ends₁ next ends more s)

  steps_apart : (xs ys next₀ ends₀ next ends : List ℕ) → Steps left right word (xs ++ ys) next₀ ends₀ next ends →
      (next₁ : List ℕ) × (ends₁ : List ℕ) × Steps left right word xs next₀ ends₀ next₁ ends₁ × Steps left right word ys next₁ ends₁ next ends
  steps_apart [] ys next₀ ends₀ next ends s = (next₀, ends₀, (refl, refl), s)
  steps_apart (x ∷ xs) ys next₀ ends₀ next ends (next₂, last, fits, joins, more) =
      let (next₁, ends₁, s, u) = steps_apart xs ys next₂ (set ends₀ x last) next ends more in
      (next₁, ends₁, (next₂, last, fits, joins, s), u)

  -- a lot that has not left keeps its number
  pub steps_other : (z : ℕ) (xs next₀ ends₀ next ends : List ℕ) → Steps left right word xs next₀ ends₀ next ends → count z xs ≡ 0 → get_or ends z 0 ≡ get_or ends₀ z 0
  steps_other z [] next₀ ends₀ next ends (d, e) h = ap (λ zs. get_or zs z 0) e
  steps_other z (x ∷ xs) next₀ ends₀ next ends (next₁, last, fits, joins, more) h =
      let (d, k) = count_none z x xs h in
      steps_other z xs next₁ (set ends₀ x last) next ends more k ∙ get_or-set_other ends₀ x z last 0 (λ e. d (sym e))

-- the order of a part is linked, and nothing beside it has changed
pub record Ordered (next₀ ends₀ next ends : List ℕ) (o : ℕ) (t : Tree) : Type 0 where
  pub chain : Chain next (top o t) (list_of o t)
  pub last : EndsIn (list_of o t) (get_or ends (top o t) 0)
  pub frame : (z : ℕ) → (z ≤ o) ⊎ (o + size t < z) → (get_or next z 0 ≡ get_or next₀ z 0) × (get_or ends z 0 ≡ get_or ends₀ z 0)

module _ (up left right : List ℕ) (word : ℕ → List Bool) where
  chainR : (o : ℕ) (t : Tree) → Holds up left right word o t → Chain right (top o t) (spine_r o t)
  unfolding spine_r
  chainR o leaf h = refl
  chainR o (node l w r) h = (refl, omega arith, subst (λ i. Chain right i (spine_r (root o l) r)) (sym h.2) (chainR (root o l) r h.5))

  chainL : (o : ℕ) (t : Tree) → Holds up left right word o t → Chain left (top o t) (spine_l o t)
  unfolding spine_l
  chainL o leaf h = refl
  chainL o (node l w r) h = (refl, omega arith, subst (λ i. Chain left i (spine_l o l)) (sym h.1) (chainL o l h.4))

  -- both sides are ordered, and then the root is joined
  at_root : (next₀ ends₀ next₁ ends₁ next₂ ends₂ next ends : List ℕ) (o : ℕ) (l : Tree) (w : List Bool) (r : Tree) → Wellformed (node l w r) → Holds up left right word o (node l w r) →
      Ordered next₀ ends₀ next₁ ends₁ o l → Ordered next₁ ends₁ next₂ ends₂ (root o l) r → Steps left right word (root o l ∷ []) next₂ ends₂ next ends → Ordered next₀ ends₀ next ends o (node l w r)
  unfolding size Wellformed
  at_root next₀ ends₀ next₁ ends₁ next₂ ends₂ next ends o l w r v held p q (next₃, last, fits, joins, (same_next, same_ends)) =
      let k = root o l in
      let all = list_of o (node l w r) in
      let end_l = get_or ends₂ (get_or left k 0) 0 in
      let endR = get_or ends₂ (get_or right k 0) 0 in
      let (rest, few, whole) = last_left w in
      let kept : (z : ℕ) → Mem z (list_of o l) → get_or next₂ z 0 ≡ get_or next₁ z 0 = λ z m. (q.frame z (inl (omega (arith, list_there o l z m)))).0 in
      let last_l : EndsIn (list_of o l) end_l = subst (λ i. EndsIn (list_of o l) (get_or ends₂ i 0)) (sym held.1) (subst (EndsIn (list_of o l)) (sym (q.frame (top o l) (inl (omega (arith, top_most o l)))).1) p.last) in
      let last_r : EndsIn (list_of k r) endR = subst (λ i. EndsIn (list_of k r) (get_or ends₂ i 0)) (sym held.2) q.last in
      let ready = ready_is next₂ left right o l w r end_l endR v
      (subst (λ i. Chain right i (spine_r o l)) (sym held.1) (chainR o l held.4))
      (subst (λ i. Chain left i (spine_l k r)) (sym held.2) (chainL k r held.5))
      (subst (λ i. Chain next₂ i (list_of o l)) (sym held.1) (chain_frame next₁ next₂ (top o l) (list_of o l) kept p.chain))
      (subst (λ i. Chain next₂ i (list_of k r)) (sym held.2) q.chain)
      last_l last_r in
      let j = joins rest all few (subst (λ u. Ready next₂ left right k u all end_l endR) (sym (ap (λ u. u ++ rest) held.3 ∙ whole)) ready) in
      rw (same_next, same_ends) (record {
        chain = j.chain;
        last = subst (EndsIn all) (sym (get_or-set_same ends₂ k last 0 fits)) j.ends;
        frame = λ z h.
            let away : (z ≤ o) ⊎ (o + size l < z) = elim h [ inl a ↦ inl a | inr a ↦ inr (omega arith) ] in
            let after : (z ≤ k) ⊎ (k + size r < z) = elim h [ inl a ↦ inl (omega arith) | inr a ↦ inr (omega arith) ] in
            let ne : z ≢ k = elim h [ inl a ↦ omega arith | inr a ↦ omega arith ] in (
              j.frame z (absent o (node l w r) z h) ∙ (q.frame z after).0 ∙ (p.frame z away).0,
              get_or-set_other ends₂ k z last 0 ne ∙ (q.frame z after).1 ∙ (p.frame z away).1,
            );
      })

  pub ordered : (o : ℕ) (t : Tree) (next₀ ends₀ next ends : List ℕ) → Wellformed t → Holds up left right word o t → Steps left right word (postorder o t) next₀ ends₀ next ends → Ordered next₀ ends₀ next ends o t
  unfolding postorder list_of Wellformed
  ordered o leaf next₀ ends₀ next ends v held (d, e) = record { chain = refl; last = tt; frame = λ z h. (ap (λ zs. get_or zs z 0) d, ap (λ zs. get_or zs z 0) e) }
  ordered o (node l w r) next₀ ends₀ next ends v held s =
      let k = root o l in
      let (next₁, ends₁, s₁, u) = steps_apart left right word (postorder o l) (postorder k r ++ k ∷ []) next₀ ends₀ next ends s in
      let (next₂, ends₂, s₂, s₃) = steps_apart left right word (postorder k r) (k ∷ []) next₁ ends₁ next ends u in
      at_root next₀ ends₀ next₁ ends₁ next₂ ends₂ next ends o l w r v held (ordered o l next₀ ends₀ next₁ ends₁ v.2 held.4 s₁) (ordered k r next₁ ends₁ next₂ ends₂ v.3 held.5 s₂) s₃
