-- The lots of a tree that is held leave in its post-order: for each lot the path up from the lot before leaves, up to the node that the lot hangs on.
use Rattle.std.proofs.Common.{◌≡◌, ℕ, suc, ◌+◌, ◌-◌, ◌<◌, ◌≤◌, Bool, ◌⊎◌, List, [], ◌∷◌, ◌++◌, get_or, sym, refl, ap, ◌∙◌, subst, inl, inr, append_assoc, arith}
use Rattle.std.proofs.lemmas.List.{append-nil}
use Rattle.std.proofs.lemmas.Bool.{cases_order}
use Rattle.leaders.specs.Tree.{Tree, leaf, node, size, root}
use Rattle.rebuilding.specs.Splices.{count}
use Rattle.rebuilding.specs.Held.{Holds}
use Rattle.rebuilding.specs.Leaving.{Way, Plan}
use Rattle.rebuilding.proofs.Splicing.{count_append, count_same}
use Rattle.rebuilding.proofs.Sides.{count_absent}

unfoldable pub postorder : ℕ → Tree → List ℕ
postorder o leaf = []
postorder o (node l w r) = postorder o l ++ (postorder (root o l) r ++ root o l ∷ [])

-- those that have not left after the last lot of the tree is read, and those that have
unfoldable pending : ℕ → Tree → List ℕ
pending o leaf = []
pending o (node l w r) = pending (root o l) r ++ root o l ∷ []

unfoldable emitted : ℕ → Tree → List ℕ
emitted o leaf = []
emitted o (node l w r) = emitted o l ++ (pending o l ++ emitted (root o l) r)

all_leave : (o : ℕ) (t : Tree) → emitted o t ++ pending o t ≡ postorder o t
unfolding emitted pending postorder
all_leave o leaf = refl
all_leave o (node l w r) = let p = all_leave o l in let q = all_leave (root o l) r in rw (← p, ← q) (simp append_assoc)

module _ (up left right : List ℕ) (word : ℕ → List Bool) where
  way_pending : (o : ℕ) (t : Tree) → Holds up left right word o t → (limit : ℕ) (ws : List ℕ) → limit ≤ o → Way up limit o ws → Way up limit (o + size t) (pending o t ++ ws)
  unfolding size pending
  way_pending o leaf held limit ws h way = let e : o ≡ o + 0 = omega arith in subst (λ i. Way up limit i ws) e way
  way_pending o (node l w r) held limit ws h way =
      let k = root o l in
      let here : Way up limit k (k ∷ ws) = (refl, omega arith, omega (arith, held.0), subst (λ i. Way up limit i ws) (sym held.0) way) in
      let rest = way_pending k r held.5 limit (k ∷ ws) (omega arith) here in
      let e : k + size r ≡ o + suc (size l + size r) = omega arith in
      subst (Way up limit (o + suc (size l + size r))) (sym (append_assoc (pending k r) (k ∷ []) ws)) (subst (λ i. Way up limit i (pending k r ++ k ∷ ws)) e rest)

  plan_part : (o : ℕ) (t : Tree) → Holds up left right word o t → (m : ℕ) (zs : List ℕ) → Plan up m (suc (o + size t)) zs → Plan up (size t + m) (suc o) (emitted o t ++ zs)
  unfolding size emitted
  plan_part o leaf held m zs plan = let e : o + 0 ≡ o = omega arith in let d : m ≡ 0 + m = omega arith in subst (λ i. Plan up i (suc o) zs) d (subst (λ i. Plan up m (suc i) zs) e plan)
  plan_part o (node l w r) held m zs plan =
      let k = root o l in
      let e : o + suc (size l + size r) ≡ k + size r = omega arith in
      let after = plan_part k r held.5 m zs (subst (λ i. Plan up m (suc i) zs) e plan) in
      let way = subst (Way up o (o + size l)) (append-nil (pending o l)) (way_pending o l held.4 o [] (omega arith) (omega arith)) in
      let i : o + size l ≡ k - 1 = omega arith in
      let here : Way up (get_or up k 0) (k - 1) (pending o l) = subst (λ j. Way up j (k - 1) (pending o l)) (sym held.0) (subst (λ j. Way up o j (pending o l)) i way) in
      let all = plan_part o l held.4 (suc (size r + m)) (pending o l ++ (emitted k r ++ zs)) (pending o l, emitted k r ++ zs, refl, here, after) in
      let d : size l + suc (size r + m) ≡ suc (size l + size r) + m = omega arith in
      let parts : emitted o l ++ (pending o l ++ (emitted k r ++ zs)) ≡ (emitted o l ++ (pending o l ++ emitted k r)) ++ zs = sym (simp append_assoc) in
      subst (λ j. Plan up j (suc o) ((emitted o l ++ (pending o l ++ emitted k r)) ++ zs)) d (subst (Plan up (size l + suc (size r + m)) (suc o)) parts all)

  pub plan_whole : (n : ℕ) (t : Tree) → size t ≡ n → Holds up left right word 0 t → Plan up n 1 (postorder 0 t)
  plan_whole n t e held =
      let i : suc (0 + size t) - 1 ≡ 0 + size t = omega arith in
      let last : Plan up 0 (suc (0 + size t)) (pending 0 t) = subst (λ j. Way up 0 j (pending 0 t)) (sym i) (subst (Way up 0 (0 + size t)) (append-nil (pending 0 t)) (way_pending 0 t held 0 [] (omega arith) (omega arith))) in
      let d : size t + 0 ≡ n = omega arith in
      subst (Plan up n 1) (all_leave 0 t) (subst (λ j. Plan up j 1 (emitted 0 t ++ pending 0 t)) d (plan_part 0 t held 0 (pending 0 t) last))

-- each lot of the tree leaves once
post_none : (o : ℕ) (t : Tree) (z : ℕ) → (z ≤ o) ⊎ (o + size t < z) → count z (postorder o t) ≡ 0
unfolding size postorder count
post_none o leaf z h = refl
post_none o (node l w r) z h =
    let k = root o l in
    let in_l : (z ≤ o) ⊎ (o + size l < z) = elim h [ inl p ↦ inl p | inr p ↦ inr (omega arith) ] in
    let in_r : (z ≤ k) ⊎ (k + size r < z) = elim h [ inl p ↦ inl (omega arith) | inr p ↦ inr (omega arith) ] in
    omega (
      arith,
      count_append z (postorder o l) (postorder k r ++ k ∷ []),
      count_append z (postorder k r) (k ∷ []),
      post_none o l z in_l,
      post_none k r z in_r,
      count_absent z (k ∷ []) (λ m. elim m [ inl d ↦ elim h [ inl p ↦ omega arith | inr p ↦ omega arith ] | inr d ↦ d ]),
    )

pub post_once : (o : ℕ) (t : Tree) (z : ℕ) → count z (postorder o t) ≤ 1
unfolding size postorder count
post_once o leaf z = omega arith
post_once o (node l w r) z =
    let k = root o l in
    let parts = count_append z (postorder o l) (postorder k r ++ k ∷ []) in
    let more = count_append z (postorder k r) (k ∷ []) in
    elim (cases_order z k) [
      | inl e ↦ omega (arith, parts, more, post_none o l z (inr (omega arith)), post_none k r z (inl (omega arith)), (let q : count z (k ∷ []) ≡ 1 = ap (λ y. count z (y ∷ [])) (sym e) ∙ count_same z [] in q))
      | inr (inl e) ↦ omega (arith, parts, more, post_once o l z, post_none k r z (inl (omega arith)), count_absent z (k ∷ []) (λ m. elim m [ inl d ↦ omega arith | inr d ↦ d ]))
      | inr (inr e) ↦ omega (arith, parts, more, post_none o l z (inr (omega arith)), post_once k r z, count_absent z (k ∷ []) (λ m. elim m [ inl d ↦ omega arith | inr d ↦ d ]))
    ]
