-- The two loops in which lots leave: along a path up, and for one lot after another.
use Rattle.std.proofs.Common.{◌≡◌, ℕ, suc, ◌-◌, ◌<◌, ◌≤◌, Bool, eqb, List, [], ◌∷◌, ◌++◌, length, get_or, set, sym, refl, ap, ◌∙◌, subst, inl, inr, append_assoc, arith, get_or-set_other}
use Rattle.std.proofs.lemmas.List.{append-nil}
use Rattle.std.proofs.lemmas.Bool.{cases_Bool, ne_eqb}
use Rattle.leaders.specs.Tree.{Tree, size, Wellformed, Mem, list_of}
use Rattle.links.specs.Walks.{top, Chain}
use Rattle.rebuilding.specs.Splices.{count, Joins}
use Rattle.rebuilding.specs.Held.{Holds}
use Rattle.rebuilding.specs.Leaving.{Way, Plan, Steps, Leaves}
use Rattle.rebuilding.proofs.Splicing.{count_append, count_same}
use Rattle.rebuilding.proofs.Postorder.{postorder, plan_whole, post_once}
use Rattle.rebuilding.proofs.Ordering.{steps_append, steps_other, ordered}

way_set : (up : List ℕ) (limit x v y : ℕ) (us : List ℕ) → y < x → Way up limit y us → Way (set up x v) limit y us
way_set up limit x v y [] h way = way
way_set up limit x v y (z ∷ us) h (e, above, falls, way) =
    let same : get_or (set up x v) z 0 ≡ get_or up z 0 = get_or-set_other up x z v 0 (omega arith) in
    (e, above, omega arith, subst (λ i. Way (set up x v) limit i us) (sym same) (way_set up limit x v (get_or up z 0) us (omega arith) way))

way_frame : (up up' : List ℕ) (limit x : ℕ) (us : List ℕ) → ((z : ℕ) → Mem z us → get_or up' z 0 ≡ get_or up z 0) → Way up limit x us → Way up' limit x us
way_frame up up' limit x [] f way = way
way_frame up up' limit x (z ∷ us) f (e, above, falls, way) =
    let same = f z (inl refl) in
    (e, above, omega arith, subst (λ i. Way up' limit i us) (sym same) (way_frame up up' limit (get_or up z 0) us (λ y m. f y (inr m)) way))

-- the lots of a path up go down from its first
way_below : (up : List ℕ) (limit x : ℕ) (us : List ℕ) (z : ℕ) → Way up limit x us → x < z → count z us ≡ 0
unfolding count
way_below up limit x [] z way h = refl
way_below up limit x (y ∷ us) z (e, above, falls, way) h = let d = ne_eqb y z (omega arith) in rw d (way_below up limit (get_or up y 0) us z way (omega arith))

pub mem_count : (z : ℕ) (us : List ℕ) → Mem z us → 1 ≤ count z us
unfolding count
mem_count z [] m = absurd m
mem_count z (y ∷ us) (inl e) = subst (λ v. 1 ≤ count z (v ∷ us)) e (omega (arith, count_same z us))
mem_count z (y ∷ us) (inr m) = let h = mem_count z us m in elim (cases_Bool (eqb y z)) [ inl e ↦ rw e (omega arith) | inr e ↦ rw e h ]

module _ (left right : List ℕ) (word : ℕ → List Bool) where
  -- some lots of a path have left
  abbrev pub Partly : List ℕ → List ℕ → List ℕ → List ℕ → ℕ → ℕ → ℕ → Type 0
  Partly next₀ up₀ next up limit from x =
      (zs : List ℕ) → Way up₀ limit from zs → (done : List ℕ) × (us : List ℕ) × (done ++ us ≡ zs) × Steps left right word done next₀ up₀ next up × Way up limit x us

  pub partly_none : (next up : List ℕ) (limit from : ℕ) → Partly next up next up limit from from
  partly_none next up limit from zs way = ([], zs, refl, (refl, refl), way)

  pub partly_more : (next₀ up₀ next up next₁ : List ℕ) (limit from x p last : ℕ) → Partly next₀ up₀ next up limit from x → limit < x → x < length up →
      Joins next next₁ left right x (word x) (get_or up (get_or left x 0) 0) (get_or up (get_or right x 0) 0) last → (get_or up x 0 < x → p ≡ get_or up x 0) → Partly next₀ up₀ next₁ (set up x last) limit from p
  partly_more next₀ up₀ next up next₁ limit from x p last h above fits joins e zs way = go (h zs way)
    where
      go : (done : List ℕ) × (us : List ℕ) × (done ++ us ≡ zs) × Steps left right word done next₀ up₀ next up × Way up limit x us →
          (done : List ℕ) × (us : List ℕ) × (done ++ us ≡ zs) × Steps left right word done next₀ up₀ next₁ (set up x last) × Way (set up x last) limit p us
      go (done, [], whole, steps, way) = absurd (omega arith)
      go (done, z ∷ us, whole, steps, (d, far, falls, way)) =
          let here : get_or up z 0 ≡ get_or up x 0 = ap (λ y. get_or up y 0) (sym d) in
          let down : get_or up x 0 < x = omega arith in
          let one : Steps left right word (x ∷ []) next up next₁ (set up x last) = (next₁, last, fits, joins, (refl, refl)) in
          let last_one : x ∷ [] ≡ z ∷ [] = ap (λ y. y ∷ []) d in
          let to : get_or up z 0 ≡ p = here ∙ sym (e down) in (
            done ++ z ∷ [],
            us,
            append_assoc done (z ∷ []) us ∙ whole,
            subst (λ ys. Steps left right word (done ++ ys) next₀ up₀ next₁ (set up x last)) last_one (steps_append left right word done (x ∷ []) next₀ up₀ next up next₁ (set up x last) steps one),
            subst (λ i. Way (set up x last) limit i us) to (way_set up limit x last (get_or up z 0) us (omega arith) way),
          )

  pub partly_all : (next₀ up₀ next up : List ℕ) (limit from x : ℕ) → Partly next₀ up₀ next up limit from x → x ≤ limit → Leaves left right word next₀ up₀ next up limit from
  partly_all next₀ up₀ next up limit from x h below zs way = go (h zs way)
    where
      go : (done : List ℕ) × (us : List ℕ) × (done ++ us ≡ zs) × Steps left right word done next₀ up₀ next up × Way up limit x us → Steps left right word zs next₀ up₀ next up
      go (done, [], whole, steps, way) = subst (λ ys. Steps left right word ys next₀ up₀ next up) (sym (append-nil done) ∙ whole) steps
      go (done, z ∷ us, whole, steps, (d, far, falls, way)) = absurd (omega arith)

  -- all lots have left that leave for the lots before k, with m lots from k on
  pub record Passed (next₀ up₀ next up : List ℕ) (m k : ℕ) (t : Tree) : Type 0 where
    pub done : List ℕ
    pub rest : List ℕ
    pub steps : Steps left right word done next₀ up₀ next up
    pub plan : Plan up₀ m k rest
    pub below : (z : ℕ) → k ≤ z → count z done ≡ 0
    pub whole : done ++ rest ≡ postorder 0 t

  pub pass_none : (next up : List ℕ) (n : ℕ) (t : Tree) → size t ≡ n → Holds up left right word 0 t → Passed next up next up n 1 t
  unfolding count
  pass_none next up n t e held = record { done = []; rest = postorder 0 t; steps = (refl, refl); plan = plan_whole up left right word n t e held; below = λ z h. refl; whole = refl }

  -- the path that leaves next is as it was
  path_kept : (next₀ up₀ next up : List ℕ) (t : Tree) (done us vs : List ℕ) (limit x : ℕ) → Steps left right word done next₀ up₀ next up → done ++ (us ++ vs) ≡ postorder 0 t → Way up₀ limit x us → Way up limit x us
  path_kept next₀ up₀ next up t done us vs limit x steps whole way =
      way_frame up₀ up limit x us (λ z m. steps_other left right word z done next₀ up₀ next up steps
      (omega (arith, mem_count z us m, post_once 0 t z, ap (count z) whole, count_append z done (us ++ vs), count_append z us vs))) way

  pub pass_more : (next₀ up₀ next up next₁ up₁ : List ℕ) (m k : ℕ) (t : Tree) → 1 ≤ k → Passed next₀ up₀ next up (suc m) k t → Leaves left right word next up next₁ up₁ (get_or up k 0) (k - 1) → Passed next₀ up₀ next₁ up₁ m (suc k) t
  pass_more next₀ up₀ next up next₁ up₁ m k t some p leaves =
      let (us, vs, e, way, plan) = p.plan in
      let whole : p.done ++ (us ++ vs) ≡ postorder 0 t = ap (λ ys. p.done ++ ys) (sym e) ∙ p.whole in
      let same = steps_other left right word k p.done next₀ up₀ next up p.steps (p.below k (omega arith)) in
      let path = path_kept next₀ up₀ next up t p.done us vs (get_or up₀ k 0) (k - 1) p.steps whole way in
      let left-now = leaves us (subst (λ i. Way up i (k - 1) us) (sym same) path) in
      record {
        done = p.done ++ us;
        rest = vs;
        steps = steps_append left right word p.done us next₀ up₀ next up next₁ up₁ p.steps left-now;
        plan = plan;
        below = λ z h. omega (arith, count_append z p.done us, p.below z (omega arith), way_below up₀ (get_or up₀ k 0) (k - 1) us z way (omega arith));
        whole = append_assoc p.done us vs ∙ whole;
      }

  -- the last path leaves, and the order of all lots is linked
  pub pass_all : (next₀ up₀ next up next₁ up₁ : List ℕ) (k n : ℕ) (t : Tree) → k - 1 ≡ n → Wellformed t → Holds up₀ left right word 0 t → Passed next₀ up₀ next up 0 k t → Leaves left right word next up next₁ up₁ 0 n → Chain next₁ (top 0 t) (list_of 0 t)
  pass_all next₀ up₀ next up next₁ up₁ k n t e v held p leaves =
      let path = path_kept next₀ up₀ next up t p.done p.rest [] 0 n p.steps (ap (λ ys. p.done ++ ys) (append-nil p.rest) ∙ p.whole) (subst (λ i. Way up₀ 0 i p.rest) e p.plan) in
      let steps = steps_append left right word p.done p.rest next₀ up₀ next up next₁ up₁ p.steps (leaves p.rest path) in
      (ordered up₀ left right word 0 t next₀ up₀ next₁ up₁ v held (subst (λ ys. Steps left right word ys next₀ up₀ next₁ up₁) p.whole steps)).chain
