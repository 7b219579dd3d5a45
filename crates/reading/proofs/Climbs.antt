-- The way back through the numbers of children of a tree.
use Rattle.std.proofs.Common.{◌≡◌, ℕ, zero, suc, ◌+◌, ◌-◌, ◌<◌, ◌≤◌, Bool, true, cond, eqb, ltb, leb, List, [], ◌∷◌, ◌++◌, length, get_or, take, drop, sym, refl, ap, ◌∙◌, inl, inr, append_assoc, arith, length-append, take_at}
use Rattle.std.proofs.lemmas.Bool.{cases_lt, cases_order, eq-eqb, ne_eqb, lt-leb, le-leb, lt-ltb, le-ltb}
use lib.Seq.{drop-nil, drop-append-add, take-append-add, drop-append-le, take-append-le}
use Rattle.leaders.specs.Tree.{Tree, leaf, node, size, ls, counts}
use Rattle.leaders.specs.Sheet.{unary}
use Rattle.leaders.specs.Tree.{root, spine_l}
use Rattle.reading.specs.declared.climb.Climb.{Climb}
use Rattle.reading.specs.Climbing.{at, back, climb}

unfoldable pub flat : List ℕ → List Bool
flat [] = []
flat (d ∷ ds) = unary d ++ flat ds

unfoldable pub degrees : Tree → List ℕ
degrees leaf = []
degrees (node l w r) = degrees l ++ (ls r ∷ degrees r)

pub flat_append : (xs ys : List ℕ) → flat (xs ++ ys) ≡ flat xs ++ flat ys
unfolding flat
flat_append [] ys = refl
flat_append (x ∷ xs) ys = rw (flat_append xs ys) (sym (append_assoc (unary x) (flat xs) (flat ys)))

pub counts_flat : (t : Tree) → counts t ≡ flat (degrees t)
unfolding counts degrees flat
counts_flat leaf = refl
counts_flat (node l w r) = rw (flat_append (degrees l) (ls r ∷ degrees r), counts_flat l, counts_flat r)

pub degrees_length : (t : Tree) → length (degrees t) ≡ size t
unfolding degrees size
degrees_length leaf = refl
degrees_length (node l w r) = simp length-append (omega (arith, degrees_length l, degrees_length r))

pub same : (a a' b b' c c' d d' : ℕ) → a ≡ a' → b ≡ b' → c ≡ c' → d ≡ d' → at a b c d ≡ at a' b' c' d'
same a a' b b' c c' d d' p q r s = cc

pub climb_append : (xs ys : List Bool) (s : Climb) → climb (xs ++ ys) s ≡ climb xs (climb ys s)
unfolding climb
climb_append [] ys s = refl
climb_append (x ∷ xs) ys s = ap (back x) (climb_append xs ys s)

back_one : (lot best steps : ℕ) (c : ℕ) → c ≡ 1 → back true (at lot best c steps) ≡ at lot lot 0 (steps + 1)
unfolding back
back_one lot best steps c e = rw (eq-eqb c 1 e)

back_more : (lot best steps : ℕ) (c : ℕ) → (c ≡ 1 → ⊥) → back true (at lot best c steps) ≡ at lot best (c - 1) steps
unfolding back
back_more lot best steps c e = rw (ne_eqb c 1 e)

pub unary_few : (d lot best above steps : ℕ) → d ≤ above → climb (unary d) (at lot best above steps) ≡ at (lot - 1) best (above + 1 - d) steps
unfolding climb back unary
unary_few zero lot best above steps h = same _ _ _ _ _ _ _ _ refl refl (omega arith) refl
unary_few (suc d) lot best above steps h =
    ap (back true) (unary_few d lot best above steps (omega arith))
    ∙ back_more (lot - 1) best steps (above + 1 - d) (omega arith)
    ∙ same (lot - 1) (lot - 1) best best (above + 1 - d - 1) (above + 1 - suc d) steps steps refl refl (omega arith) refl

pub unary_many : (d lot best above steps : ℕ) → above < d → climb (unary d) (at lot best above steps) ≡ at (lot - 1) (lot - 1) 0 (steps + 1)
unfolding climb unary
unary_many zero lot best above steps h = absurd (omega arith)
unary_many (suc d) lot best above steps h = elim (cases_lt above d) [
  | inl k ↦ ap (back true) (unary_many d lot best above steps k) ∙ back_more (lot - 1) (lot - 1) (steps + 1) 0 (omega arith)
  | inr k ↦ ap (back true) (unary_few d lot best above steps k) ∙ back_one (lot - 1) best steps (above + 1 - d) (omega arith)
]

-- a whole tree in front
pub climb_all : (t : Tree) (lot best above steps : ℕ) → climb (flat (degrees t)) (at lot best above steps) ≡ at (lot - size t) best (above + ls t) steps
unfolding degrees flat size ls climb
climb_all leaf lot best above steps = same _ _ _ _ _ _ _ _ (omega arith) refl (omega arith) refl
climb_all (node l w r) lot best above steps =
    ap (λ z. climb z (at lot best above steps)) (flat_append (degrees l) (ls r ∷ degrees r))
    ∙ climb_append (flat (degrees l)) (unary (ls r) ++ flat (degrees r)) (at lot best above steps)
    ∙ ap (climb (flat (degrees l))) (climb_append (unary (ls r)) (flat (degrees r)) (at lot best above steps)
    ∙ ap (climb (unary (ls r))) (climb_all r lot best above steps)
    ∙ unary_few (ls r) (lot - size r) best (above + ls r) steps (omega arith))
    ∙ climb_all l (lot - size r - 1) best (above + ls r + 1 - ls r) steps
    ∙ same (lot - size r - 1 - size l) (lot - suc (size l + size r)) best best (above + ls r + 1 - ls r + ls l) (above + suc (ls l)) steps steps (omega arith) refl (omega arith) refl

pub drop_past : {X : Type 0} (xs ys : List X) (x : X) (c : ℕ) → length xs < c → drop c (xs ++ (x ∷ ys)) ≡ drop (c - length xs - 1) ys
drop_past xs ys x c h = ap (λ n. drop n (xs ++ (x ∷ ys))) (let e : c ≡ length xs + suc (c - length xs - 1) = omega arith in e) ∙ drop-append-add xs (x ∷ ys) (suc (c - length xs - 1))

pub take_past : {X : Type 0} (xs ys : List X) (x : X) (c : ℕ) → length xs < c → take c (xs ++ (x ∷ ys)) ≡ xs ++ (x ∷ take (c - length xs - 1) ys)
take_past xs ys x c h = ap (λ n. take n (xs ++ (x ∷ ys))) (let e : c ≡ length xs + suc (c - length xs - 1) = omega arith in e) ∙ take-append-add xs (x ∷ ys) (suc (c - length xs - 1))

-- a tree in the middle, from a tree after it
pub climb_node : (xs ys : List ℕ) (d : ℕ) (s : Climb) → climb (flat (xs ++ (d ∷ ys))) s ≡ climb (flat xs) (climb (unary d) (climb (flat ys) s))
unfolding flat
climb_node xs ys d s =
    ap (λ z. climb z s) (flat_append xs (d ∷ ys))
    ∙ climb_append (flat xs) (unary d ++ flat ys) s
    ∙ ap (climb (flat xs)) (climb_append (unary d) (flat ys) s)

-- the end of a tree
pub climb_end : (c : ℕ) (t : Tree) (lot best above steps : ℕ) → (x y : ℕ) × (climb (flat (drop c (degrees t))) (at lot best above steps) ≡ at x best y steps)
unfolding degrees flat climb
climb_end c leaf lot best above steps = (lot, above, rw (drop-nil {A = ℕ} c) refl)
climb_end c (node l w r) lot best above steps = elim (cases_lt (size l) c) [
  | inl h ↦
      let (x, y, e) = climb_end (c - length (degrees l) - 1) r lot best above steps in
      (x, y, ap (λ z. climb (flat z) (at lot best above steps)) (drop_past (degrees l) (degrees r) (ls r) c (omega (arith, degrees_length l))) ∙ e)
  | inr h ↦
      let (x, y, e) = climb_end c l (lot - size r - 1) best (above + ls r + 1 - ls r) steps in (
        x,
        y,
        ap (λ z. climb (flat z) (at lot best above steps)) (drop-append-le c (degrees l) (ls r ∷ degrees r) (omega (arith, degrees_length l)))
            ∙ climb_node (drop c (degrees l)) (degrees r) (ls r) (at lot best above steps)
            ∙ ap (climb (flat (drop c (degrees l)))) (ap (climb (unary (ls r))) (climb_all r lot best above steps) ∙ unary_few (ls r) (lot - size r) best (above + ls r) steps (omega arith))
            ∙ e,
      )
]

-- how many at the front are too high, and how many at the front are too low
unfoldable pub over : ℕ → List ℕ → ℕ
over j [] = 0
over j (y ∷ ys) = cond (leb y j) 0 (suc (over j ys))

unfoldable pub below : ℕ → List ℕ → ℕ
below i [] = 0
below i (x ∷ xs) = cond (leb i x) 0 (suc (below i xs))

-- how often the best changes on the way from the lot of index c to the tree's first lot
unfoldable pub turns : Tree → ℕ → ℕ
turns leaf c = 0
turns (node l w r) c = cond (ltb c (size l)) (turns l c) (cond (eqb c (size l)) 0 (suc (turns r (c - size l - 1))))

pub record Front (o : ℕ) (t : Tree) (c : ℕ) (q : ℕ) : Type 0 where
  pub found : q < ls t
  pub is : climb (flat (take c (degrees t))) (at (suc (o + c)) (suc (o + c)) 0 0) ≡ at (suc o) (get_or (spine_l o t) q 0) (ls t - 1 - q) (turns t c)

-- the front of a tree
pub climb_front : (o : ℕ) (t : Tree) (c : ℕ) → c < size t → Front o t c (over (suc (o + c)) (spine_l o t))
unfolding size over turns ls spine_l degrees flat
climb_front o leaf c h = absurd (omega arith)
climb_front o (node l w r) c h = elim (cases_order c (size l)) [
  | inl e ↦ here e
  | inr (inl e) ↦ left e (climb_front o l c e)
  | inr (inr e) ↦ right e (climb_front (root o l) r (c - size l - 1) (omega arith))
]
  where
    left : c < size l → Front o l c (over (suc (o + c)) (spine_l o l)) → Front o (node l w r) c (over (suc (o + c)) (root o l ∷ spine_l o l))
    left e f =
        rw (lt-leb (root o l) (suc (o + c)) (omega arith)) (record {
          found = omega (arith, f.found);
          is = rw (lt-ltb c (size l) e, take-append-le c (degrees l) (ls r ∷ degrees r) (omega (arith, degrees_length l)))
              (f.is ∙ same _ _ _ _ _ _ _ _ refl refl (omega (arith, f.found)) refl);
        })

    here : c ≡ size l → Front o (node l w r) c (over (suc (o + c)) (root o l ∷ spine_l o l))
    here e =
        rw (le-leb (root o l) (suc (o + c)) (omega arith)) (record {
          found = omega arith;
          is = rw (le-ltb c (size l) (omega arith), eq-eqb c (size l) e, take_at (degrees l) (ls r ∷ degrees r) c (degrees_length l ∙ sym e))
              (climb_all l (suc (o + c)) (suc (o + c)) 0 0 ∙ same _ _ _ _ _ _ _ _ (omega arith) (omega arith) (omega arith) refl);
        })

    right : size l < c → Front (root o l) r (c - size l - 1) (over (suc (root o l + (c - size l - 1))) (spine_l (root o l) r)) → Front o (node l w r) c (over (suc (o + c)) (root o l ∷ spine_l o l))
    right e f =
        let k = c - size l - 1 in
        let s : ℕ = suc (o + c) in
        let start : at s s 0 0 ≡ at (suc (root o l + k)) (suc (root o l + k)) 0 0 = same _ _ _ _ _ _ _ _ (omega arith) (omega arith) refl refl in
        rw (le-leb (root o l) (suc (o + c)) (omega arith)) (record {
          found = omega arith;
          is = rw (le-ltb c (size l) (omega arith), ne_eqb c (size l) (omega arith), take_past (degrees l) (degrees r) (ls r) c (omega (arith, degrees_length l)), degrees_length l)
              (climb_node (degrees l) (take k (degrees r)) (ls r) (at s s 0 0)
              ∙ ap (λ z. climb (flat (degrees l)) (climb (unary (ls r)) z)) (ap (climb (flat (take k (degrees r)))) start ∙ f.is)
              ∙ ap (climb (flat (degrees l))) (unary_many (ls r) _ _ _ _ (omega (arith, f.found)))
              ∙ climb_all l _ _ _ _
              ∙ same _ _ _ _ _ _ _ _ (omega arith) (omega arith) (omega arith) (omega arith));
        })
