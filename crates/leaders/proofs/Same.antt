-- Equal sheets and equal leaders: each follows from the other, by way of the tree.
use Rattle.std.proofs.Common.{◌≡◌, ℕ, suc, ◌+◌, ◌<◌, ◌≤◌, Bool, true, ◌↔◌, List, [], ◌++◌, sym, ap, ◌∙◌, subst, inl, inr, arith}
use Rattle.std.proofs.lemmas.Bool.{cases_eq, cases_lt}
use Rattle.leaders.specs.Order.{Strict, Best, Second}
use Rattle.leaders.specs.Sheet.{sheet}
use Rattle.leaders.specs.Tree.{Tree, leaf, node, size, Wellformed, encode, Mem, root, spine_r, spine_l, Follows, best_of, second_of}
use Rattle.leaders.proofs.Trees.{asym, best_one, has_a_tree, trees_are_wellformed, spine_r_in, spine_l_in}
use Rattle.leaders.proofs.Queries.{best_is_found, second_is_found}
use Rattle.leaders.proofs.Codes.{prefix_free}
use Rattle.leaders.proofs.Realise.{merged_along, every_tree_has_an_order}
use Rattle.leaders.proofs.Sheets.{sheet_is_code, spine_r_best, spine_l_best}

-- what is best or second of a range in b is so in c
pub record Agree (b c : ℕ → ℕ → Bool) (n : ℕ) : Type 0 where
  pub bests : (i j k : ℕ) → 1 ≤ i → j ≤ n → Best b i j k → Best c i j k
  pub seconds : (i j k s : ℕ) → 1 ≤ i → j ≤ n → Second b i j k s → Second c i j k s

pub second_one : (b : ℕ → ℕ → Bool) → Strict b → (i j k s m t : ℕ) → Second b i j k s → Second b i j m t → s ≡ t
second_one b c i j k s m t p q =
    let e = best_one b c i j k m p.best q.best in
    elim (cases_eq s t) [
      | inl h ↦ h
      | inr h ↦ absurd (asym b c s t
          (p.over t q.from q.upto (λ g. q.other (g ∙ e)) (λ g. h (sym g)))
          (q.over s p.from p.upto (λ g. p.other (g ∙ sym e)) h))
    ]

pub same_tree : (b c : ℕ → ℕ → Bool) → Strict b → Strict c → (t u : Tree) → Follows b 0 t → Follows c 0 u → sheet b (size t) ≡ sheet c (size u) → t ≡ u
same_tree b c p q t u f g e =
    (prefix_free t u [] [] (trees_are_wellformed b 0 t f) (trees_are_wellformed c 0 u g)
    (ap (λ z. z ++ []) (sym (sheet_is_code b p t f) ∙ e ∙ sheet_is_code c q u g))).0

agree_by : (b c : ℕ → ℕ → Bool) → Strict b → Strict c → (t : Tree) → Follows b 0 t → Follows c 0 t → Agree b c (size t)
agree_by b c p q t f g = record {
  bests = λ i j k x y h.
      let e = best_one b p i j (best_of 0 t i j) k (best_is_found b 0 t f i j x (omega (arith, h.from, h.upto)) (omega arith)) h in
      subst (Best c i j) e (best_is_found c 0 t g i j x (omega (arith, h.from, h.upto)) (omega arith));
  seconds = λ i j k s x y h.
      let less : i < j = omega (arith, h.from, h.upto, h.best.from, h.best.upto, h.other) in
      let e = second_is_found b p 0 t f i j x less (omega arith) in
      let u = best_one b p i j (best_of 0 t i j) k e.best h.best in
      let v = second_one b p i j (best_of 0 t i j) (second_of 0 t i j) k s e h in
      subst (λ z. Second c i j z s) u (subst (Second c i j (best_of 0 t i j)) v (second_is_found c q 0 t g i j x less (omega arith)));
}

pub same_sheet_agree : (b c : ℕ → ℕ → Bool) → Strict b → Strict c → (n : ℕ) → sheet b n ≡ sheet c n → Agree b c n
same_sheet_agree b c p q n e =
    let (t, x, f) = has_a_tree b p 0 n in
    let (u, y, g) = has_a_tree c q 0 n in
    let h = same_tree b c p q t u f g (ap (sheet b) x ∙ e ∙ ap (sheet c) (sym y)) in
    subst (Agree b c) x (agree_by b c p q t f (subst (Follows c 0) (sym h) g))

follows_agree : (b c : ℕ → ℕ → Bool) → Strict b → (n : ℕ) → Agree b c n → (o : ℕ) (t : Tree) → o + size t ≤ n → Follows b o t → Follows c o t
unfolding size
follows_agree b c s n a o leaf d f = tt
follows_agree b c s n a o (node l w r) d f = (
  a.bests (suc o) (o + size (node l w r)) (root o l) (omega arith) d f.0,
  follows_agree b c s n a o l (omega arith) f.1,
  follows_agree b c s n a (root o l) r (omega arith) f.2,
  merged_along b c w (spine_r o l) (spine_l (root o l) r) f.3
      (λ x y m k e. left x y m k e) (λ y x k m e. right y x k m e),
)
  where
    k : ℕ
    k = root o l

    between : (x y : ℕ) → Mem x (spine_r o l) → Mem y (spine_l k r) → Best b x y k
    between x y m h =
        let p = spine_r_in o l x m in
        let q = spine_l_in k r y h in
        record { from = omega arith; upto = omega arith; over = λ z u v d. f.0.over z (omega arith) (omega arith) d }

    left : (x y : ℕ) → Mem x (spine_r o l) → Mem y (spine_l k r) → b x y ≡ true → c x y ≡ true
    left x y m h e =
        let p = spine_r_in o l x m in
        let q = spine_l_in k r y h in
        let second : Second b x y k x = record {
          best = between x y m h;
          from = omega arith;
          upto = omega arith;
          other = omega arith;
          over = λ z u v g j. elim (cases_lt z k) [
            | inl i ↦ (spine_r_best b s o l f.1 x m).over z u (omega arith) j
            | inr i ↦ elim (cases_eq z y) [ inl t ↦ rw t e | inr t ↦ s.transitive x y z e ((spine_l_best b s k r f.2 y h).over z (omega arith) v t) ]
          ];
        } in
        (a.seconds x y k x (omega arith) (omega arith) second).over y (omega arith) (omega arith) (omega arith) (omega arith)

    right : (y x : ℕ) → Mem y (spine_l k r) → Mem x (spine_r o l) → b y x ≡ true → c y x ≡ true
    right y x h m e =
        let p = spine_r_in o l x m in
        let q = spine_l_in k r y h in
        let second : Second b x y k y = record {
          best = between x y m h;
          from = omega arith;
          upto = omega arith;
          other = omega arith;
          over = λ z u v g j. elim (cases_lt k z) [
            | inl i ↦ (spine_l_best b s k r f.2 y h).over z i v j
            | inr i ↦ elim (cases_eq z x) [ inl t ↦ rw t e | inr t ↦ s.transitive y x z e ((spine_r_best b s o l f.1 x m).over z u (omega arith) t) ]
          ];
        } in
        (a.seconds x y k y (omega arith) (omega arith) second).over x (omega arith) (omega arith) (omega arith) (omega arith)

pub agree_same_sheet : (b c : ℕ → ℕ → Bool) → Strict b → Strict c → (n : ℕ) → Agree b c n → sheet b n ≡ sheet c n
agree_same_sheet b c p q n a =
    let (t, x, f) = has_a_tree b p 0 n in
    let g = follows_agree b c p n a 0 t (omega arith) f in
    subst (λ z. sheet b z ≡ sheet c z) x (sheet_is_code b p t f ∙ sym (sheet_is_code c q t g))

pub sheets_are_codes : (s : List Bool) (n : ℕ) → ((b : ℕ → ℕ → Bool) × Strict b × (sheet b n ≡ s)) ↔ ((t : Tree) × Wellformed t × (size t ≡ n) × (encode t ≡ s))
sheets_are_codes s n = (
  λ (b, p, e). let (t, x, f) = has_a_tree b p 0 n in (t, trees_are_wellformed b 0 t f, x, sym (sheet_is_code b p t f) ∙ ap (sheet b) x ∙ e),
  λ (t, v, x, e). let (b, p, f) = every_tree_has_an_order t 0 v in (b, p, ap (sheet b) (sym x) ∙ sheet_is_code b p t f ∙ e),
)
