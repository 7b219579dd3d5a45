-- The verdict on the brackets of an order and any bits after them goes by the order's own lists L(k) and R(k).
use Rattle.std.proofs.Common.{◌≡◌, ℕ, zero, suc, ◌+◌, ◌-◌, ◌*◌, ◌/◌, ◌<◌, ◌≤◌, Bool, true, false, List, [], ◌∷◌, ◌++◌, length, take, drop, Some, Ok, sym, refl, ap, ◌∙◌, subst, ap₂, inl, inr, append_assoc, arith, length-append, drop-drop}
use Rattle.std.proofs.lemmas.Bool.{cases_order, ne_eqb}
use Rattle.leaders.specs.Order.{Strict}
use Rattle.leaders.specs.Sheet.{spread, ranked, unary, brackets, in_l, in_r, drop_last, spine_of, spines}
use Rattle.leaders.specs.Verdict.{verdict, closes, walk, walked, finish, falses, trues, has_too_many, lowest}
use Rattle.leaders.specs.Tree.{Tree, leaf, node, size, ls, rs, Wellformed, counts, root, spine_r, spine_l, Follows}
use Rattle.leaders.specs.Theorems.{lefts, rights, overfull, Judged, Bracketed, JudgedBySpines}
use Rattle.leaders.proofs.Trees.{spine_r_sorted, spine_l_sorted, spine_r_length, spine_l_length, has_a_tree, trees_are_wellformed}
use Rattle.leaders.proofs.Codes.{Alike, alike_ls}
use Rattle.leaders.proofs.Realise.{every_tree_has_an_order}
use Rattle.leaders.proofs.Sheets.{Within, within_left, within_right, LFromTest, RFromTest, ranked_there, ranked_here, ranked_length, ranked_sorted, sorted_one, left_there, left_here, right_there, right_here, full_word_lem, children_are, counts_are, words_are}
use Rattle.leaders.proofs.Verdicts.{ws, bad_of, walk_code, head_length, heads, closes_code, less_last, lowest_not, words_ws, bracketed, alike_size, alike_counts, verdict_none, verdict_many, verdict_some, finish_length, finish_bad, finish_ok}

-- the lowest lot with a faulty word

lowest_kept : (lot bad : ℕ) (t : Bool) → 0 < bad → lowest lot bad t ≡ bad
unfolding lowest
lowest_kept lot bad t h = rw (ne_eqb bad 0 (omega arith))

lowest_first : (lot : ℕ) (t : Bool) → t ≡ true → lowest lot 0 t ≡ lot
unfolding lowest
lowest_first lot t e = rw e

-- whether the word of a node's lot is faulty, if the words of its tree begin at a place
abbrev faulty : List Bool → Tree → Tree → ℕ → Bool
faulty all l r at = has_too_many (rs l) (ls r) (take (rs l + ls r - 1) (drop (at + ws l) all))

bad_kept : (all : List Bool) (t : Tree) (lot at bad : ℕ) → 0 < bad → bad_of all t lot at bad ≡ bad
unfolding bad_of
bad_kept all leaf lot at bad h = refl
bad_kept all (node l w r) lot at bad h =
    let e : lowest (lot + size l + 1) (bad_of all l lot at bad) (faulty all l r at) ≡ bad = ap (λ z. lowest (lot + size l + 1) z (faulty all l r at)) (bad_kept all l lot at bad h) ∙ lowest_kept (lot + size l + 1) bad (faulty all l r at) h in
    ap (bad_of all r (lot + size l + 1) (at + ws l + (rs l + ls r - 1))) e ∙ bad_kept all r (lot + size l + 1) (at + ws l + (rs l + ls r - 1)) bad h

-- joined words

spread_join : (g : ℕ → List Bool) (i m n : ℕ) → length (spread g i (m + n)) ≡ length (spread g i m) + length (spread g (i + m) n)
unfolding spread
spread_join g i zero n =
    let e : i + 0 ≡ i = omega arith in
    let d : 0 + n ≡ n = omega arith in
    omega (arith, ap (λ k. length (spread g k n)) e, ap (λ k. length (spread g i k)) d)
spread_join g i (suc m) n =
    let e : suc i + m ≡ i + suc m = omega arith in
    let h = subst (λ k. length (spread g (suc i) (m + n)) ≡ length (spread g (suc i) m) + length (spread g k n)) e (spread_join g (suc i) m n) in
    let d : suc m + n ≡ suc (m + n) = omega arith in
    let p : length (spread g i (suc (m + n))) ≡ length (g i) + length (spread g (suc i) (m + n)) = length-append (g i) (spread g (suc i) (m + n)) in
    let q : length (spread g i (suc m)) ≡ length (g i) + length (spread g (suc i) m) = length-append (g i) (spread g (suc i) m) in
    omega (arith, ap (λ k. length (spread g i k)) d, p, q, h)

module _ (b : ℕ → ℕ → Bool) (s : Strict b) (n : ℕ) (all x : List Bool) (m : ℕ) (tail : drop m all ≡ x) where
  abbrev offset : ℕ → ℕ
  offset o = length (spread (spine_of b n) 1 o)

  -- at each node the counts and the word are those of its lot

  module _ (o : ℕ) (l : Tree) (w : List Bool) (r : Tree) (f : Follows b o (node l w r)) (c : Within b n o (node l w r)) where
    lefts_are : lefts b n (root o l) ≡ rs l
    lefts_are =
        let test = in_l b (root o l) in
        let e : ranked b test 1 n ≡ spine_r o l = sorted_one b s (ranked b test 1 n) (spine_r o l) (ranked_sorted b s test 1 n) (spine_r_sorted b s o l f.1)
        (λ z i. let h = ranked_there b test 1 n z i in left_there b s n o l w r f c z h.0 (LFromTest b (root o l) z h.2))
        (λ z i. let h = left_here b s n o l w r f c z i in ranked_here b test 1 n z h.0 (omega (arith, h.1)) h.2) in
        sym (ranked_length b test 1 n) ∙ ap length e ∙ spine_r_length o l

    rights_are : rights b n (root o l) ≡ ls r
    rights_are =
        let test = in_r b (root o l) in
        let e : ranked b test 1 n ≡ spine_l (root o l) r = sorted_one b s (ranked b test 1 n) (spine_l (root o l) r) (ranked_sorted b s test 1 n) (spine_l_sorted b s (root o l) r f.2)
        (λ z i. let h = ranked_there b test 1 n z i in right_there b s n o l w r f c z (omega (arith, h.1)) (RFromTest b (root o l) z h.2))
        (λ z i. let h = right_here b s n o l w r f c z i in ranked_here b test 1 n z h.0 (omega (arith, h.1)) h.2) in
        sym (ranked_length b test 1 n) ∙ ap length e ∙ spine_l_length (root o l) r

    spine_size : length (spine_of b n (root o l)) ≡ rs l + ls r - 1
    unfolding Wellformed
    spine_size =
        let v = trees_are_wellformed b o (node l w r) f in
        ap (λ z. length (drop_last z)) (full_word_lem b s n o l w r f c) ∙ omega (arith, (less_last w).2, v.0, v.1)

    left_size : ws l ≡ length (spread (spine_of b n) (suc o) (size l))
    left_size = sym (words_ws l (trees_are_wellformed b o l f.1)) ∙ ap length (sym (words_are b s n o l f.1 (within_left b n o l w r f c)))

    place : offset (root o l - 1) ≡ offset o + ws l
    place =
        let e : root o l - 1 ≡ o + size l = omega arith in
        ap offset e ∙ spread_join (spine_of b n) 1 o (size l) ∙ omega (arith, left_size, ap (λ z. length (spread (spine_of b n) z (size l))) (let y : 1 + o ≡ suc o = omega arith in y))

    node_test : faulty all l r (m + offset o) ≡ overfull b n x (root o l)
    node_test =
        let e : drop (m + offset o + ws l) all ≡ drop (offset (root o l - 1)) x =
        ap (λ z. drop z all) (let y : m + offset o + ws l ≡ m + offset (root o l - 1) = omega (arith, place) in y)
        ∙ sym (drop-drop (offset (root o l - 1)) m all) ∙ ap (drop (offset (root o l - 1))) tail in
        rw (lefts_are, rights_are, spine_size, e)

    after : m + offset o + ws l + (rs l + ls r - 1) ≡ m + offset (root o l)
    unfolding spread
    after =
        let k = root o l in
        let e : 1 + (k - 1) ≡ k = omega arith in
        let h = spread_join (spine_of b n) 1 (k - 1) 1 in
        let one : length (spread (spine_of b n) (1 + (k - 1)) 1) ≡ length (spine_of b n k) = ap (λ z. length (spread (spine_of b n) z 1)) e ∙ omega (arith, length-append (spine_of b n k) []) in
        omega (arith, place, spine_size, h, one, ap offset (let y : k - 1 + 1 ≡ k = omega arith in y))

  right_part : (o : ℕ) (l : Tree) (w : List Bool) (r : Tree) → Follows b o (node l w r) → Within b n o (node l w r) → (bad : ℕ) →
      bad_of all r (o + size l + 1) (m + offset o + ws l + (rs l + ls r - 1)) bad ≡ bad_of all r (root o l) (m + offset (root o l)) bad
  right_part o l w r f c bad = ap₂ (λ i j. bad_of all r i j bad) (let y : o + size l + 1 ≡ root o l = omega arith in y) (after o l w r f c)

  none_bad : (o : ℕ) (t : Tree) → Follows b o t → Within b n o t → ((k : ℕ) → o < k → k ≤ o + size t → overfull b n x k ≡ false) → bad_of all t o (m + offset o) 0 ≡ 0
  unfolding bad_of size
  none_bad o leaf f c h = refl
  none_bad o (node l w r) f c h =
      let e = none_bad o l f.1 (within_left b n o l w r f c) (λ k p q. h k p (omega arith)) in
      ap (bad_of all r (o + size l + 1) (m + offset o + ws l + (rs l + ls r - 1)))
      (ap (λ z. lowest (o + size l + 1) z (faulty all l r (m + offset o))) e ∙ lowest_not (o + size l + 1) (faulty all l r (m + offset o)) (node_test o l w r f c ∙ h (root o l) (omega arith) (omega arith)))
      ∙ right_part o l w r f c 0
      ∙ none_bad (root o l) r f.2 (within_right b n o l w r f c) (λ k p q. h k (omega arith) (omega arith))

  first_bad : (o : ℕ) (t : Tree) → Follows b o t → Within b n o t → (k : ℕ) → o < k → k ≤ o + size t → overfull b n x k ≡ true → ((j : ℕ) → o < j → j < k → overfull b n x j ≡ false) →
      bad_of all t o (m + offset o) 0 ≡ k
  unfolding bad_of size
  first_bad o leaf f c k p q u h = absurd (omega arith)
  first_bad o (node l w r) f c k p q u h =
      let at = m + offset o + ws l + (rs l + ls r - 1) in
      elim (cases_order k (root o l)) [
        | inl e ↦
            let z = none_bad o l f.1 (within_left b n o l w r f c) (λ j i g. h j i (omega arith)) in
            ap (bad_of all r (o + size l + 1) at)
            (ap (λ z. lowest (o + size l + 1) z (faulty all l r (m + offset o))) z ∙ lowest_first (o + size l + 1) (faulty all l r (m + offset o)) (node_test o l w r f c ∙ subst (λ j. overfull b n x j ≡ true) e u) ∙ (let y : o + size l + 1 ≡ k = omega arith in y))
            ∙ bad_kept all r (o + size l + 1) at k (omega arith)
        | inr (inl e) ↦
            let z = first_bad o l f.1 (within_left b n o l w r f c) k p (omega arith) u h in
            ap (bad_of all r (o + size l + 1) at) (ap (λ z. lowest (o + size l + 1) z (faulty all l r (m + offset o))) z ∙ lowest_kept (o + size l + 1) k (faulty all l r (m + offset o)) (omega arith))
            ∙ bad_kept all r (o + size l + 1) at k (omega arith)
        | inr (inr e) ↦
            let z = none_bad o l f.1 (within_left b n o l w r f c) (λ j i g. h j i (omega arith)) in
            ap (bad_of all r (o + size l + 1) at)
            (ap (λ z. lowest (o + size l + 1) z (faulty all l r (m + offset o))) z ∙ lowest_not (o + size l + 1) (faulty all l r (m + offset o)) (node_test o l w r f c ∙ h (root o l) (omega arith) (omega arith)))
            ∙ right_part o l w r f c 0
            ∙ first_bad (root o l) r f.2 (within_right b n o l w r f c) k (omega arith) (omega arith) u (λ j i g. h j (omega arith) g)
      ]

-- the whole

module _ (b : ℕ → ℕ → Bool) (s : Strict b) (t : Tree) (f : Follows b 0 t) (x : List Bool) where
  whole : Within b (size t) 0 t
  whole = record { fits = omega arith; before = inl refl; after = λ h m p q. absurd (omega arith) }

  head_is : brackets b (size t) ++ x ≡ true ∷ (unary (ls t) ++ (counts t ++ x))
  unfolding spread
  head_is = rw (children_are b s (size t) 0 t f (omega arith) (inl refl) (λ m p q e. omega arith), counts_are b s (size t) 0 t f whole) (ap (◌∷◌ true) (append_assoc (unary (ls t)) (counts t) x))

  judged_as : size t ≤ 4000 → (bad : ℕ) → bad_of (brackets b (size t) ++ x) t 0 (2 * size t + 2 + 0) 0 ≡ bad → verdict (brackets b (size t) ++ x) ≡ finish (brackets b (size t) ++ x) (2 * size t + 2) (walked (2 * size t + 2 + ws t) bad)
  judged_as few bad e =
      let all = brackets b (size t) ++ x in
      let m = 2 * size t + 2 in
      verdict_some all m (ap closes head_is ∙ closes_code t x) (omega arith)
      ∙ ap (finish all m) (ap (walk all 0 [] 0 m 0) (heads t x all head_is).0 ∙ walk_code all t m ∙ ap (walked (m + ws t)) (ap (λ z. bad_of all t 0 z 0) (let y : m ≡ m + 0 = omega arith in y) ∙ e))

  spines_size : length (spines b (size t)) ≡ ws t
  spines_size = ap length (words_are b s (size t) 0 t f whole) ∙ words_ws t (trees_are_wellformed b 0 t f)

  all_size : length (brackets b (size t) ++ x) ≡ 2 * size t + 2 + length x
  all_size = ap length head_is ∙ omega (arith, head_length t, length-append (unary (ls t)) (counts t), length-append (unary (ls t)) (counts t ++ x), length-append (counts t) x)

  judged : size t ≤ 4000 → Judged b (size t) x
  unfolding spread
  judged few =
      let all = brackets b (size t) ++ x in
      let m = 2 * size t + 2 in
      let tail = (heads t x all head_is).1 in
      record {
        other_length = λ d. judged_as few (bad_of all t 0 (m + 0) 0) refl ∙ finish_length all m (walked (m + ws t) (bad_of all t 0 (m + 0) 0)) (λ e. d (omega (arith, e, all_size, spines_size)));
        lowest_lot = λ e k p q u h.
            judged_as few k (first_bad b s (size t) all x m tail 0 t f whole k (omega arith) (omega arith) u (λ j i g. h j (omega arith) g))
            ∙ finish_bad all m (walked (m + ws t) k) (omega (arith, e, all_size, spines_size)) (λ z. omega arith);
        none = λ e h.
            judged_as few 0 (none_bad b s (size t) all x m tail 0 t f whole (λ k p q. h k (omega arith) (omega arith)))
            ∙ finish_ok all m (walked (m + ws t) 0) (omega (arith, e, all_size, spines_size)) refl
            ∙ ap Ok (let y : m / 2 - 1 ≡ size t = omega arith in y);
      }

-- brackets that balance are those of an order

filled : (p q : ℕ) → (w : List Bool) × (falses w ≡ p) × (trues w ≡ q)
unfolding falses trues
filled zero zero = ([], refl, refl)
filled zero (suc q) = let (w, e, f) = filled zero q in (true ∷ w, e, ap suc f)
filled (suc p) q = let (w, e, f) = filled p q in (false ∷ w, ap suc e, f)

wellformed_alike : (t : Tree) → (u : Tree) × Alike t u × Wellformed u
unfolding Wellformed
wellformed_alike leaf = (leaf, tt, tt)
wellformed_alike (node l w r) =
    let (x, p, f) = wellformed_alike l in
    let (y, q, g) = wellformed_alike r in
    let (v, d, e) = filled (rs x) (ls y) in
    (node x v y, (p, q), (d, e, f, g))

bracketed_by_some : (s : List Bool) (m : ℕ) → closes s ≡ Some m → Bracketed s m
bracketed_by_some s m e =
    let (t, x, i, j) = bracketed s m e in
    let (u, al, v) = wellformed_alike t in
    let (b, p, f) = every_tree_has_an_order u 0 v in
    record {
      order = b;
      strict = p;
      lots = size u;
      rest = x;
      many = omega (arith, j, alike_size t u al);
      are = i ∙ ap (◌∷◌ true) (ap₂ (λ a c. unary a ++ (c ++ x)) (alike_ls t u al) (alike_counts t u al)) ∙ sym (head_is b p u f x);
    }

pub words_are_judged_by_the_spines : JudgedBySpines
words_are_judged_by_the_spines = record {
  never = verdict_none;
  late = verdict_many;
  others = bracketed_by_some;
  words = λ b s n h x. let (t, e, f) = has_a_tree b s 0 n in subst (λ z. Judged b z x) e (judged b s t f x (omega (arith, e, h)));
}
