-- The verdict accepts the codes of the trees of at most 4,000 lots, and nothing else.
use Rattle.std.proofs.Common.{◌≡◌, ℕ, zero, suc, ◌+◌, ◌-◌, ◌*◌, ◌/◌, ◌<◌, ◌≤◌, Bool, true, false, cond, ltb, ◌↔◌, List, [], ◌∷◌, ◌++◌, length, take, drop, Some, None, Ok, Err, Option, Result, sym, refl, ap, ◌∙◌, inl, inr, append_assoc, append-nil, arith, length-append, length-drop, length-take, take_all, drop-drop, take_at, take-add, drop_at}
use Rattle.std.proofs.lemmas.Bool.{ltb-false, lt-ltb, le-ltb, cases_lt, eq-eqb, ne_eqb, cases_eq, or_parts, or_from}
use Rattle.leaders.specs.Order.{Strict}
use Rattle.leaders.specs.Sheet.{unary, drop_last, sheet}
use Rattle.leaders.specs.Verdict.{falses, trues, close_at, closes, spent, taken, has_too_many, lowest, walk, walked, Walked, finish, judged, verdict}
use Rattle.leaders.specs.Refusal.{Refusal, refusal}
use Rattle.leaders.specs.Tree.{Tree, leaf, node, size, ls, rs, Wellformed, counts, words, encode}
use Rattle.leaders.proofs.Codes.{Alike, alike_ls}
use Rattle.leaders.proofs.Lengths.{unary_length, counts_length, word_length}
use Rattle.leaders.proofs.Same.{sheets_are_codes}

absurd_path : {A : Type 0} → ◌≡◌ {A = ℕ} 0 1 → A
absurd_path e = absurd (omega arith)

-- the verdict's cases

pub verdict_none : (all : List Bool) → closes all ≡ None → verdict all ≡ Err (refusal 7 [])
unfolding verdict judged
verdict_none all e = ap (judged all) e

pub verdict_many : (all : List Bool) (m : ℕ) → closes all ≡ Some m → 8002 < m → verdict all ≡ Err (refusal 8 [])
unfolding verdict judged
verdict_many all m e h = ap (judged all) e ∙ rw (lt-ltb 8002 m h)

pub verdict_some : (all : List Bool) (m : ℕ) → closes all ≡ Some m → m ≤ 8002 → verdict all ≡ finish all m (walk all 0 [] 0 m 0 (drop 1 (take m all)))
unfolding verdict judged
verdict_some all m e h = ap (judged all) e ∙ rw (le-ltb 8002 m h)

pub finish_length : (all : List Bool) (m : ℕ) (w : Walked) → (w.at ≡ length all → ⊥) → finish all m w ≡ Err (refusal 9 [])
unfolding finish
finish_length all m w h = rw (ne_eqb w.at (length all) h)

pub finish_bad : (all : List Bool) (m : ℕ) (w : Walked) → w.at ≡ length all → (w.bad ≡ 0 → ⊥) → finish all m w ≡ Err (refusal 10 (w.bad ∷ []))
unfolding finish
finish_bad all m w e h = rw (eq-eqb w.at (length all) e, ne_eqb w.bad 0 h)

pub finish_ok : (all : List Bool) (m : ℕ) (w : Walked) → w.at ≡ length all → w.bad ≡ 0 → finish all m w ≡ Ok (m / 2 - 1)
unfolding finish
finish_ok all m w e h = rw (eq-eqb w.at (length all) e, eq-eqb w.bad 0 h)

-- brackets

pub close_bound : (bs : List Bool) (p o m : ℕ) → close_at p o bs ≡ Some m → (p < m) × (m ≤ p + length bs)
unfolding close_at
close_bound [] p o m e = absurd_path (cc)
close_bound (true ∷ bs) p o m e = omega (arith, close_bound bs (suc p) (suc o) m e)
close_bound (false ∷ bs) p zero m e = let z : suc p ≡ m = cc in omega arith
close_bound (false ∷ bs) p (suc o) m e = omega (arith, close_bound bs (suc p) o m e)

close_more : (p o d : ℕ) (z : List Bool) → 0 < o + d → close_at p o (unary d ++ z) ≡ close_at (p + suc d) (o + d - 1) z
unfolding close_at unary
close_more p zero zero z h = absurd (omega arith)
close_more p (suc o) zero z h = ap (λ n. close_at n o z) (let y : suc p ≡ p + 1 = omega arith in y) ∙ ap (λ n. close_at (p + 1) n z) (let y : o ≡ suc o + 0 - 1 = omega arith in y)
close_more p o (suc d) z h =
    close_more (suc p) (suc o) d z (omega arith) ∙ ap (λ n. close_at n (suc o + d - 1) z) (let y : suc p + suc d ≡ p + suc (suc d) = omega arith in y) ∙ ap (λ n. close_at (p + suc (suc d)) n z) (let y : suc o + d - 1 ≡ o + suc d - 1 = omega arith in y)

close_last : (p : ℕ) (z : List Bool) → close_at p 0 (unary 0 ++ z) ≡ Some (suc p)
unfolding close_at unary
close_last p z = refl

run_split : (s : List Bool) (p o m : ℕ) → close_at p o s ≡ Some m → (d : ℕ) × (z : List Bool) × (s ≡ unary d ++ z)
unfolding close_at unary
run_split [] p o m e = absurd_path (cc)
run_split (false ∷ s) p o m e = (0, s, refl)
run_split (true ∷ s) p o m e = let (d, z, f) = run_split s (suc p) (suc o) m e in (suc d, z, ap (◌∷◌ true) f)

close_split : (s : List Bool) (p o m : ℕ) → close_at p (suc o) s ≡ Some m → (m₁ : ℕ) × (close_at p o s ≡ Some m₁) × (close_at m₁ 0 (drop (m₁ - p) s) ≡ Some m)
unfolding close_at
close_split [] p o m e = absurd_path (cc)
close_split (true ∷ s) p o m e =
    let (n, f, g) = close_split s (suc p) (suc o) m e in
    (n, f, ap (λ k. close_at n 0 (drop k (true ∷ s))) (let y : n - p ≡ suc (n - suc p) = omega (arith, close_bound s (suc p) (suc o) n f) in y) ∙ g)
close_split (false ∷ s) p zero m e = (suc p, refl, ap (λ k. close_at (suc p) 0 (drop k (false ∷ s))) (let y : suc p - p ≡ 1 = omega arith in y) ∙ e)
close_split (false ∷ s) p (suc o) m e =
    let (n, f, g) = close_split s (suc p) o m e in
    (n, f, ap (λ k. close_at n 0 (drop k (false ∷ s))) (let y : n - p ≡ suc (n - suc p) = omega (arith, close_bound s (suc p) o n f) in y) ∙ g)

-- a tree whose left spine has suc o lots
record Parsed (s : List Bool) (c p m : ℕ) : Type 0 where
  tree : Tree
  rest : List Bool
  spine : ls tree ≡ c
  is : counts tree ++ rest ≡ s
  long : m ≡ p + length (counts tree)

-- a lot's number, and the tree behind it
record Behind (s : List Bool) (p m : ℕ) : Type 0 where
  tree : Tree
  rest : List Bool
  is : unary (ls tree) ++ (counts tree ++ rest) ≡ s
  long : m ≡ p + suc (ls tree) + length (counts tree)

behind : (s : List Bool) (p m : ℕ) → ((o : ℕ) (z : List Bool) (q : ℕ) → o + length z < length s → close_at q o z ≡ Some m → Parsed z (suc o) q m) → close_at p 0 s ≡ Some m → Behind s p m
unfolding ls counts
behind s p m f e = let (d, z, g) = run_split s p 0 m e in go d z g (ap (close_at p 0) (sym g) ∙ e)
  where
    go : (d : ℕ) (z : List Bool) → s ≡ unary d ++ z → close_at p 0 (unary d ++ z) ≡ Some m → Behind s p m
    go zero z g h = record { tree = leaf; rest = z; is = sym g; long = let y : suc p ≡ m = cc (close_last p z) in omega arith }
    go (suc d) z g h =
        let long : length s ≡ suc (suc d) + length z = ap length g ∙ length-append (unary (suc d)) z ∙ omega (arith, unary_length (suc d)) in
        let k = f d z (p + suc (suc d)) (omega arith) (ap (λ n. close_at (p + suc (suc d)) n z) (let y : d ≡ 0 + suc d - 1 = omega arith in y) ∙ sym (close_more p 0 (suc d) z (omega arith)) ∙ h) in
        record { tree = k.tree; rest = k.rest; is = rw (k.spine, k.is) (sym g); long = omega (arith, k.long, k.spine) }

join : (s : List Bool) (o p m n : ℕ) → (k : Parsed s o p n) → Behind k.rest n m → Parsed s (suc o) p m
unfolding ls counts
join s o p m n k h = record {
  tree = node k.tree [] h.tree;
  rest = h.rest;
  spine = ap suc k.spine;
  is = simp append_assoc (ap (λ z. counts k.tree ++ z) h.is ∙ k.is);
  long = simp (length-append, unary_length) (omega (arith, k.long, h.long));
}

none : (s : List Bool) (p : ℕ) → Parsed s 0 p p
unfolding ls counts
none s p = record { tree = leaf; rest = s; spine = refl; is = refl; long = omega arith }

parse : (fuel o : ℕ) (s : List Bool) (p m : ℕ) → o + length s < fuel → close_at p o s ≡ Some m → Parsed s (suc o) p m
unfolding none
parse zero o s p m h e = absurd (omega arith)
parse (suc fuel) zero s p m h e = join s 0 p m p (none s p) (behind s p m (λ o z q l k. parse fuel o z q m (omega arith) k) e)
parse (suc fuel) (suc o) s p m h e =
    let (n, f, g) = close_split s p o m e in
    let k = parse fuel o s p n (omega arith) f in
    let y : drop (n - p) s ≡ k.rest = ap (drop (n - p)) (sym k.is) ∙ drop_at (counts k.tree) k.rest (n - p) (omega (arith, k.long)) in
    let short : length k.rest ≤ length s = omega (arith, ap length k.is, length-append (counts k.tree) k.rest) in
    join s (suc o) p m n k (behind k.rest n m (λ i z q l j. parse fuel i z q m (omega arith) j) (ap (close_at n 0) (sym y) ∙ g))

pub bracketed : (s : List Bool) (m : ℕ) → closes s ≡ Some m → (t : Tree) × (x : List Bool) × (s ≡ true ∷ (unary (ls t) ++ (counts t ++ x))) × (m ≡ 2 * size t + 2)
unfolding closes
bracketed [] m e = absurd_path (cc)
bracketed (false ∷ s) m e = absurd_path (cc)
bracketed (true ∷ s) m e =
    let h = behind s 1 m (λ o z q l k. parse (suc (o + length z)) o z q m (omega arith) k) e in
    (h.tree, h.rest, ap (◌∷◌ true) (sym h.is), omega (arith, h.long, counts_length h.tree))

-- and the brackets of a tree balance
close_tree : (t : Tree) (p o : ℕ) (x : List Bool) → ls t ≤ o → close_at p o (counts t ++ x) ≡ close_at (p + length (counts t)) (o - ls t) x
unfolding counts ls
close_tree leaf p o x h = ap (λ n. close_at n o x) (let y : p ≡ p + 0 = omega arith in y) ∙ ap (λ n. close_at (p + 0) n x) (let y : o ≡ o - 0 = omega arith in y)
close_tree (node l w r) p o x h =
    ap (close_at p o) (let y : (counts l ++ (unary (ls r) ++ counts r)) ++ x ≡ counts l ++ (unary (ls r) ++ (counts r ++ x)) = simp append_assoc in y)
    ∙ close_tree l p o (unary (ls r) ++ (counts r ++ x)) (omega arith)
    ∙ close_more (p + length (counts l)) (o - ls l) (ls r) (counts r ++ x) (omega arith)
    ∙ close_tree r (p + length (counts l) + suc (ls r)) (o - ls l + ls r - 1) x (omega arith)
    ∙ ap (λ n. close_at n (o - ls l + ls r - 1 - ls r) x) (let y : p + length (counts l) + suc (ls r) + length (counts r) ≡ p + length (counts l ++ (unary (ls r) ++ counts r)) = simp (length-append, unary_length) (omega arith) in y)
    ∙ ap (λ n. close_at (p + length (counts l ++ (unary (ls r) ++ counts r))) n x) (let y : o - ls l + ls r - 1 - ls r ≡ o - suc (ls l) = omega arith in y)

close_whole : (t : Tree) (p o : ℕ) (x : List Bool) → ls t ≡ suc o → close_at p o (counts t ++ x) ≡ Some (p + length (counts t))
unfolding counts ls
close_whole leaf p o x h = absurd (omega arith)
close_whole (node l w leaf) p o x h =
    ap (close_at p o) (let y : (counts l ++ (unary 0 ++ [])) ++ x ≡ counts l ++ (unary 0 ++ x) = simp append_assoc in y)
    ∙ close_tree l p o (unary 0 ++ x) (omega arith)
    ∙ ap (λ n. close_at (p + length (counts l)) n (unary 0 ++ x)) (let y : o - ls l ≡ 0 = omega arith in y)
    ∙ close_last (p + length (counts l)) x
    ∙ ap Some (let y : suc (p + length (counts l)) ≡ p + length (counts l ++ (unary 0 ++ [])) = simp (length-append, unary_length) (omega arith) in y)
close_whole (node l w (node a y b)) p o x h = close_both l (node a y b) p o x (λ q. close_whole (node a y b) q (ls a) x refl) (ls a) refl (omega arith)
  where
    close_both : (l r : Tree) (p o : ℕ) (x : List Bool) → ((q : ℕ) → close_at q (ls a) (counts r ++ x) ≡ Some (q + length (counts r))) → (k : ℕ) → ls r ≡ suc (ls a) → ls l ≡ o →
        close_at p o ((counts l ++ (unary (ls r) ++ counts r)) ++ x) ≡ Some (p + length (counts l ++ (unary (ls r) ++ counts r)))
    close_both l r p o x f k e g =
        ap (close_at p o) (let y : (counts l ++ (unary (ls r) ++ counts r)) ++ x ≡ counts l ++ (unary (ls r) ++ (counts r ++ x)) = simp append_assoc in y)
        ∙ close_tree l p o (unary (ls r) ++ (counts r ++ x)) (omega arith)
        ∙ close_more (p + length (counts l)) (o - ls l) (ls r) (counts r ++ x) (omega arith)
        ∙ ap (λ n. close_at (p + length (counts l) + suc (ls r)) n (counts r ++ x)) (let y : o - ls l + ls r - 1 ≡ ls a = omega arith in y)
        ∙ f (p + length (counts l) + suc (ls r))
        ∙ ap Some (let y : p + length (counts l) + suc (ls r) + length (counts r) ≡ p + length (counts l ++ (unary (ls r) ++ counts r)) = simp (length-append, unary_length) (omega arith) in y)

pub closes_code : (t : Tree) (x : List Bool) → closes (true ∷ (unary (ls t) ++ (counts t ++ x))) ≡ Some (2 * size t + 2)
unfolding closes ls counts size
closes_code leaf x = close_last 1 x
closes_code (node l w r) x =
    close_more 1 0 (suc (ls l)) (counts (node l w r) ++ x) (omega arith)
    ∙ ap (λ n. close_at (1 + suc (suc (ls l))) n (counts (node l w r) ++ x)) (let y : 0 + suc (ls l) - 1 ≡ ls l = omega arith in y)
    ∙ close_whole (node l w r) (1 + suc (suc (ls l))) (ls l) x refl
    ∙ ap Some (let y : 1 + suc (suc (ls l)) + length (counts (node l w r)) ≡ 2 * size (node l w r) + 2 = omega (arith, counts_length (node l w r)) in y)

-- words

zeros : ℕ → List ℕ → List ℕ
zeros zero xs = xs
zeros (suc n) xs = 0 ∷ zeros n xs

zeros_more : (n : ℕ) (xs : List ℕ) → zeros n (0 ∷ xs) ≡ 0 ∷ zeros n xs
unfolding zeros
zeros_more zero xs = refl
zeros_more (suc n) xs = ap (◌∷◌ 0) (zeros_more n xs)

spent_zeros : (n c : ℕ) (st : List ℕ) → spent (zeros n (suc c ∷ st)) ≡ n
unfolding zeros spent
spent_zeros zero c st = refl
spent_zeros (suc n) c st = ap suc (spent_zeros n c st)

taken_zeros : (n c : ℕ) (st : List ℕ) → taken (zeros n (suc c ∷ st)) ≡ c ∷ st
unfolding zeros taken
taken_zeros zero c st = refl
taken_zeros (suc n) c st = taken_zeros n c st

zeros_some : (n c : ℕ) (st : List ℕ) → 0 < length (zeros n (c ∷ st))
unfolding zeros
zeros_some zero c st = omega arith
zeros_some (suc n) c st = omega arith

unfoldable pub ws : Tree → ℕ
ws leaf = 0
ws (node l w r) = ws l + (rs l + ls r - 1) + ws r

unfoldable pub bad_of : List Bool → Tree → ℕ → ℕ → ℕ → ℕ
bad_of all leaf lot at bad = bad
bad_of all (node l w r) lot at bad =
    bad_of all r (lot + size l + 1) (at + ws l + (rs l + ls r - 1)) (lowest (lot + size l + 1) (bad_of all l lot at bad) (has_too_many (rs l) (ls r) (take (rs l + ls r - 1) (drop (at + ws l) all))))

walk_unary : (all : List Bool) (e d : ℕ) (st : List ℕ) (lot at bad : ℕ) (rest : List Bool) → walk all e st lot at bad (unary d ++ rest) ≡ walk all (e + d) st lot at bad (false ∷ rest)
unfolding walk unary
walk_unary all e zero st lot at bad rest = ap (λ n. walk all n st lot at bad (false ∷ rest)) (let y : e ≡ e + 0 = omega arith in y)
walk_unary all e (suc d) st lot at bad rest = walk_unary all (e + 1) d st lot at bad rest ∙ ap (λ n. walk all n st lot at bad (false ∷ rest)) (let y : e + 1 + d ≡ e + suc d = omega arith in y)

pub walk_zero : (all : List Bool) (d : ℕ) (st : List ℕ) (lot at bad : ℕ) (bs : List Bool) → 0 < length st →
    walk all d st lot at bad (false ∷ bs) ≡ walk all 0 (d ∷ taken st) (lot + 1) (at + (spent st + d - 1)) (lowest (lot + 1) bad (has_too_many (spent st) d (take (spent st + d - 1) (drop at all)))) bs
unfolding walk
walk_zero all d [] lot at bad bs h = absurd (omega arith)
walk_zero all d (c ∷ st) lot at bad bs h = refl

walk_lot : (all : List Bool) (d n c : ℕ) (st : List ℕ) (lot at bad : ℕ) (rest : List Bool) →
    walk all 0 (zeros n (suc c ∷ st)) lot at bad (unary d ++ rest) ≡ walk all 0 (d ∷ (c ∷ st)) (lot + 1) (at + (n + d - 1)) (lowest (lot + 1) bad (has_too_many n d (take (n + d - 1) (drop at all)))) rest
walk_lot all d n c st lot at bad rest =
    walk_unary all 0 d (zeros n (suc c ∷ st)) lot at bad rest
    ∙ ap (λ k. walk all k (zeros n (suc c ∷ st)) lot at bad (false ∷ rest)) (let y : 0 + d ≡ d = omega arith in y)
    ∙ walk_zero all d (zeros n (suc c ∷ st)) lot at bad rest (zeros_some n (suc c) st)
    ∙ ap (λ k. walk all 0 (d ∷ taken (zeros n (suc c ∷ st))) (lot + 1) (at + (k + d - 1)) (lowest (lot + 1) bad (has_too_many k d (take (k + d - 1) (drop at all)))) rest) (spent_zeros n c st)
    ∙ ap (λ k. walk all 0 (d ∷ k) (lot + 1) (at + (n + d - 1)) (lowest (lot + 1) bad (has_too_many n d (take (n + d - 1) (drop at all)))) rest) (taken_zeros n c st)

walk_same : (all : List Bool) (st st' : List ℕ) (lot lot' at at' bad : ℕ) (rest : List Bool) → st ≡ st' → lot ≡ lot' → at ≡ at' → walk all 0 st lot at bad rest ≡ walk all 0 st' lot' at' bad rest
walk_same all st st' lot lot' at at' bad rest e f g = cc

walk_tree : (all : List Bool) (t : Tree) (c : ℕ) (st : List ℕ) (lot at bad : ℕ) (rest : List Bool) → ls t ≤ c →
    walk all 0 (c ∷ st) lot at bad (counts t ++ rest) ≡ walk all 0 (zeros (rs t) ((c - ls t) ∷ st)) (lot + size t) (at + ws t) (bad_of all t lot at bad) rest
unfolding counts ls rs size ws bad_of zeros
walk_tree all leaf c st lot at bad rest h = walk_same all (c ∷ st) ((c - 0) ∷ st) lot (lot + 0) at (at + 0) bad rest (ap (λ n. n ∷ st) (omega arith)) (omega arith) (omega arith)
walk_tree all (node l w r) c st lot at bad rest h =
    let d = c - suc (ls l) in
    let bad₁ = bad_of all l lot at bad in
    let size₁ = rs l + ls r - 1 in
    let bad₂ = lowest (lot + size l + 1) bad₁ (has_too_many (rs l) (ls r) (take size₁ (drop (at + ws l) all))) in
    ap (walk all 0 (c ∷ st) lot at bad) (let y : (counts l ++ (unary (ls r) ++ counts r)) ++ rest ≡ counts l ++ (unary (ls r) ++ (counts r ++ rest)) = simp append_assoc in y)
    ∙ walk_tree all l c st lot at bad (unary (ls r) ++ (counts r ++ rest)) (omega arith)
    ∙ ap (λ n. walk all 0 (zeros (rs l) (n ∷ st)) (lot + size l) (at + ws l) bad₁ (unary (ls r) ++ (counts r ++ rest))) (let y : c - ls l ≡ suc d = omega arith in y)
    ∙ walk_lot all (ls r) (rs l) d st (lot + size l) (at + ws l) bad₁ (counts r ++ rest)
    ∙ walk_tree all r (ls r) (d ∷ st) (lot + size l + 1) (at + ws l + size₁) bad₂ rest (omega arith)
    ∙ walk_same all (zeros (rs r) ((ls r - ls r) ∷ (d ∷ st))) (0 ∷ zeros (rs r) (d ∷ st)) (lot + size l + 1 + size r) (lot + suc (size l + size r)) (at + ws l + size₁ + ws r) (at + (ws l + size₁ + ws r)) (bad_of all r (lot + size l + 1) (at + ws l + size₁) bad₂) rest
    (ap (λ n. zeros (rs r) (n ∷ (d ∷ st))) (let y : ls r - ls r ≡ 0 = omega arith in y) ∙ zeros_more (rs r) (d ∷ st)) (omega arith) (omega arith)

pub walk_code : (all : List Bool) (t : Tree) (m : ℕ) → walk all 0 [] 0 m 0 (unary (ls t) ++ counts t) ≡ walked (m + ws t) (bad_of all t 0 m 0)
unfolding walk
walk_code all t m =
    walk_unary all 0 (ls t) [] 0 m 0 (counts t)
    ∙ ap (λ n. walk all 0 (n ∷ []) 0 m 0 (counts t)) (let y : 0 + ls t ≡ ls t = omega arith in y)
    ∙ ap (walk all 0 (ls t ∷ []) 0 m 0) (sym (append-nil (counts t)))
    ∙ walk_tree all t (ls t) [] 0 m 0 [] (omega arith)

pub head_length : (t : Tree) → length (true ∷ (unary (ls t) ++ counts t)) ≡ 2 * size t + 2
head_length t = omega (arith, length-append (unary (ls t)) (counts t), unary_length (ls t), counts_length t)

-- the brackets of the bits
pub heads : (t : Tree) (x s : List Bool) → s ≡ true ∷ (unary (ls t) ++ (counts t ++ x)) → (drop 1 (take (2 * size t + 2) s) ≡ unary (ls t) ++ counts t) × (drop (2 * size t + 2) s ≡ x)
heads t x s e =
    let f : s ≡ (true ∷ (unary (ls t) ++ counts t)) ++ x = e ∙ ap (◌∷◌ true) (sym (append_assoc (unary (ls t)) (counts t) x)) in (
      ap (λ z. drop 1 (take (2 * size t + 2) z)) f ∙ ap (drop 1) (take_at (true ∷ (unary (ls t) ++ counts t)) x (2 * size t + 2) (head_length t)),
      ap (drop (2 * size t + 2)) f ∙ drop_at (true ∷ (unary (ls t) ++ counts t)) x (2 * size t + 2) (head_length t),
    )

-- the symbols of a word

more_false : (x : List Bool) → (falses (x ++ (false ∷ [])) ≡ suc (falses x)) × (trues (x ++ (false ∷ [])) ≡ trues x)
unfolding trues falses
more_false [] = (refl, refl)
more_false (true ∷ x) = let h = more_false x in (h.0, ap suc h.1)
more_false (false ∷ x) = let h = more_false x in (ap suc h.0, h.1)

more_true : (x : List Bool) → (falses (x ++ (true ∷ [])) ≡ falses x) × (trues (x ++ (true ∷ [])) ≡ suc (trues x))
unfolding trues falses
more_true [] = (refl, refl)
more_true (true ∷ x) = let h = more_true x in (h.0, ap suc h.1)
more_true (false ∷ x) = let h = more_true x in (ap suc h.0, h.1)

drop_more : (x : List Bool) (c : Bool) → drop_last (x ++ (c ∷ [])) ≡ x
unfolding drop_last
drop_more [] c = refl
drop_more (a ∷ []) c = refl
drop_more (a ∷ b ∷ x) c = ap (◌∷◌ a) (drop_more (b ∷ x) c)

no_bits : (x : List Bool) → length x ≡ 0 → [] ≡ x
no_bits [] e = refl
no_bits (a ∷ x) e = absurd (omega arith)

few : (p q : ℕ) (x : List Bool) → has_too_many p q x ≡ false → (falses x ≤ p) × (trues x ≤ q)
unfolding has_too_many
few p q x e = let h = or_parts (ltb p (falses x)) (ltb q (trues x)) e in (ltb-false p (falses x) h.0, ltb-false q (trues x) h.1)

word_fill : (p q : ℕ) (x : List Bool) → length x ≡ p + q - 1 → has_too_many p q x ≡ false → (w : List Bool) × (falses w ≡ p) × (trues w ≡ q) × (drop_last w ≡ x)
unfolding falses trues drop_last
word_fill p q x e f =
    let h = few p q x f in
    let t = word_length x in
    elim (cases_eq (p + q) 0) [
      | inl z ↦ ([], omega arith, omega arith, no_bits x (omega arith))
      | inr z ↦ elim (cases_lt (falses x) p) [
        | inl k ↦ (x ++ (false ∷ []), omega (arith, (more_false x).0), omega (arith, (more_false x).1), drop_more x false)
        | inr k ↦ (x ++ (true ∷ []), omega (arith, (more_true x).0), omega (arith, (more_true x).1), drop_more x true)
      ]
    ]

lowest_zero : (lot bad : ℕ) (t : Bool) → 0 < lot → lowest lot bad t ≡ 0 → (bad ≡ 0) × (t ≡ false)
unfolding lowest
lowest_zero lot bad t h e = elim (cases_eq bad 0) [ inl z ↦ (z, right t (rw (eq-eqb bad 0 z) at e)) | inr z ↦ absurd (z (rw (ne_eqb bad 0 z) at e)) ]
  where
    right : (t : Bool) → cond t lot bad ≡ 0 → t ≡ false
    right true e = absurd (omega arith)
    right false e = refl

alike_rs : (t u : Tree) → Alike t u → rs t ≡ rs u
unfolding rs
alike_rs leaf leaf s = refl
alike_rs leaf (node l w r) s = absurd s
alike_rs (node l w r) leaf s = absurd s
alike_rs (node l w r) (node l' w' r') s = ap suc (alike_rs r r' s.1)

pub alike_size : (t u : Tree) → Alike t u → size t ≡ size u
unfolding size
alike_size leaf leaf s = refl
alike_size leaf (node l w r) s = absurd s
alike_size (node l w r) leaf s = absurd s
alike_size (node l w r) (node l' w' r') s = omega (arith, alike_size l l' s.0, alike_size r r' s.1)

pub alike_counts : (t u : Tree) → Alike t u → counts t ≡ counts u
unfolding counts
alike_counts leaf leaf s = refl
alike_counts leaf (node l w r) s = absurd s
alike_counts (node l w r) leaf s = absurd s
alike_counts (node l w r) (node l' w' r') s = rw (alike_counts l l' s.0, alike_counts r r' s.1, alike_ls r r' s.1)

fill : (all : List Bool) (t : Tree) (lot at bad : ℕ) → bad_of all t lot at bad ≡ 0 → at + ws t ≤ length all → (bad ≡ 0) × ((u : Tree) × Alike t u × Wellformed u × (words u ≡ take (ws t) (drop at all)))
unfolding bad_of ws Wellformed words
fill all leaf lot at bad e h = (e, (leaf, tt, tt, refl))
fill all (node l w r) lot at bad e h =
    let k = rs l + ls r - 1 in
    let x = take k (drop (at + ws l) all) in
    let (f, (ur, ar, vr, wr)) = fill all r (lot + size l + 1) (at + ws l + k) (lowest (lot + size l + 1) (bad_of all l lot at bad) (has_too_many (rs l) (ls r) x)) e (omega arith) in
    let (g, few) = lowest_zero (lot + size l + 1) (bad_of all l lot at bad) (has_too_many (rs l) (ls r) x) (omega arith) f in
    let (z, (ul, al, vl, wl)) = fill all l lot at bad g (omega arith) in
    let (v, p, q, d) = word_fill (rs l) (ls r) x (omega (arith, length-take k (drop (at + ws l) all), length-drop (at + ws l) all)) few in (
      z,
      (
        node ul v ur,
        (al, ar),
        (p ∙ alike_rs l ul al, q ∙ alike_ls r ur ar, vl, vr),
        rw (wl, d, wr) (sym (take-add (ws l + k) (ws r) (drop at all)
            ∙ ap (λ y. y ++ take (ws r) (drop (ws l + k) (drop at all))) (take-add (ws l) k (drop at all))
            ∙ append_assoc (take (ws l) (drop at all)) (take k (drop (ws l) (drop at all))) (take (ws r) (drop (ws l + k) (drop at all)))
            ∙ ap (λ y. take (ws l) (drop at all) ++ (take k y ++ take (ws r) (drop (ws l + k) (drop at all)))) (drop-drop (ws l) at all)
            ∙ ap (λ y. take (ws l) (drop at all) ++ (x ++ take (ws r) y)) (drop-drop (ws l + k) at all ∙ ap (λ n. drop n all) (let y : at + (ws l + k) ≡ at + ws l + k = omega arith in y)))),
      ),
    )

pub less_last : (w : List Bool) → (falses (drop_last w) ≤ falses w) × (trues (drop_last w) ≤ trues w) × (length (drop_last w) ≡ falses w + trues w - 1)
unfolding falses trues drop_last
less_last [] = (omega arith, omega arith, refl)
less_last (true ∷ []) = (omega arith, omega arith, refl)
less_last (false ∷ []) = (omega arith, omega arith, refl)
less_last (true ∷ b ∷ w) = let h = less_last (b ∷ w) in let k = word_length (b ∷ w) in (h.0, omega (arith, h.1), omega (arith, h.2, k))
less_last (false ∷ b ∷ w) = let h = less_last (b ∷ w) in let k = word_length (b ∷ w) in (omega (arith, h.0), h.1, omega (arith, h.2, k))

not_many : (p q : ℕ) (x : List Bool) → falses x ≤ p → trues x ≤ q → has_too_many p q x ≡ false
unfolding has_too_many
not_many p q x f g = or_from (ltb p (falses x)) (ltb q (trues x)) (le-ltb p (falses x) f) (le-ltb q (trues x) g)

pub lowest_not : (lot : ℕ) (t : Bool) → t ≡ false → lowest lot 0 t ≡ 0
unfolding lowest
lowest_not lot t e = rw e

pub words_ws : (t : Tree) → Wellformed t → length (words t) ≡ ws t
unfolding words ws Wellformed
words_ws leaf v = refl
words_ws (node l w r) v = simp length-append (omega (arith, words_ws l v.2, words_ws r v.3, (less_last w).2, v.0, v.1))

good : (all : List Bool) (t : Tree) (lot at : ℕ) (rest : List Bool) → Wellformed t → drop at all ≡ words t ++ rest → bad_of all t lot at 0 ≡ 0
unfolding bad_of words Wellformed
good all leaf lot at rest v e = refl
good all (node l w r) lot at rest v e =
    let k = rs l + ls r - 1 in
    let f : drop at all ≡ words l ++ (drop_last w ++ (words r ++ rest)) = e ∙ (let y : (words l ++ (drop_last w ++ words r)) ++ rest ≡ words l ++ (drop_last w ++ (words r ++ rest)) = simp append_assoc in y) in
    let a : drop (at + ws l) all ≡ drop_last w ++ (words r ++ rest) = sym (drop-drop (ws l) at all) ∙ ap (drop (ws l)) f ∙ drop_at (words l) (drop_last w ++ (words r ++ rest)) (ws l) (words_ws l v.2) in
    let long : length (drop_last w) ≡ k = omega (arith, (less_last w).2, v.0, v.1) in
    let c : drop (at + ws l + k) all ≡ words r ++ rest = sym (drop-drop k (at + ws l) all) ∙ ap (drop k) a ∙ drop_at (drop_last w) (words r ++ rest) k long in
    let d : take k (drop (at + ws l) all) ≡ drop_last w = ap (take k) a ∙ take_at (drop_last w) (words r ++ rest) k long in
    let n : has_too_many (rs l) (ls r) (take k (drop (at + ws l) all)) ≡ false = ap (has_too_many (rs l) (ls r)) d ∙ not_many (rs l) (ls r) (drop_last w) (omega (arith, (less_last w).0, v.0)) (omega (arith, (less_last w).1, v.1)) in
    let g = good all l lot at (drop_last w ++ (words r ++ rest)) v.2 f in
    ap (bad_of all r (lot + size l + 1) (at + ws l + k)) (ap (λ z. lowest (lot + size l + 1) z (has_too_many (rs l) (ls r) (take k (drop (at + ws l) all)))) g ∙ lowest_not (lot + size l + 1) _ n)
    ∙ good all r (lot + size l + 1) (at + ws l + k) rest v.3 c

-- the verdict

verdict_code : (t : Tree) → Wellformed t → size t ≤ 4000 → verdict (encode t) ≡ Ok (size t)
unfolding encode
verdict_code t v h =
    let s = encode t in
    let m = 2 * size t + 2 in
    let (a, b) = heads t (words t) s refl in
    let w : walk s 0 [] 0 m 0 (drop 1 (take m s)) ≡ walked (m + ws t) 0 =
    ap (walk s 0 [] 0 m 0) a ∙ walk_code s t m ∙ ap (walked (m + ws t)) (good s t 0 m [] v (b ∙ sym (append-nil (words t)))) in
    let long : m + ws t ≡ length s = omega (arith, words_ws t v, head_length t, length-append (unary (ls t)) (counts t), length-append (unary (ls t)) (counts t ++ words t), length-append (counts t) (words t)) in
    verdict_some s m (closes_code t (words t)) (omega arith)
    ∙ ap (finish s m) w
    ∙ finish_ok s m (walked (m + ws t) 0) long refl
    ∙ ap Ok (let y : m / 2 - 1 ≡ size t = omega arith in y)

Code : List Bool → ℕ → Type 0
Code s n = (t : Tree) × Wellformed t × (size t ≡ n) × (n ≤ 4000) × (encode t ≡ s)

decoded : (s : List Bool) (n m : ℕ) → closes s ≡ Some m → m ≤ 8002 → (w : Walked) → w ≡ walk s 0 [] 0 m 0 (drop 1 (take m s)) → w.at ≡ length s → w.bad ≡ 0 → ◌≡◌ {A = Result ℕ Refusal} (Ok (m / 2 - 1)) (Ok n) → Code s n
unfolding encode Code
decoded s n m e h w f g b o =
    let (t, x, i, j) = bracketed s m e in
    let (a, c) = heads t x s i in
    let p : w ≡ walked (m + ws t) (bad_of s t 0 m 0) = f ∙ ap (walk s 0 [] 0 m 0) (ap (λ n. drop 1 (take n s)) j ∙ a) ∙ walk_code s t m in
    let q = ap (λ z. z.at) p in
    let r = ap (λ z. z.bad) p in
    let (z, (u, al, v, wu)) = fill s t 0 m 0 (sym r ∙ b) (omega (arith, q, g)) in
    let y : drop m s ≡ x = ap (λ n. drop n s) j ∙ c in
    let k : words u ≡ x = wu ∙ ap (take (ws t)) y ∙ take_all (ws t) x (omega (arith, ap length y, length-drop m s, q, g)) in
    let num : m / 2 - 1 ≡ n = cc in (
      u,
      v,
      omega (arith, j, num, alike_size t u al),
      omega (arith, j, num),
      rw (k, ← (alike_counts t u al), ← (alike_ls t u al)) (sym i),
    )

accepted : (s : List Bool) (n : ℕ) (o : Option ℕ) → closes s ≡ o → verdict s ≡ Ok n → Code s n
accepted s n None e h = absurd_path (cc (verdict_none s e))
accepted s n (Some m) e h = elim (cases_lt 8002 m) [
  | inl k ↦ absurd_path (cc (verdict_many s m e k))
  | inr k ↦
      let w = walk s 0 [] 0 m 0 (drop 1 (take m s)) in
      let f = verdict_some s m e k in
      elim (cases_eq w.at (length s)) [
        | inr d ↦ absurd_path (cc (finish_length s m w d))
        | inl a ↦ elim (cases_eq w.bad 0) [
          | inr d ↦ absurd_path (cc (finish_bad s m w a d))
          | inl b ↦ decoded s n m e k w refl a b (sym (finish_ok s m w a b) ∙ sym f ∙ h)
        ]
      ]
]

pub accepts_codes : (s : List Bool) (n : ℕ) → (verdict s ≡ Ok n) ↔ ((t : Tree) × Wellformed t × (size t ≡ n) × (n ≤ 4000) × (encode t ≡ s))
unfolding Code
accepts_codes s n = (
  λ e. accepted s n (closes s) refl e,
  λ (t, v, x, h, e). ap verdict (sym e) ∙ verdict_code t v (omega arith) ∙ ap Ok x,
)

-- and so the sheets of at most 4,000 lots
pub accepts_sheets : (s : List Bool) (n : ℕ) → (verdict s ≡ Ok n) ↔ ((b : ℕ → ℕ → Bool) × Strict b × (n ≤ 4000) × (sheet b n ≡ s))
accepts_sheets s n = (
  λ e. let (t, v, x, h, i) = (accepts_codes s n).0 e in let (b, p, f) = (sheets_are_codes s n).1 (t, v, x, i) in (b, p, h, f),
  λ (b, p, h, f). let (t, v, x, i) = (sheets_are_codes s n).0 (b, p, f) in (accepts_codes s n).1 (t, v, x, h, i),
)
