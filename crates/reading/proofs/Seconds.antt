-- The second best lot of a range.
use Rattle.std.proofs.Common.{◌≡◌, ℕ, zero, suc, ◌+◌, ◌-◌, ◌*◌, ◌<◌, ◌≤◌, Bool, true, false, cond, leb, List, [], ◌∷◌, ◌++◌, length, get_or, take, drop, Some, None, IsSomeAnd, sym, refl, ap, ◌∙◌, subst, inl, inr, append_assoc, arith, length-append, take_at, drop_at}
use lib.Seq.{take-append-le, drop-append-add}
use Rattle.std.proofs.lemmas.Bool.{cases_lt, eq-eqb, ne_eqb, le-ltb, leb-true, leb-false}
use Rattle.leaders.specs.Tree.{Tree, leaf, node, size, ls, rs, words, encode, Wellformed}
use Rattle.leaders.specs.Sheet.{unary, drop_last}
use Rattle.leaders.specs.Verdict.{falses, trues}
use Rattle.leaders.specs.Order.{Strict, Best, Second}
use Rattle.leaders.specs.Tree.{root, spine_r, spine_l, Follows}
use Rattle.leaders.specs.Tree.{best_of, scan, second_of}
use Rattle.leaders.specs.Sheet.{sheet}
use Rattle.leaders.proofs.Trees.{best_one, trees_are_wellformed, spine_r_length, spine_l_length}
use Rattle.leaders.proofs.Queries.{second_is_found}
use Rattle.reading.specs.Climbing.{at, climb}
use Rattle.reading.specs.Place.{after, lones}
use Rattle.reading.specs.Reading.{reach, word_at, is_left_first, runner_up_of}
use Rattle.leaders.specs.Tree.{sooner}
use Rattle.reading.proofs.Climbs.{flat, degrees, degrees_length, same, turns, over, below, climb_front}
use Rattle.reading.proofs.Places.{slice_append, slice_encode, after_encode, encode_flat, unary_length}
use Rattle.reading.proofs.Zooms.{Zoom, zoom, sum, sum_append, tip, lone, turns_left, turns_here, turns_right}
use Rattle.reading.proofs.Numbers.{lones_run}
use Rattle.reading.proofs.Pages.{coded, reach_flat, zoom_best, root_best, best_read}

-- words: the first lot of the range

scan_sooner : (i j : ℕ) (w : List Bool) (xs ys : List ℕ) → falses w ≡ length xs → trues w ≡ length ys → below i xs < length xs → over j ys < length ys →
    scan i j w xs ys ≡ cond (sooner w (below i xs) (over j ys)) (get_or xs (below i xs) 0) (get_or ys (over j ys) 0)
unfolding scan falses trues below over sooner
scan_sooner i j [] xs ys p q f g = absurd (omega arith)
scan_sooner i j (false ∷ w) [] ys p q f g = absurd (omega arith)
scan_sooner i j (false ∷ w) (x ∷ xs) ys p q f g = go (λ h. scan_sooner i j w xs ys (omega arith) q h g) (leb i x) refl
  where
    go : (below i xs < length xs → scan i j w xs ys ≡ cond (sooner w (below i xs) (over j ys)) (get_or xs (below i xs) 0) (get_or ys (over j ys) 0)) → (t : Bool) → leb i x ≡ t → cond (leb i x) x (scan i j w xs ys) ≡ cond (sooner (false ∷ w) (cond (leb i x) 0 (suc (below i xs))) (over j ys)) (get_or (x ∷ xs) (cond (leb i x) 0 (suc (below i xs))) 0) (get_or ys (over j ys) 0)
    go ih true e = rw e
    go ih false e = rw e (ih (omega (arith, rw e at f)))
scan_sooner i j (true ∷ w) xs [] p q f g = absurd (omega arith)
scan_sooner i j (true ∷ w) xs (y ∷ ys) p q f g = go (λ h. scan_sooner i j w xs ys p (omega arith) f h) (leb y j) refl
  where
    go : (over j ys < length ys → scan i j w xs ys ≡ cond (sooner w (below i xs) (over j ys)) (get_or xs (below i xs) 0) (get_or ys (over j ys) 0)) → (t : Bool) → leb y j ≡ t → cond (leb y j) y (scan i j w xs ys) ≡ cond (sooner (true ∷ w) (below i xs) (cond (leb y j) 0 (suc (over j ys)))) (get_or xs (below i xs) 0) (get_or (y ∷ ys) (cond (leb y j) 0 (suc (over j ys))) 0)
    go ih true e = rw e
    go ih false e = rw e (ih (omega (arith, rw e at g)))

sooner_drop : (w rest : List Bool) (x y : ℕ) → x < falses w → y < trues w → sooner (drop_last w ++ rest) x y ≡ sooner w x y
unfolding falses trues sooner drop_last
sooner_drop [] rest x y h k = absurd (omega arith)
sooner_drop (false ∷ []) rest x y h k = absurd (omega arith)
sooner_drop (true ∷ []) rest x y h k = absurd (omega arith)
sooner_drop (false ∷ b ∷ w) rest zero y h k = refl
sooner_drop (false ∷ b ∷ w) rest (suc x) y h k = sooner_drop (b ∷ w) rest x y (omega arith) k
sooner_drop (true ∷ b ∷ w) rest x zero h k = refl
sooner_drop (true ∷ b ∷ w) rest x (suc y) h k = sooner_drop (b ∷ w) rest x y h (omega arith)

-- the lots in front: the right spine

record Left (b : ℕ → ℕ → Bool) (o : ℕ) (t : Tree) (i p a : ℕ) : Type 0 where
  found : p < rs t
  best : Best b i (o + size t) a
  turned : turns t (a - o - 1) ≡ p

left_is : (b : ℕ → ℕ → Bool) (o : ℕ) (t : Tree) → Follows b o t → (i : ℕ) → o < i → i ≤ o + size t → Left b o t i (below i (spine_r o t)) (get_or (spine_r o t) (below i (spine_r o t)) 0)
unfolding size rs spine_r below
left_is b o leaf f i g h = absurd (omega arith)
left_is b o (node l w r) f i g h = go (λ k. left_is b (root o l) r f.2 i k (omega arith)) (leb i (root o l)) refl
  where
    go : (root o l < i → Left b (root o l) r i (below i (spine_r (root o l) r)) (get_or (spine_r (root o l) r) (below i (spine_r (root o l) r)) 0)) → (t : Bool) → leb i (root o l) ≡ t → Left b o (node l w r) i (cond (leb i (root o l)) 0 (suc (below i (spine_r (root o l) r)))) (get_or (root o l ∷ spine_r (root o l) r) (cond (leb i (root o l)) 0 (suc (below i (spine_r (root o l) r)))) 0)
    go ih true e = rw e (record {
      found = omega arith;
      best = record { from = leb-true i (root o l) e; upto = omega arith; over = λ m u v d. f.0.over m (omega arith) (omega arith) d };
      turned = turns_here l w r (root o l - o - 1) (omega arith);
    })
    go ih false e =
        let d = ih (leb-false i (root o l) e) in
        let a = get_or (spine_r (root o l) r) (below i (spine_r (root o l) r)) 0 in
        let k : i ≤ a = d.best.from in
        rw e (record {
          found = omega (arith, d.found);
          best = subst (λ n. Best b i n a) (let z : root o l + size r ≡ o + suc (size l + size r) = omega arith in z) d.best;
          turned = turns_right l w r (a - o - 1) (omega (arith, leb-false i (root o l) e)) ∙ ap (λ n. suc (turns r n)) (let z : a - o - 1 - size l - 1 ≡ a - root o l - 1 = omega arith in z) ∙ ap suc d.turned;
        })

turns_last : (t : Tree) → 0 < size t → suc (turns t (size t - 1)) ≡ rs t
unfolding size rs
turns_last leaf h = absurd (omega arith)
turns_last (node l w leaf) h = ap suc (turns_here l w leaf (suc (size l + 0) - 1) (omega arith))
turns_last (node l w (node a x b)) h =
    ap suc (turns_right l w (node a x b) (suc (size l + suc (size a + size b)) - 1) (omega arith)
    ∙ ap (λ n. suc (turns (node a x b) n)) (let z : suc (size l + suc (size a + size b)) - 1 - size l - 1 ≡ suc (size a + size b) - 1 = omega arith in z)
    ∙ turns_last (node a x b) (omega arith))

-- numbers and bits

flat_length : (ds : List ℕ) → length (flat ds) ≡ length ds + sum ds
unfolding flat sum
flat_length [] = refl
flat_length (d ∷ ds) = simp length-append (omega (arith, unary_length d, flat_length ds))

degrees_sum : (t : Tree) → sum (degrees t) + ls t ≡ size t
unfolding degrees ls size sum
degrees_sum leaf = refl
degrees_sum (node l w r) = omega (arith, sum_append (degrees l) (ls r ∷ degrees r), degrees_sum l, degrees_sum r)

some : ℕ → Bool
some zero = false
some (suc d) = true

lones_unary : (p d : ℕ) (zs : List Bool) → lones (some p) false (unary d ++ zs) ≡ tip p d + lones (some d) false zs
unfolding lones unary some tip
lones_unary zero zero zs = refl
lones_unary (suc p) zero zs = refl
lones_unary zero (suc d) zs = lones_run false d zs ∙ omega arith
lones_unary (suc p) (suc d) zs = lones_run true d zs ∙ omega arith

lones_flat : (p : ℕ) (ds : List ℕ) → lones (some p) false (flat ds) ≡ lone p ds
unfolding lone flat lones
lones_flat p [] = refl
lones_flat p (d ∷ ds) = lones_unary p d (flat ds) ∙ ap (λ n. tip p d + n) (lones_flat d ds)

after_is : (t : Tree) (m : ℕ) (xs : List ℕ) → m ≤ size t → take m (degrees t) ≡ xs → after (suc m) (encode t) ≡ 2 + ls t + (length xs + sum xs)
unfolding flat
after_is t m xs h e =
    after_encode t m h ∙ ap (λ z. suc (length (unary (ls t) ++ flat z))) e
    ∙ omega (arith, length-append (unary (ls t)) (flat xs), unary_length (ls t), flat_length xs)

-- the steps from a lot back to lot 1
steps_is : (t : Tree) (bs : List Bool) → bs ≡ encode t → (m : ℕ) → m < size t → (reach bs 1 (suc m)).steps ≡ turns t m
unfolding reach
steps_is t bs e m h =
    ap (λ s. s.steps)
    (reach_flat t bs e 1 (suc m) (omega arith) (omega arith) (omega arith) (at (suc m) (suc m) 0 0)
    ∙ ap (λ n. climb (flat (take n (degrees t))) (at (suc m) (suc m) 0 0)) (let z : suc m - 1 ≡ m = omega arith in z)
    ∙ ap (climb (flat (take m (degrees t)))) (same _ _ _ _ _ _ _ _ (let z : suc m ≡ suc (0 + m) = omega arith in z) (let z : suc m ≡ suc (0 + m) = omega arith in z) refl refl)
    ∙ (climb_front 0 t m h).is)

-- a node with lots of the range on both sides

module _ (b : ℕ → ℕ → Bool) (s : Strict b) (t : Tree) (bs : List Bool) (e : bs ≡ encode t) (i j : ℕ) (long : j ≤ size t) (z : Zoom b 0 t i j) where
  abbrev k : ℕ
  k = root z.q z.l

  abbrev lower : List ℕ
  lower = z.pre ++ degrees z.l

  lower_length : length lower ≡ z.q + size z.l
  lower_length = simp length-append (omega (arith, z.place, degrees_length z.l))

  split : degrees t ≡ lower ++ (ls z.r ∷ (degrees z.r ++ z.post))
  split = z.parts ∙ sym (append_assoc z.pre (degrees z.l) (ls z.r ∷ (degrees z.r ++ z.post)))

  split_after : degrees t ≡ (lower ++ (ls z.r ∷ [])) ++ (degrees z.r ++ z.post)
  split_after = split ∙ sym (append_assoc lower (ls z.r ∷ []) (degrees z.r ++ z.post))

  below_size : k ≤ size t
  below_size = omega (arith, z.high)

  take_lower : take (z.q + size z.l) (degrees t) ≡ lower
  take_lower = ap (take (z.q + size z.l)) split ∙ take_at lower (ls z.r ∷ (degrees z.r ++ z.post)) (z.q + size z.l) lower_length

  own_length : length (lower ++ (ls z.r ∷ [])) ≡ k
  own_length = length-append lower (ls z.r ∷ []) ∙ omega (arith, lower_length)

  take_own : take k (degrees t) ≡ lower ++ (ls z.r ∷ [])
  take_own = ap (take k) split_after ∙ take_at (lower ++ (ls z.r ∷ [])) (degrees z.r ++ z.post) k own_length

  after_first : after 1 bs ≡ 2 + ls t
  unfolding sum
  after_first = ap (after 1) e ∙ after_is t 0 [] (omega arith) refl ∙ omega arith

  after_here : after k bs ≡ 2 + ls t + (z.q + size z.l + sum lower)
  after_here = ap (after k) e ∙ after_is t (z.q + size z.l) lower (omega (arith, below_size)) take_lower ∙ omega (arith, lower_length)

  after_next : after (k + 1) bs ≡ 2 + ls t + (k + (sum lower + ls z.r))
  unfolding sum
  after_next =
      ap (λ n. after n bs) (let y : k + 1 ≡ suc k = omega arith in y) ∙ ap (after (suc k)) e ∙ after_is t k (lower ++ (ls z.r ∷ [])) below_size take_own
      ∙ omega (arith, own_length, sum_append lower (ls z.r ∷ []))

  abbrev ahead : ℕ
  ahead = over j (spine_l k z.r)

  right_is : k < j → (ahead < ls z.r) × (reach bs (k + 1) j ≡ at (suc k) (get_or (spine_l k z.r) ahead 0) (ls z.r - 1 - ahead) (turns z.r (j - 1 - k)))
  unfolding reach
  right_is h =
      let c = j - 1 - k in
      let f = climb_front k z.r c (omega (arith, z.upto)) in
      let y : suc (k + c) ≡ j = omega arith in
      let found : over j (spine_l k z.r) < ls z.r = subst (λ n. over n (spine_l k z.r) < ls z.r) y f.found in
      let is = subst (λ n. climb (flat (take c (degrees z.r))) (at n n 0 0) ≡ at (suc k) (get_or (spine_l k z.r) (over n (spine_l k z.r)) 0) (ls z.r - 1 - over n (spine_l k z.r)) (turns z.r c)) y f.is in
      let part : drop (k + 1 - 1) (take (j - 1) (degrees t)) ≡ take c (degrees z.r) =
      ap (λ m. drop m (take (j - 1) (degrees t))) (let x : k + 1 - 1 ≡ length (lower ++ (ls z.r ∷ [])) + 0 = omega (arith, own_length) in x)
      ∙ ap (λ m. drop (length (lower ++ (ls z.r ∷ [])) + 0) (take m (degrees t))) (let x : j - 1 ≡ length (lower ++ (ls z.r ∷ [])) + c = omega (arith, own_length) in x)
      ∙ ap (λ y. drop (length (lower ++ (ls z.r ∷ [])) + 0) (take (length (lower ++ (ls z.r ∷ [])) + c) y)) split_after
      ∙ slice_append (lower ++ (ls z.r ∷ [])) (degrees z.r ++ z.post) 0 c
      ∙ take-append-le c (degrees z.r) z.post (omega (arith, z.upto, degrees_length z.r)) in
      (found, reach_flat t bs e (k + 1) j (omega arith) (omega arith) (omega arith) (at j j 0 0) ∙ ap (λ y. climb (flat y) (at j j 0 0)) part ∙ is)

  abbrev aside : ℕ
  aside = below i (spine_r z.q z.l)

  abbrev a : ℕ
  a = get_or (spine_r z.q z.l) aside 0

  left_found : i < k → Left b z.q z.l i aside a
  unfolding size
  left_found h = left_is b z.q z.l z.follows.1 i z.after (omega arith)

  steps_here : (reach bs 1 k).steps ≡ z.depth
  steps_here =
      steps_is t bs e (z.q + size z.l) (omega (arith, below_size))
      ∙ ap (turns t) (let y : z.q + size z.l ≡ length z.pre + size z.l = omega (arith, z.place) in y)
      ∙ z.turned (size z.l) (omega arith)
      ∙ omega (arith, turns_here z.l z.w z.r (size z.l) refl)

  steps_in : (m : ℕ) → z.q < m → m < k → (reach bs 1 m).steps ≡ z.depth + turns z.l (m - z.q - 1)
  steps_in m g h =
      ap (λ n. (reach bs 1 n).steps) (let y : m ≡ suc (m - 1) = omega arith in y)
      ∙ steps_is t bs e (m - 1) (omega (arith, below_size))
      ∙ ap (turns t) (let y : m - 1 ≡ length z.pre + (m - z.q - 1) = omega (arith, z.place) in y)
      ∙ z.turned (m - z.q - 1) (omega arith)
      ∙ ap (λ n. z.depth + n) (turns_left z.l z.w z.r (m - z.q - 1) (omega arith))

  word_is : i < k → word_at bs (size t) k ≡ 2 * size t + 2 + length z.front
  unfolding word_at some
  word_is h =
      let lone_is : lones true false (drop (after 1 bs) (take (after k bs) bs)) ≡ lone 1 lower =
      ap (λ y. lones true false (drop (after 1 y) (take (after k y) y))) e
      ∙ ap (lones true false) (slice_encode t 0 (z.q + size z.l) (omega arith) (omega (arith, below_size)) ∙ ap flat take_lower)
      ∙ lones_flat 1 lower in
      let depth : (reach bs 1 (k - 1)).steps + 1 ≡ z.depth + rs z.l =
      omega (arith, steps_in (k - 1) (omega (arith, z.after)) (omega arith), ap (turns z.l) (let y : k - 1 - z.q - 1 ≡ size z.l - 1 = omega arith in y), turns_last z.l (omega (arith, z.after))) in
      omega (arith, lone_is, depth, after_first, after_here, z.symbols 1 (omega arith))

  drop_word : drop (2 * size t + 2 + length z.front) bs ≡ drop_last z.w ++ z.rest
  unfolding sum
  drop_word =
      let heads = true ∷ flat (ls t ∷ degrees t) in
      let long : length heads ≡ 2 * size t + 2 = omega (arith, flat_length (ls t ∷ degrees t), degrees_sum t, degrees_length t) in
      ap (λ n. drop (n + length z.front) bs) (sym long)
      ∙ ap (drop (length heads + length z.front)) (e ∙ encode_flat t)
      ∙ drop-append-add heads (words t) (length z.front)
      ∙ ap (drop (length z.front)) z.word
      ∙ drop_at z.front (drop_last z.w ++ z.rest) (length z.front) refl

  well : (falses z.w ≡ rs z.l) × (trues z.w ≡ ls z.r)
  unfolding Wellformed
  well = let v = trees_are_wellformed b z.q (node z.l z.w z.r) z.follows in (v.0, v.1)

  first_is : i < k → k < j → is_left_first bs (size t) k a (ls z.r - 1 - ahead) ≡ sooner z.w aside ahead
  unfolding is_left_first
  first_is g h =
      let l = left_found g in
      let r = (right_is h).0 in
      let in_left : (z.q < a) × (a < k) = (omega (arith, l.best.from, z.after), omega (arith, l.best.upto)) in
      let x : (reach bs 1 a).steps - (reach bs 1 k).steps ≡ aside = omega (arith, steps_here, steps_in a in_left.0 in_left.1, l.turned) in
      let y : after (k + 1) bs - after k bs - (2 + (ls z.r - 1 - ahead)) ≡ ahead = omega (arith, after_here, after_next, r) in
      ap (λ n. sooner (drop n bs) ((reach bs 1 a).steps - (reach bs 1 k).steps) (after (k + 1) bs - after k bs - (2 + (ls z.r - 1 - ahead)))) (word_is g)
      ∙ ap (λ n. sooner (drop (2 * size t + 2 + length z.front) bs) n (after (k + 1) bs - after k bs - (2 + (ls z.r - 1 - ahead)))) x
      ∙ ap (sooner (drop (2 * size t + 2 + length z.front) bs) aside) y
      ∙ ap (λ w. sooner w aside ahead) drop_word
      ∙ sooner_drop z.w z.rest aside ahead (omega (arith, well, l.found)) (omega (arith, well, r))

  scan_is : i < k → k < j → scan i j z.w (spine_r z.q z.l) (spine_l k z.r) ≡ cond (sooner z.w aside ahead) a (get_or (spine_l k z.r) ahead 0)
  scan_is g h =
      scan_sooner i j z.w (spine_r z.q z.l) (spine_l k z.r) (well.0 ∙ sym (spine_r_length z.q z.l)) (well.1 ∙ sym (spine_l_length k z.r))
      (omega (arith, (left_found g).found, spine_r_length z.q z.l)) (omega (arith, (right_is h).0, spine_l_length k z.r))

  node_second : i < k → k < j → Second b i j k (scan i j z.w (spine_r z.q z.l) (spine_l k z.r))
  unfolding best_of second_of size
  node_second g h = rw (le-ltb j k (omega arith), le-ltb k i (omega arith)) at (second_is_found b s z.q (node z.l z.w z.r) z.follows i j z.after (omega arith) (omega (arith, z.upto)))

  left_reach : Follows b 0 t → i < k → (reach bs i (k - 1)).best ≡ a
  left_reach f g =
      let y = zoom b 0 t f i (k - 1) (omega (arith, z.after)) (omega arith) (omega (arith, below_size)) in
      zoom_best b t bs e i (k - 1) (omega arith) (omega (arith, below_size)) y
      ∙ best_one b s i (k - 1) (root y.q y.l) a (root_best b t i (k - 1) y) (subst (λ n. Best b i n a) (let x : z.q + size z.l ≡ k - 1 = omega arith in x) (left_found g).best)

  both_sides : Follows b 0 t → i < k → k < j → IsSomeAnd (runner_up_of bs (size t) i j k) (Second b i j k)
  unfolding runner_up_of
  both_sides f g h =
      let r = (right_is h).1 in
      let above = ap (λ s. s.above) r in
      let best = ap (λ s. s.best) r in
      let A = (reach bs i (k - 1)).best in
      let chosen : cond (is_left_first bs (size t) k A (reach bs (k + 1) j).above) A (reach bs (k + 1) j).best ≡ scan i j z.w (spine_r z.q z.l) (spine_l k z.r) =
      ap (λ x. cond (is_left_first bs (size t) k x (reach bs (k + 1) j).above) x (reach bs (k + 1) j).best) (left_reach f g)
      ∙ ap (λ x. cond (is_left_first bs (size t) k a x) a (reach bs (k + 1) j).best) above
      ∙ ap (λ x. cond (is_left_first bs (size t) k a (ls z.r - 1 - ahead)) a x) best
      ∙ ap (λ x. cond x a (get_or (spine_l k z.r) ahead 0)) (first_is g h)
      ∙ sym (scan_is g h) in
      rw (ne_eqb i k (omega arith), ne_eqb k j (omega arith)) (subst (Second b i j k) (sym chosen) (node_second g h))

-- lots on one side only
right_only : (b : ℕ → ℕ → Bool) (i j k s : ℕ) → Best b i j k → i ≡ k → Best b (k + 1) j s → Second b i j k s
right_only b i j k s h e g = record {
  best = h;
  from = omega (arith, g.from);
  upto = g.upto;
  other = omega (arith, g.from);
  over = λ m u v d c. g.over m (omega arith) v c;
}

left_only : (b : ℕ → ℕ → Bool) (i j k s : ℕ) → Best b i j k → k ≡ j → i < k → Best b i (k - 1) s → Second b i j k s
left_only b i j k s h e p g = record {
  best = h;
  from = g.from;
  upto = omega (arith, g.upto);
  other = omega (arith, g.upto);
  over = λ m u v d c. g.over m u (omega arith) c;
}

runner_right : (bs : List Bool) (n i j k : ℕ) → i ≡ k → k < j → runner_up_of bs n i j k ≡ Some (reach bs (k + 1) j).best
unfolding runner_up_of
runner_right bs n i j k e h = rw (eq-eqb i k e, ne_eqb k j (omega arith))

runner_left : (bs : List Bool) (n i j k : ℕ) → i < k → k ≡ j → runner_up_of bs n i j k ≡ Some (reach bs i (k - 1)).best
unfolding runner_up_of
runner_left bs n i j k e h = rw (ne_eqb i k (omega arith), eq-eqb k j h)

pub runner_none : (bs : List Bool) (n i j k : ℕ) → i ≡ k → k ≡ j → runner_up_of bs n i j k ≡ None
unfolding runner_up_of
runner_none bs n i j k e h = rw (eq-eqb i k e, eq-eqb k j h)

pub second_read : (b : ℕ → ℕ → Bool) → Strict b → (bs : List Bool) (n : ℕ) → sheet b n ≡ bs → (i j : ℕ) → 1 ≤ i → i < j → j ≤ n → IsSomeAnd (runner_up_of bs n i j (reach bs i j).best) (Second b i j (reach bs i j).best)
second_read b s bs n e i j g h m =
    let c = coded b s bs n e in
    let z = zoom b 0 c.t c.follows i j g (omega arith) (omega (arith, c.sized)) in
    let k = root z.q z.l in
    let best = root_best b c.t i j z in
    let at-k : IsSomeAnd (runner_up_of bs n i j k) (Second b i j k) =
    elim (cases_lt i k) [
      | inl p ↦ elim (cases_lt k j) [
        | inl q ↦ subst (λ x. IsSomeAnd (runner_up_of bs x i j k) (Second b i j k)) c.sized (both_sides b s c.t bs c.is i j (omega (arith, c.sized)) z c.follows p q)
        | inr q ↦ let y : k ≡ j = omega (arith, z.high) in subst (λ o. IsSomeAnd o (Second b i j k)) (sym (runner_left bs n i j k p y)) (left_only b i j k _ best y p (best_read b s bs n e i (k - 1) g (omega arith) (omega arith)))
      ]
      | inr p ↦ let y : i ≡ k = omega (arith, z.low) in subst (λ o. IsSomeAnd o (Second b i j k)) (sym (runner_right bs n i j k y (omega arith))) (right_only b i j k _ best y (best_read b s bs n e (k + 1) j (omega arith) (omega arith) m))
    ] in
    subst (λ x. IsSomeAnd (runner_up_of bs n i j x) (Second b i j x)) (sym (zoom_best b c.t bs c.is i j (omega arith) (omega (arith, c.sized)) z)) at-k
