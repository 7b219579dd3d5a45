-- The best lot of a range as a node of the tree.
use Rattle.std.proofs.Common.{◌≡◌, ℕ, zero, suc, ◌+◌, ◌-◌, ◌<◌, ◌≤◌, Bool, true, false, List, [], ◌∷◌, ◌++◌, length, refl, ap, ◌∙◌, inl, inr, append_assoc, append-nil, arith, length-append}
use Rattle.std.proofs.lemmas.Bool.{cases_lt, eq-eqb, ne_eqb, lt-ltb, le-ltb}
use Rattle.leaders.specs.Tree.{Tree, leaf, node, size, ls, rs, words, Wellformed}
use Rattle.leaders.specs.Sheet.{drop_last}
use Rattle.leaders.specs.Verdict.{falses, trues}
use Rattle.leaders.specs.Tree.{root, Follows}
use Rattle.leaders.proofs.Trees.{trees_are_wellformed}
use Rattle.reading.proofs.Climbs.{degrees, degrees_length, turns}

unfoldable pub sum : List ℕ → ℕ
sum [] = 0
sum (x ∷ xs) = x + sum xs

-- does a lot stand alone: none below it in front, and none below it behind?
unfoldable pub tip : ℕ → ℕ → ℕ
tip zero d = 0
tip (suc p) zero = 1
tip (suc p) (suc d) = 0

unfoldable pub lone : ℕ → List ℕ → ℕ
lone p [] = 0
lone p (d ∷ ds) = tip p d + lone d ds

unfoldable pub last_of : ℕ → List ℕ → ℕ
last_of p [] = p
last_of p (d ∷ ds) = last_of d ds

pub sum_append : (xs ys : List ℕ) → sum (xs ++ ys) ≡ sum xs + sum ys
unfolding sum
sum_append [] ys = omega arith
sum_append (x ∷ xs) ys = omega (arith, sum_append xs ys)

lone_append : (p : ℕ) (xs : List ℕ) (d : ℕ) (zs : List ℕ) → lone p (xs ++ (d ∷ zs)) ≡ lone p xs + (tip (last_of p xs) d + lone d zs)
unfolding lone last_of
lone_append p [] d zs = omega arith
lone_append p (x ∷ xs) d zs = omega (arith, lone_append x xs d zs)

last_append : (p : ℕ) (xs : List ℕ) (d : ℕ) (zs : List ℕ) → last_of p (xs ++ (d ∷ zs)) ≡ last_of d zs
unfolding last_of
last_append p [] d zs = refl
last_append p (x ∷ xs) d zs = last_append x xs d zs

last_zero : (p : ℕ) (t : Tree) → 0 < size t → last_of p (degrees t) ≡ 0
unfolding degrees size last_of ls
last_zero p leaf h = absurd (omega arith)
last_zero p (node l w leaf) h = last_append p (degrees l) 0 []
last_zero p (node l w (node m v r)) h = last_append p (degrees l) (suc (ls m)) (degrees (node m v r)) ∙ last_zero (suc (ls m)) (node m v r) (omega arith)

drop_last_length : (w : List Bool) → length (drop_last w) ≡ length w - 1
unfolding drop_last
drop_last_length [] = refl
drop_last_length (a ∷ []) = refl
drop_last_length (a ∷ b ∷ w) = omega (arith, drop_last_length (b ∷ w))

word_length : (w : List Bool) → length w ≡ falses w + trues w
unfolding falses trues
word_length [] = refl
word_length (false ∷ w) = omega (arith, word_length w)
word_length (true ∷ w) = omega (arith, word_length w)

drops : (w : List Bool) (m n : ℕ) → falses w ≡ m → trues w ≡ n → length (drop_last w) ≡ m + n - 1
drops w m n p q = omega (arith, drop_last_length w, word_length w)

spine_long : (t : Tree) → 0 < size t → (0 < ls t) × (0 < rs t)
unfolding size ls rs
spine_long leaf h = absurd (omega arith)
spine_long (node l w r) h = omega arith

tip_none : (p d : ℕ) → 0 < d → tip p d ≡ 0
unfolding tip
tip_none zero d h = refl
tip_none (suc p) zero h = absurd (omega arith)
tip_none (suc p) (suc d) h = refl

tip_first : (d : ℕ) → tip 0 d ≡ 0
unfolding tip
tip_first d = refl

tip_one : (p : ℕ) → 0 < p → tip p 0 ≡ 1
unfolding tip
tip_one zero h = absurd (omega arith)
tip_one (suc p) h = refl

words_close : (l : Tree) (w : List Bool) (p : ℕ) → 0 < size l → length (words l) + rs l ≡ sum (degrees l) + lone p (degrees l) → falses w ≡ rs l → trues w ≡ 0 →
    length (words l ++ (drop_last w ++ [])) + 1 ≡ sum (degrees l ++ (0 ∷ [])) + lone p (degrees l ++ (0 ∷ []))
unfolding sum lone
words_close l w p n h f g =
    let e : lone p (degrees l ++ (0 ∷ [])) ≡ lone p (degrees l) + (tip 0 0 + 0) = lone_append p (degrees l) 0 [] ∙ ap (λ z. lone p (degrees l) + (tip z 0 + 0)) (last_zero p l n) in
    simp length-append (omega (arith, e, tip_first 0, sum_append (degrees l) (0 ∷ []), drops w (rs l) 0 f g, spine_long l n))

words_open : (l : Tree) (w : List Bool) (r : Tree) (p : ℕ) (zs : List ℕ) (ws : List Bool) (rest : ℕ) → 0 < size r → length (words l) + rs l ≡ sum (degrees l) + lone p (degrees l) →
    length ws + rest ≡ sum zs + lone (ls r) zs → falses w ≡ rs l → trues w ≡ ls r →
    length (words l ++ (drop_last w ++ ws)) + suc rest ≡ sum (degrees l ++ (ls r ∷ zs)) + lone p (degrees l ++ (ls r ∷ zs))
unfolding sum
words_open l w r p zs ws rest n h k f g =
    simp length-append (omega (arith, lone_append p (degrees l) (ls r) zs, tip_none (last_of p (degrees l)) (ls r) (spine_long r n).0, sum_append (degrees l) (ls r ∷ zs), drops w (rs l) (ls r) f g, spine_long r n))

-- how many symbols the words of a tree have
pub words_all : (t : Tree) (p : ℕ) → Wellformed t → 0 < p → length (words t) + rs t ≡ sum (degrees t) + lone p (degrees t)
unfolding Wellformed words rs degrees ls sum lone size
words_all leaf p v h = refl
words_all (node leaf w leaf) p v h = simp length-append (omega (arith, tip_one p h, drops w 0 0 v.0 v.1))
words_all (node (node a x b) w leaf) p v h = words_close (node a x b) w p (omega arith) (words_all (node a x b) p v.2 h) v.0 v.1
words_all (node l w (node a x b)) p v h =
    words_open l w (node a x b) p (degrees (node a x b)) (words (node a x b)) (rs (node a x b)) (omega arith) (words_all l p v.2 h) (words_all (node a x b) (ls (node a x b)) v.3 (omega arith)) v.0 v.1

pub turns_left : (l : Tree) (w : List Bool) (r : Tree) (c : ℕ) → c < size l → turns (node l w r) c ≡ turns l c
unfolding turns
turns_left l w r c h = rw (lt-ltb c (size l) h)

pub turns_here : (l : Tree) (w : List Bool) (r : Tree) (c : ℕ) → c ≡ size l → turns (node l w r) c ≡ 0
unfolding turns
turns_here l w r c h = rw (le-ltb c (size l) (omega arith), eq-eqb c (size l) h)

pub turns_right : (l : Tree) (w : List Bool) (r : Tree) (c : ℕ) → size l < c → turns (node l w r) c ≡ suc (turns r (c - size l - 1))
unfolding turns
turns_right l w r c h = rw (le-ltb c (size l) (omega arith), ne_eqb c (size l) (omega arith))

-- the node of the tree t, whose first lot is suc o, that is best of i..j
pub record Zoom (b : ℕ → ℕ → Bool) (o : ℕ) (t : Tree) (i j : ℕ) : Type 0 where
  pub l : Tree
  pub w : List Bool
  pub r : Tree
  pub q : ℕ
  pub follows : Follows b q (node l w r)
  pub after : q < i
  pub low : i ≤ root q l
  pub high : root q l ≤ j
  pub upto : j ≤ root q l + size r
  pub pre : List ℕ
  pub post : List ℕ
  pub parts : degrees t ≡ pre ++ (degrees l ++ (ls r ∷ (degrees r ++ post)))
  pub place : o + length pre ≡ q
  pub front : List Bool
  pub rest : List Bool
  pub word : words t ≡ front ++ (drop_last w ++ rest)
  pub depth : ℕ
  pub turned : (c : ℕ) → c ≤ size l → turns t (length pre + c) ≡ depth + turns (node l w r) c
  pub symbols : (p : ℕ) → 0 < p → length front + (depth + rs l) ≡ sum (pre ++ degrees l) + lone p (pre ++ degrees l)

well : (l : Tree) (w : List Bool) (r : Tree) → Wellformed (node l w r) → (falses w ≡ rs l) × (trues w ≡ ls r) × Wellformed l × Wellformed r
unfolding Wellformed
well l w r v = v

pub zoom : (b : ℕ → ℕ → Bool) (o : ℕ) (t : Tree) → Follows b o t → (i j : ℕ) → o < i → i ≤ j → j ≤ o + size t → Zoom b o t i j
unfolding size degrees words
zoom b o leaf f i j g h k = absurd (omega arith)
zoom b o (node l w r) f i j g h k = elim (cases_lt j (root o l)) [
  | inl e ↦ left (zoom b o l f.1 i j g h (omega arith))
  | inr e ↦ elim (cases_lt (root o l) i) [
    | inl d ↦ right (omega arith) (zoom b (root o l) r f.2 i j d h (omega arith))
    | inr d ↦ record {
      l = l;
      w = w;
      r = r;
      q = o;
      follows = f;
      after = g;
      low = d;
      high = e;
      upto = omega arith;
      pre = [];
      post = [];
      parts = simp append-nil;
      place = omega arith;
      front = words l;
      rest = words r;
      word = refl;
      depth = 0;
      turned = λ c m. ap (turns (node l w r)) (let e : 0 + c ≡ c = omega arith in e) ∙ (let e : turns (node l w r) c ≡ 0 + turns (node l w r) c = omega arith in e);
      symbols = λ p m. omega (arith, words_all l p (trees_are_wellformed b o l f.1) m);
    }
  ]
]
  where
    left : Zoom b o l i j → Zoom b o (node l w r) i j
    left z = record {
      l = z.l;
      w = z.w;
      r = z.r;
      q = z.q;
      follows = z.follows;
      after = z.after;
      low = z.low;
      high = z.high;
      upto = z.upto;
      pre = z.pre;
      post = z.post ++ (ls r ∷ degrees r);
      parts = rw z.parts (simp append_assoc);
      place = z.place;
      front = z.front;
      rest = z.rest ++ (drop_last w ++ words r);
      word = rw z.word (simp append_assoc);
      depth = z.depth;
      turned = λ c m. turns_left l w r (length z.pre + c) (omega (arith, degrees_length l, degrees_length z.l, simp length-append at (ap length z.parts))) ∙ z.turned c m;
      symbols = z.symbols;
    }

    right : 0 < size r → Zoom b (root o l) r i j → Zoom b o (node l w r) i j
    right n z = record {
      l = z.l;
      w = z.w;
      r = z.r;
      q = z.q;
      follows = z.follows;
      after = z.after;
      low = z.low;
      high = z.high;
      upto = z.upto;
      pre = degrees l ++ (ls r ∷ z.pre);
      post = z.post;
      parts = rw z.parts (simp append_assoc);
      place = simp length-append (omega (arith, z.place, degrees_length l));
      front = words l ++ (drop_last w ++ z.front);
      rest = z.rest;
      word = rw z.word (simp append_assoc);
      depth = suc z.depth;
      turned = λ c m.
          let e : length (degrees l ++ (ls r ∷ z.pre)) ≡ size l + suc (length z.pre) = simp length-append (omega (arith, degrees_length l)) in
          turns_right l w r (length (degrees l ++ (ls r ∷ z.pre)) + c) (omega (arith, e))
          ∙ ap (λ n. suc (turns r n)) (let k : length (degrees l ++ (ls r ∷ z.pre)) + c - size l - 1 ≡ length z.pre + c = omega (arith, e) in k)
          ∙ omega (arith, z.turned c m);
      symbols = λ p m.
          let v = trees_are_wellformed b o (node l w r) f in
          rw (append_assoc (degrees l) (ls r ∷ z.pre) (degrees z.l))
          (omega (arith, words_open l w r p (z.pre ++ degrees z.l) z.front (z.depth + rs z.l) n (words_all l p (well l w r v).2 m) (z.symbols (ls r) (spine_long r n).0) (well l w r v).0 (well l w r v).1));
    }
