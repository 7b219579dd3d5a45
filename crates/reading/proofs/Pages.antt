-- What the reader finds in a sheet are the best and second best lots.
use Rattle.std.proofs.Common.{◌≡◌, ℕ, zero, suc, ◌+◌, ◌-◌, ◌≤◌, Bool, List, ◌∷◌, ◌++◌, length, get_or, take, drop, sym, refl, ap, ◌∙◌, subst, append-nil, arith}
use lib.Seq.{take-append-add, take-append-le, drop-append-le}
use Rattle.leaders.specs.Tree.{Tree, size, ls, encode}
use Rattle.leaders.specs.Sheet.{unary}
use Rattle.leaders.specs.Order.{Strict, Best}
use Rattle.leaders.specs.Tree.{root, spine_l, Follows}
use Rattle.leaders.specs.Sheet.{sheet}
use Rattle.leaders.proofs.Trees.{has_a_tree}
use Rattle.leaders.proofs.Sheets.{sheet_is_code}
use Rattle.reading.specs.declared.climb.Climb.{Climb}
use Rattle.reading.specs.Climbing.{at, climb}
use Rattle.reading.specs.Place.{after}
use Rattle.reading.specs.Reading.{reach}
use Rattle.reading.proofs.Climbs.{flat, degrees, degrees_length, same, turns, over, climb_node, climb_front, climb_end, unary_many}
use Rattle.reading.proofs.Places.{slice_append, slice_encode}
use Rattle.reading.proofs.Zooms.{Zoom, zoom}

-- the numbers of the lots i..j of a node
node_slice : (pre post : List ℕ) (l r : Tree) (c e : ℕ) → c ≤ size l →
    drop (length pre + c) (take (length pre + (size l + e)) (pre ++ (degrees l ++ (ls r ∷ (degrees r ++ post))))) ≡ drop c (degrees l) ++ take e (ls r ∷ (degrees r ++ post))
node_slice pre post l r c e h =
    let ys = ls r ∷ (degrees r ++ post) in
    slice_append pre (degrees l ++ ys) c (size l + e)
    ∙ ap (λ n. drop c (take (n + e) (degrees l ++ ys))) (sym (degrees_length l))
    ∙ ap (drop c) (take-append-add (degrees l) ys e)
    ∙ drop-append-le c (degrees l) (take e ys) (omega (arith, degrees_length l))

-- the way back from a lot of the right part to one of the left part
node_best : (o : ℕ) (l r : Tree) (post : List ℕ) (c e j : ℕ) → e ≤ size r → j ≡ root o l + e →
    (climb (flat (drop c (degrees l) ++ take e (ls r ∷ (degrees r ++ post)))) (at j j 0 0)).best ≡ root o l
node_best o l r post c zero j h k =
    let (x, y, f) = climb_end c l j j 0 0 in
    ap (λ z. (climb (flat z) (at j j 0 0)).best) (append-nil (drop c (degrees l))) ∙ ap (λ s. s.best) f ∙ omega arith
node_best o l r post c (suc e) j h k =
    let s : Climb = at j j 0 0 in
    let front = climb_front (root o l) r e (omega arith) in
    let start : s ≡ at (suc (root o l + e)) (suc (root o l + e)) 0 0 = same _ _ _ _ _ _ _ _ (omega arith) (omega arith) refl refl in
    let q = over (suc (root o l + e)) (spine_l (root o l) r) in
    let (x, y, f) = climb_end c l (suc (root o l) - 1) (suc (root o l) - 1) 0 (turns r e + 1) in
    ap (λ s. s.best)
    (ap (λ z. climb (flat (drop c (degrees l) ++ (ls r ∷ z))) s) (take-append-le e (degrees r) post (omega (arith, degrees_length r)))
    ∙ climb_node (drop c (degrees l)) (take e (degrees r)) (ls r) s
    ∙ ap (λ z. climb (flat (drop c (degrees l))) (climb (unary (ls r)) z)) (ap (climb (flat (take e (degrees r)))) start ∙ front.is)
    ∙ ap (climb (flat (drop c (degrees l)))) (unary_many (ls r) (suc (root o l)) (get_or (spine_l (root o l) r) q 0) (ls r - 1 - q) (turns r e) (omega (arith, front.found)))
    ∙ f) ∙ omega arith

-- the bits are the code of a tree
pub record Coded (b : ℕ → ℕ → Bool) (bs : List Bool) (n : ℕ) : Type 0 where
  pub t : Tree
  pub follows : Follows b 0 t
  pub sized : size t ≡ n
  pub is : bs ≡ encode t

pub coded : (b : ℕ → ℕ → Bool) → Strict b → (bs : List Bool) (n : ℕ) → sheet b n ≡ bs → Coded b bs n
coded b s bs n e =
    let (t, x, f) = has_a_tree b s 0 n in
    record { t = t; follows = f; sized = x; is = sym e ∙ ap (sheet b) (sym x) ∙ sheet_is_code b s t f }

-- the bits of the lots i..j as numbers
pub reach_flat : (t : Tree) (bs : List Bool) → bs ≡ encode t → (i j : ℕ) → 1 ≤ i → i ≤ j → j ≤ suc (size t) → (s : Climb) →
    climb (drop (after i bs) (take (after j bs) bs)) s ≡ climb (flat (drop (i - 1) (take (j - 1) (degrees t)))) s
reach_flat t bs e zero j g h k s = absurd (omega arith)
reach_flat t bs e (suc i) zero g h k s = absurd (omega arith)
reach_flat t bs e (suc i) (suc j) g h k s =
    ap (λ z. climb (drop (after (suc i) z) (take (after (suc j) z) z)) s) e
    ∙ ap (λ z. climb z s) (slice_encode t i j (omega arith) (omega arith))
    ∙ ap (λ m. climb (flat (drop m (take j (degrees t)))) s) (let z : i ≡ suc i - 1 = omega arith in z)
    ∙ ap (λ m. climb (flat (drop (suc i - 1) (take m (degrees t)))) s) (let z : j ≡ suc j - 1 = omega arith in z)

-- the slice of a zoom
zoom_slice : (b : ℕ → ℕ → Bool) (t : Tree) (i j : ℕ) (z : Zoom b 0 t i j) →
    drop (i - 1) (take (j - 1) (degrees t)) ≡ drop (i - 1 - z.q) (degrees z.l) ++ take (j - root z.q z.l) (ls z.r ∷ (degrees z.r ++ z.post))
zoom_slice b t i j z =
    ap (λ y. drop (i - 1) (take (j - 1) y)) z.parts
    ∙ ap (λ m. drop m (take (j - 1) (z.pre ++ (degrees z.l ++ (ls z.r ∷ (degrees z.r ++ z.post)))))) (let k : i - 1 ≡ length z.pre + (i - 1 - z.q) = omega (arith, z.after, z.place) in k)
    ∙ ap (λ m. drop (length z.pre + (i - 1 - z.q)) (take m (z.pre ++ (degrees z.l ++ (ls z.r ∷ (degrees z.r ++ z.post))))))
    (let k : j - 1 ≡ length z.pre + (size z.l + (j - root z.q z.l)) = omega (arith, z.high, z.place) in k)
    ∙ node_slice z.pre z.post z.l z.r (i - 1 - z.q) (j - root z.q z.l) (omega (arith, z.low, z.after))

pub zoom_best : (b : ℕ → ℕ → Bool) (t : Tree) (bs : List Bool) → bs ≡ encode t → (i j : ℕ) → i ≤ j → j ≤ size t → (z : Zoom b 0 t i j) → (reach bs i j).best ≡ root z.q z.l
unfolding reach
zoom_best b t bs e i j h k z =
    ap (λ s. s.best) (reach_flat t bs e i j (omega (arith, z.after)) h (omega arith) (at j j 0 0))
    ∙ ap (λ y. (climb (flat y) (at j j 0 0)).best) (zoom_slice b t i j z)
    ∙ node_best z.q z.l z.r z.post (i - 1 - z.q) (j - root z.q z.l) j (omega (arith, z.upto, z.high)) (omega (arith, z.high))

pub root_best : (b : ℕ → ℕ → Bool) (t : Tree) (i j : ℕ) (z : Zoom b 0 t i j) → Best b i j (root z.q z.l)
unfolding size
root_best b t i j z = record { from = z.low; upto = z.high; over = λ m u v d. z.follows.0.over m (omega (arith, z.after)) (omega (arith, z.upto)) d }

-- the best of a range
pub best_read : (b : ℕ → ℕ → Bool) → Strict b → (bs : List Bool) (n : ℕ) → sheet b n ≡ bs → (i j : ℕ) → 1 ≤ i → i ≤ j → j ≤ n → Best b i j (reach bs i j).best
best_read b s bs n e i j g h k =
    let c = coded b s bs n e in
    let z = zoom b 0 c.t c.follows i j g h (omega (arith, c.sized)) in
    subst (Best b i j) (sym (zoom_best b c.t bs c.is i j h (omega (arith, c.sized)) z)) (root_best b c.t i j z)
