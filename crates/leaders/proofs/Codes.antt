-- The codes of wellformed trees are prefix_free.
use Rattle.std.proofs.Common.{◌≡◌, ℕ, zero, suc, Bool, true, false, List, [], ◌∷◌, ◌++◌, refl, ap, append_assoc, arith}
use Rattle.leaders.specs.Sheet.{unary, drop_last}
use Rattle.leaders.specs.Verdict.{falses, trues}
use Rattle.leaders.specs.Tree.{Tree, leaf, node, ls, Wellformed, counts, words, encode}

pub unary_front : (m n : ℕ) (x y : List Bool) → unary m ++ x ≡ unary n ++ y → (m ≡ n) × (x ≡ y)
unfolding unary
unary_front zero zero x y e = (refl, cc)
unary_front zero (suc n) x y e = (cc, cc)
unary_front (suc m) zero x y e = (cc, cc)
unary_front (suc m) (suc n) x y e =
    let h = unary_front m n x y (cc) in
    (cc, cc)

-- trees that differ at most in their words
abbrev pub Alike : Tree → Tree → Type 0
Alike leaf leaf = Unit {0}
Alike leaf (node l w r) = ⊥
Alike (node l w r) leaf = ⊥
Alike (node l w r) (node l' w' r') = Alike l l' × Alike r r'

pub counts_front : (t u : Tree) (x y : List Bool) → ls t ≡ ls u → counts t ++ x ≡ counts u ++ y → Alike t u × (x ≡ y)
unfolding ls counts
counts_front leaf leaf x y s e = (tt, e)
counts_front leaf (node l w r) x y s e = absurd (omega arith)
counts_front (node l w r) leaf x y s e = absurd (omega arith)
counts_front (node l w r) (node l' w' r') x y s e =
    let a = counts_front l l' (unary (ls r) ++ (counts r ++ x)) (unary (ls r') ++ (counts r' ++ y)) (omega arith) (simp append_assoc at e) in
    let c = unary_front (ls r) (ls r') (counts r ++ x) (counts r' ++ y) a.1 in
    let d = counts_front r r' x y c.0 c.1 in
    ((a.0, d.0), d.1)

pub alike_ls : (t u : Tree) → Alike t u → ls t ≡ ls u
unfolding ls
alike_ls leaf leaf s = refl
alike_ls leaf (node l w r) s = absurd s
alike_ls (node l w r) leaf s = absurd s
alike_ls (node l w r) (node l' w' r') s = ap suc (alike_ls l l' s.0)

pub word_front : (v w : List Bool) (x y : List Bool) → falses v ≡ falses w → trues v ≡ trues w → drop_last v ++ x ≡ drop_last w ++ y → (v ≡ w) × (x ≡ y)
unfolding falses trues drop_last
word_front [] [] x y p q e = (refl, e)
word_front [] (false ∷ w) x y p q e = absurd (omega arith)
word_front [] (true ∷ w) x y p q e = absurd (omega arith)
word_front (false ∷ v) [] x y p q e = absurd (omega arith)
word_front (true ∷ v) [] x y p q e = absurd (omega arith)
word_front (a ∷ []) (b ∷ []) x y p q e = (grind arith, e)
word_front (a ∷ []) (b ∷ c ∷ w) x y p q e = absurd (grind arith)
word_front (a ∷ c ∷ v) (b ∷ []) x y p q e = absurd (grind arith)
word_front (a ∷ c ∷ v) (b ∷ d ∷ w) x y p q e =
    let s : a ≡ b = cc in
    let h = word_front (c ∷ v) (d ∷ w) x y (grind arith) (grind arith) (cc) in
    (cc, h.1)

pub words_front : (t u : Tree) (x y : List Bool) → Wellformed t → Wellformed u → Alike t u → words t ++ x ≡ words u ++ y → (t ≡ u) × (x ≡ y)
unfolding Wellformed words
words_front leaf leaf x y f g s e = (refl, e)
words_front leaf (node l w r) x y f g s e = absurd s
words_front (node l w r) leaf x y f g s e = absurd s
words_front (node l w r) (node l' w' r') x y f g s e =
    let a = words_front l l' (drop_last w ++ (words r ++ x)) (drop_last w' ++ (words r' ++ y)) f.2 g.2 s.0 (simp append_assoc at e) in
    let same : (ls r ≡ ls r') = alike_ls r r' s.1 in
    let c = word_front w w' (words r ++ x) (words r' ++ y) (cc) (cc) a.1 in
    let d = words_front r r' x y f.3 g.3 s.1 c.1 in
    (cc, d.1)

pub prefix_free : (t u : Tree) (x y : List Bool) → Wellformed t → Wellformed u → encode t ++ x ≡ encode u ++ y → (t ≡ u) × (x ≡ y)
unfolding encode
prefix_free t u x y f g e =
    let bare : (unary (ls t) ++ (counts t ++ words t)) ++ x ≡ (unary (ls u) ++ (counts u ++ words u)) ++ y = cc in
    let a = unary_front (ls t) (ls u) (counts t ++ (words t ++ x)) (counts u ++ (words u ++ y)) (simp append_assoc at bare) in
    let c = counts_front t u (words t ++ x) (words u ++ y) a.0 a.1 in
    words_front t u x y f g c.0 c.1
