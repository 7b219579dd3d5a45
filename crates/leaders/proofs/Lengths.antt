-- How long the code of a tree is: at most three and a half symbols for each lot.
use Rattle.std.proofs.Common.{◌≡◌, ℕ, zero, suc, ◌+◌, ◌-◌, ◌*◌, ◌≤◌, Bool, true, false, List, [], ◌∷◌, length, refl, ap, arith, length-append}
use Rattle.leaders.specs.Sheet.{unary, drop_last}
use Rattle.leaders.specs.Verdict.{falses, trues}
use Rattle.leaders.specs.Tree.{Tree, leaf, node, size, ls, rs, Wellformed, counts, words, encode}

pub unary_length : (n : ℕ) → length (unary n) ≡ suc n
unfolding unary
unary_length zero = refl
unary_length (suc n) = ap suc (unary_length n)

pub counts_length : (t : Tree) → length (counts t) + ls t ≡ 2 * size t
unfolding counts ls size
counts_length leaf = refl
counts_length (node l w r) = simp (length-append, unary_length) (omega (arith, counts_length l, counts_length r))

pub word_length : (w : List Bool) → length w ≡ falses w + trues w
unfolding falses trues
word_length [] = refl
word_length (false ∷ w) = omega (arith, word_length w)
word_length (true ∷ w) = omega (arith, word_length w)

pub drop_last_length : (w : List Bool) → length (drop_last w) ≡ length w - 1
unfolding drop_last
drop_last_length [] = refl
drop_last_length (a ∷ []) = refl
drop_last_length (a ∷ b ∷ w) = omega (arith, drop_last_length (b ∷ w))

-- the lots with nothing on either side
tips : Tree → ℕ
tips leaf = 0
tips (node leaf w leaf) = 1
tips (node leaf w (node l v r)) = tips (node l v r)
tips (node (node l v r) w leaf) = tips (node l v r)
tips (node (node l v r) w (node m u q)) = tips (node l v r) + tips (node m u q)

few_tips : (t : Tree) → 2 * tips t ≤ size t + 1
unfolding tips size
few_tips leaf = omega arith
few_tips (node leaf w leaf) = omega arith
few_tips (node leaf w (node l v r)) = omega (arith, few_tips (node l v r))
few_tips (node (node l v r) w leaf) = omega (arith, few_tips (node l v r))
few_tips (node (node l v r) w (node m u q)) = omega (arith, few_tips (node l v r), few_tips (node m u q))

word_drops : (w : List Bool) (m n : ℕ) → falses w ≡ m → trues w ≡ n → length (drop_last w) ≡ m + n - 1
word_drops w m n p q = omega (arith, drop_last_length w, word_length w)

words_length : (t : Tree) → Wellformed t → length (words t) + ls t + rs t ≡ size t + tips t
unfolding words ls rs size tips Wellformed
words_length leaf v = refl
words_length (node leaf w leaf) v = simp length-append (omega (arith, word_drops w 0 0 v.0 v.1))
words_length (node leaf w (node l x r)) v = simp length-append (omega (arith, simp length-append at (words_length (node l x r) v.3), word_drops w 0 (ls (node l x r)) v.0 v.1))
words_length (node (node l x r) w leaf) v = simp length-append (omega (arith, simp length-append at (words_length (node l x r) v.2), word_drops w (rs (node l x r)) 0 v.0 v.1))
words_length (node (node l x r) w (node m u q)) v = simp length-append (omega (arith, simp length-append at (words_length (node l x r) v.2), simp length-append at (words_length (node m u q) v.3), word_drops w (rs (node l x r)) (ls (node m u q)) v.0 v.1))

spines_long : (t : Tree) → 1 ≤ size t → (1 ≤ ls t) × (1 ≤ rs t)
unfolding size ls rs
spines_long leaf h = absurd (omega arith)
spines_long (node l w r) h = omega arith

pub codes_are_short : (t : Tree) → Wellformed t → 1 ≤ size t → 2 * length (encode t) ≤ 7 * size t + 1
unfolding encode
codes_are_short t v h =
    simp (length-append, unary_length) (omega (arith, counts_length t, words_length t v, few_tips t, spines_long t h))
