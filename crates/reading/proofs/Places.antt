-- Where the numbers of children stand.
use Rattle.std.proofs.Common.{◌≡◌, ℕ, zero, suc, ◌+◌, ◌<◌, ◌≤◌, Bool, true, not, List, [], ◌∷◌, ◌++◌, map, length, take, drop, sym, refl, ap, ◌∙◌, append_assoc, arith, length-append, take-append-drop, take-take, take_at, drop_at}
use lib.Seq.{drop-append-add, take-append-add}
use Rattle.bits.specs.Bits.{ones}
use Rattle.leaders.specs.Tree.{Tree, size, ls, words, encode}
use Rattle.leaders.specs.Sheet.{unary}
use Rattle.reading.specs.Place.{after}
use Rattle.reading.proofs.Climbs.{flat, degrees, flat_append, counts_flat, degrees_length}

pub unary_length : (n : ℕ) → length (unary n) ≡ suc n
unfolding unary
unary_length zero = refl
unary_length (suc n) = ap suc (unary_length n)

after_unary : (d m : ℕ) (zs : List Bool) → after (suc m) (unary d ++ zs) ≡ suc d + after m zs
unfolding after unary
after_unary zero m zs = omega arith
after_unary (suc d) m zs = omega (arith, after_unary d m zs)

after_flat : (ds : List ℕ) (m : ℕ) (rest : List Bool) → m ≤ length ds → after m (flat ds ++ rest) ≡ length (flat (take m ds))
unfolding after flat
after_flat ds zero rest h = refl
after_flat [] (suc m) rest h = absurd (omega arith)
after_flat (d ∷ ds) (suc m) rest h =
    ap (after (suc m)) (append_assoc (unary d) (flat ds) rest) ∙ after_unary d m (flat ds ++ rest)
    ∙ omega (arith, length-append (unary d) (flat (take m ds)), unary_length d, after_flat ds m rest (omega arith))

slice_flat : (ds : List ℕ) (i j : ℕ) (rest : List Bool) → i ≤ j → drop (length (flat (take i ds))) (take (length (flat (take j ds))) (flat ds ++ rest)) ≡ flat (drop i (take j ds))
slice_flat ds i j rest h =
    let all : flat ds ++ rest ≡ flat (take j ds) ++ (flat (drop j ds) ++ rest) =
    ap (λ z. flat z ++ rest) (sym (take-append-drop j ds)) ∙ ap (λ z. z ++ rest) (flat_append (take j ds) (drop j ds)) ∙ append_assoc (flat (take j ds)) (flat (drop j ds)) rest in
    let part : flat (take j ds) ≡ flat (take i ds) ++ flat (drop i (take j ds)) =
    ap flat (sym (take-append-drop i (take j ds))) ∙ flat_append (take i (take j ds)) (drop i (take j ds)) ∙ ap (λ z. flat z ++ flat (drop i (take j ds))) (take-take i j ds h) in
    ap (λ z. drop (length (flat (take i ds))) (take (length (flat (take j ds))) z)) all
    ∙ ap (drop (length (flat (take i ds)))) (take_at (flat (take j ds)) (flat (drop j ds) ++ rest) (length (flat (take j ds))) refl ∙ part)
    ∙ drop_at (flat (take i ds)) (flat (drop i (take j ds))) (length (flat (take i ds))) refl

pub encode_flat : (t : Tree) → encode t ≡ true ∷ (flat (ls t ∷ degrees t) ++ words t)
unfolding encode flat
encode_flat t = ap (◌∷◌ true) (rw (counts_flat t) (sym (append_assoc (unary (ls t)) (flat (degrees t)) (words t))))

pub after_encode : (t : Tree) (m : ℕ) → m ≤ size t → after (suc m) (encode t) ≡ suc (length (flat (take (suc m) (ls t ∷ degrees t))))
unfolding after
after_encode t m h = ap (after (suc m)) (encode_flat t) ∙ ap suc (after_flat (ls t ∷ degrees t) (suc m) (words t) (omega (arith, degrees_length t)))

-- the numbers of the lots suc i to j
pub slice_encode : (t : Tree) (i j : ℕ) → i ≤ j → j ≤ size t → drop (after (suc i) (encode t)) (take (after (suc j) (encode t)) (encode t)) ≡ flat (drop i (take j (degrees t)))
slice_encode t i j h k =
    rw (after_encode t i (omega arith), after_encode t j k, encode_flat t)
    (slice_flat (ls t ∷ degrees t) (suc i) (suc j) (words t) (omega arith))

pub slice_append : (xs ys : List ℕ) (c m : ℕ) → drop (length xs + c) (take (length xs + m) (xs ++ ys)) ≡ drop c (take m ys)
slice_append xs ys c m = ap (drop (length xs + c)) (take-append-add xs ys m) ∙ drop-append-add xs (take m ys) c

-- there are as many zeros as nodes, at least
zeros_unary : (d : ℕ) (zs : List Bool) → ones (map not (unary d ++ zs)) ≡ ones (map not zs) + 1
unfolding unary
zeros_unary zero zs = refl
zeros_unary (suc d) zs = zeros_unary d zs

zeros_flat : (ds : List ℕ) (rest : List Bool) → length ds ≤ ones (map not (flat ds ++ rest))
unfolding flat
zeros_flat [] rest = omega arith
zeros_flat (d ∷ ds) rest = rw (append_assoc (unary d) (flat ds) rest, zeros_unary d (flat ds ++ rest)) (omega (arith, zeros_flat ds rest))

pub zeros_encode : (t : Tree) → size t < ones (map not (encode t))
zeros_encode t = rw (encode_flat t) (omega (arith, zeros_flat (ls t ∷ degrees t) (words t), degrees_length t))
