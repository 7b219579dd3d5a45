-- A number is read off the cells where it was written.
use Rattle.std.proofs.Common.{◌≡◌, ℕ, zero, suc, ◌+◌, ◌*◌, ◌<◌, ◌≤◌, min, cond, Bool, true, false, ◌&&◌, eqb, ltb, leb, not, List, [], ◌∷◌, ◌++◌, map, length, get_or, replicate, Some, None, Option, sym, refl, ap, ◌∙◌, arith}
use Rattle.std.specs.Int.Digits.{digits_of, number_from_digits_after, AllBelowBase}
use Rattle.std.specs.List.{AllByRecursion as All, position_or_len}
use Rattle.std.specs.Option.{unwrap_or}
use Rattle.std.proofs.lemmas.Int.Digits.{number_digits_of, all_below_base_digits_of, number_after_ge, length-digits_of_step, length-digits_of-le}
use Rattle.std.proofs.lemmas.Bool.{cond-true, lt-ltb, leb-true, and_parts}
use Rattle.std.proofs.lemmas.List.{length-append}
use Rattle.std.proofs.lemmas.Bool.Decides.{Decides-below_and, Decides-eqb}
use Rattle.panel.specs.declared.shown.Shown.{Shown}
use Rattle.panel.specs.declared.shown.Shown.TheVariants.{Blank, Best, Pair}
use Rattle.panel.specs.Numerals.{numeral}
use Rattle.panel.specs.Shows.{proper, is_lot, best_of, second_of}
use Rattle.panel.specs.Inner.{place, with_digit, grown, reading, shown_by}

-- a test of every number below a limit, computed
abbrev pub all_below : (ℕ → Bool) → ℕ → Bool
all_below p zero = true
all_below p (suc n) = p n && all_below p n

pub below_is : (f g : ℕ → ℕ) → all_below (λ d. eqb (f d) (g d)) 10 ≡ true → (d : ℕ) → d < 10 → f d ≡ g d
below_is f g =
    (Decides-below_and (λ d. eqb (f d) (g d)) (λ d. f d ≡ g d) (all_below (λ d. eqb (f d) (g d))) (λ d. Decides-eqb (f d) (g d)) refl (λ n. refl) 10).0

-- each glyph is read as its digit
abbrev pub Legible : List ℕ → Type 0
Legible g = (d : ℕ) → d < 10 → place g (get_or g d 0) ≡ Some d

some_below : (o : Option ℕ) (d : ℕ) → d < 10 → unwrap_or o 10 ≡ d → o ≡ Some d
some_below None d small e = absurd (omega arith)
some_below (Some x) d small e = ap Some e

pub legible_by : (g : List ℕ) → all_below (λ d. eqb (unwrap_or (place g (get_or g d 0)) 10) d) 10 ≡ true → Legible g
legible_by g all d small =
    some_below (place g (get_or g d 0)) d small (below_is (λ d. unwrap_or (place g (get_or g d 0)) 10) (λ d. d) all d small)

pub reading_append : (g : List ℕ) (n : Option ℕ) (xs ys : List ℕ) → reading g n (xs ++ ys) ≡ reading g (reading g n xs) ys
unfolding reading
reading_append g n [] ys = refl
reading_append g n (x ∷ xs) ys = reading_append g (grown g n x) xs ys

grown_glyph : (g : List ℕ) → Legible g → (n : Option ℕ) (d : ℕ) → d < 10 → grown g n (get_or g d 0) ≡ Some (min (unwrap_or n 0) 400 * 10 + d)
grown_glyph g legible n d small = ap (with_digit n) (legible d small)

pub reading_blanks : (g : List ℕ) (x : ℕ) → place g x ≡ None → (k : ℕ) (n : Option ℕ) → reading g n (replicate k x) ≡ n
unfolding reading
reading_blanks g x e zero n = refl
reading_blanks g x e (suc k) n = ap (λ m. reading g m (replicate k x)) (ap (with_digit n) e) ∙ reading_blanks g x e k n

reading_digits : (g : List ℕ) → Legible g → (n : ℕ) (ds : List ℕ) → AllBelowBase 10 ds → number_from_digits_after 10 n ds ≤ 4000 → reading g (Some n) (map (λ d. get_or g d 0) ds) ≡ Some (number_from_digits_after 10 n ds)
unfolding reading
reading_digits g legible n [] u small = refl
reading_digits g legible n (d ∷ ds) u small =
    let more = number_after_ge 10 (n * 10 + d) ds (omega arith) in
    let next : min n 400 * 10 + d ≡ n * 10 + d = omega arith in
    ap (λ m. reading g m (map (λ d. get_or g d 0) ds)) (grown_glyph g legible (Some n) d u.0 ∙ ap Some next) ∙ reading_digits g legible (n * 10 + d) ds u.1 small

-- a first glyph is read as one behind a nought
reading_first : (g : List ℕ) → Legible g → (ds : List ℕ) → 0 < length ds → AllBelowBase 10 ds → reading g None (map (λ d. get_or g d 0) ds) ≡ reading g (Some 0) (map (λ d. get_or g d 0) ds)
unfolding reading
reading_first g legible [] some u = absurd (omega arith)
reading_first g legible (d ∷ ds) some u =
    ap (λ m. reading g m (map (λ d. get_or g d 0) ds)) (grown_glyph g legible None d u.0 ∙ sym (grown_glyph g legible (Some 0) d u.0))

pub reading_numeral : (g : List ℕ) → Legible g → (n : ℕ) → 0 < n → n ≤ 4000 → reading g None (numeral g n) ≡ Some n
reading_numeral g legible n some small =
    let same = number_digits_of 10 n (omega arith) in
    let long = length-digits_of_step 10 n (omega arith) some in
    let below = all_below_base_digits_of 10 n (omega arith) in
    reading_first g legible (digits_of 10 n) (omega arith) below ∙ reading_digits g legible 0 (digits_of 10 n) below (omega arith) ∙ ap Some same

-- among cells that are no glyphs
pub reading_among : (g : List ℕ) (x : ℕ) → Legible g → place g x ≡ None → (j k n : ℕ) → 0 < n → n ≤ 4000 → reading g None (replicate j x ++ (numeral g n ++ replicate k x)) ≡ Some n
reading_among g x legible e j k n some small =
    let a = reading_append g None (replicate j x) (numeral g n ++ replicate k x) in
    let b = reading_append g None (numeral g n) (replicate k x) in
    let p = reading_blanks g x e j None in
    let q = reading_numeral g legible n some small in
    let r = reading_blanks g x e k (Some n) in
    cc

first_after : (c : ℕ) (xs ys : List ℕ) → All (λ x. eqb x c ≡ false) xs → eqb c c ≡ true → position_or_len (λ x. eqb x c) (xs ++ c ∷ ys) ≡ length xs
first_after c [] ys h e = ap (λ b. cond (not b) (1 + position_or_len (λ x. eqb x c) ys) 0) e
first_after c (x ∷ xs) ys h e =
    let more = first_after c xs ys h.1 e in
    ap (λ b. cond (not b) (1 + position_or_len (λ y. eqb y c) (xs ++ c ∷ ys)) 0) h.0 ∙ omega arith

-- where a cell stands first that is none of those before it
pub place_after : (c : ℕ) (xs ys : List ℕ) → All (λ x. eqb x c ≡ false) xs → eqb c c ≡ true → place (xs ++ c ∷ ys) c ≡ Some (length xs)
unfolding place
place_after c xs ys h e =
    let at = position_or_len (λ x. eqb x c) (xs ++ c ∷ ys) in
    let first : at ≡ length xs = first_after c xs ys h e in
    cond-true (ltb at (length (xs ++ c ∷ ys))) (Some at) None (lt-ltb at (length (xs ++ c ∷ ys)) (omega (arith, length-append xs (c ∷ ys)))) ∙ ap Some first

-- what is shown is its two numbers
pub numbers_back : (s : Shown) → proper s ≡ true → shown_by (best_of s) (second_of s) ≡ s
numbers_back Blank h = refl
numbers_back (Best b) h = cond-true (is_lot b) (Best b) Blank h
numbers_back (Pair b s) h = cond-true (proper (Pair b s)) (Pair b s) Blank h

-- the numbers that are shown are those of lots, and what is shown is told by them
pub lot_is : (n : ℕ) → is_lot n ≡ true → (0 < n) × (n ≤ 4000)
lot_is n h = let p = and_parts (leb 1 n) (leb n 4000) h in (leb-true 1 n p.0, leb-true n 4000 p.1)

pub best_lot : (s : Shown) → proper s ≡ true → (b : ℕ) → Some b ≡ best_of s → (0 < b) × (b ≤ 4000)
best_lot Blank h b e = absurd cc
best_lot (Best a) h b e = let same : a ≡ b = cc in let l = lot_is a h in (omega arith, omega arith)
best_lot (Pair a z) h b e = let same : a ≡ b = cc in let l = lot_is a (and_parts (is_lot a) (is_lot z) h).0 in (omega arith, omega arith)

pub second_lot : (s : Shown) → proper s ≡ true → (n : ℕ) → Some n ≡ second_of s → (0 < n) × (n ≤ 4000)
second_lot Blank h n e = absurd cc
second_lot (Best a) h n e = absurd cc
second_lot (Pair a z) h n e = let same : z ≡ n = cc in let l = lot_is z (and_parts (is_lot a) (is_lot z) h).1 in (omega arith, omega arith)

-- a lot's number has at most four digits
pub width_le : (n : ℕ) → n ≤ 4000 → length (digits_of 10 n) ≤ 4
width_le n small = length-digits_of-le 10 4 n (omega arith) (omega arith)

pub best_width : (s : Shown) → proper s ≡ true → (b : ℕ) → Some b ≡ best_of s → length (digits_of 10 b) ≤ 4
best_width s h b e = width_le b (best_lot s h b e).1

pub second_width : (s : Shown) → proper s ≡ true → (n : ℕ) → Some n ≡ second_of s → length (digits_of 10 n) ≤ 4
second_width s h n e = width_le n (second_lot s h n e).1
