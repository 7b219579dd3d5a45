-- The line panel: its code writes the line of a pair, and the pair is read off its line.
use Rattle.std.proofs.Common.{◌≡◌, ℕ, zero, suc, ◌+◌, ◌-◌, ◌<◌, ◌≤◌, true, false, eqb, List, [], ◌∷◌, ◌++◌, length, get_or, take, drop, set, replicate, Some, None, Option, sym, refl, ap, ◌∙◌, append_assoc, arith}
use Rattle.std.specs.Int.Digits.{digits_of}
use Rattle.std.specs.List.{AllByRecursion as All}
use Rattle.std.proofs.lemmas.Int.Digits.{all_below_base_digits_of}
use Rattle.std.proofs.ByRecursion.{All-map, All-weaker}
use Rattle.std.proofs.lemmas.List.{take_at, drop_at, take_all, length-append, length-drop, length_push}
use Rattle.std.proofs.lemmas.Bool.{and_parts, ne_eqb}
use Rattle.panel.specs.declared.shown.Shown.{Shown}
use Rattle.panel.specs.declared.shown.Shown.TheVariants.{Blank, Best, Pair}
use Rattle.panel.specs.Numerals.{numeral}
use Rattle.panel.specs.Shows.{proper, is_lot, best_of, second_of}
use Rattle.panel.specs.Lines.{letters, padded, line_of}
use Rattle.panel.specs.Inner.{inked, place, reading, shown_by}
use Rattle.panel.proofs.Writing.{inked_next, set_blank, numeral_length}
use Rattle.panel.proofs.Meanings.{Undoes}
use Rattle.panel.proofs.Readings.{Legible, legible_by, reading_blanks, reading_among, reading_numeral, place_after, numbers_back, lot_is, best_width, second_width}

-- the line of a best lot alone, and of a pair
pub line_none : (s : Shown) → None ≡ best_of s → line_of s ≡ replicate 9 32
unfolding line_of
line_none Blank e = refl
line_none (Best b) e = absurd cc
line_none (Pair b n) e = absurd cc

pub line_best : (s : Shown) (b : ℕ) → Some b ≡ best_of s → None ≡ second_of s → line_of s ≡ padded (numeral letters b ++ 44 ∷ [])
unfolding line_of
line_best Blank b e o = absurd cc
line_best (Best a) b e o = let same : a ≡ b = cc in ap (λ z. padded (numeral letters z ++ 44 ∷ [])) same
line_best (Pair a n) b e o = absurd cc

pub line_pair : (s : Shown) (b n : ℕ) → Some b ≡ best_of s → Some n ≡ second_of s → line_of s ≡ padded (numeral letters b ++ 44 ∷ numeral letters n)
unfolding line_of
line_pair Blank b n e o = absurd cc
line_pair (Best a) b n e o = absurd cc
line_pair (Pair a z) b n e o =
    let same : a ≡ b = cc in
    let other : z ≡ n = cc in
    ap (λ y. padded (numeral letters y ++ 44 ∷ numeral letters z)) same ∙ ap (λ y. padded (numeral letters b ++ 44 ∷ numeral letters y)) other

-- best, comma and second, written one after the other
pub line_written : (t u : List ℕ) (w v : ℕ) → length t ≡ w → length u ≡ v → w ≤ 4 → v ≤ 4 → inked (set (inked (replicate 9 32) w t) w 44) (w + 1 + v) u ≡ padded (t ++ 44 ∷ u)
line_written t u w v is-w is-v short-t short-u =
    let best = inked_next 32 [] t 9 (omega arith) in
    let comma = set_blank 32 44 t (9 - length t) (omega arith) in
    let second = inked_next 32 (t ++ 44 ∷ []) u (9 - length t - 1) (omega arith) in
    let group = append_assoc t (44 ∷ []) u in
    let start : 0 + length t ≡ w = omega arith in
    let end : length (t ++ 44 ∷ []) + length u ≡ w + 1 + v = omega (arith, length_push t 44) in
    let rest : 9 - length t - 1 - length u ≡ 9 - length (t ++ 44 ∷ u) = omega (arith, length-append t (44 ∷ u)) in
    cc

-- best and comma
pub best_written : (t : List ℕ) (w : ℕ) → length t ≡ w → w ≤ 4 → set (inked (replicate 9 32) w t) w 44 ≡ padded (t ++ 44 ∷ [])
best_written t w is-w short =
    let best = inked_next 32 [] t 9 (omega arith) in
    let comma = set_blank 32 44 t (9 - length t) (omega arith) in
    let start : 0 + length t ≡ w = omega arith in
    let rest : 9 - length t - 1 ≡ 9 - length (t ++ 44 ∷ []) = omega (arith, length_push t 44) in
    cc

-- the code's two draws
pub best_drawn : (s : Shown) → proper s ≡ true → (b w : ℕ) (a : List ℕ) → Some b ≡ best_of s → None ≡ second_of s → w ≡ length (digits_of 10 b) → a ≡ inked (replicate 9 32) w (numeral letters b) → set a w 44 ≡ line_of s
best_drawn s h b w a is-b is-n is-w is-a =
    let short = best_width s h b is-b in
    ap (λ z. set z w 44) is-a ∙ best_written (numeral letters b) w (numeral_length letters b ∙ sym is-w) (omega arith) ∙ sym (line_best s b is-b is-n)

pub pair_drawn : (s : Shown) → proper s ≡ true → (b n w v : ℕ) (a z : List ℕ) → Some b ≡ best_of s → Some n ≡ second_of s → w ≡ length (digits_of 10 b) → v ≡ length (digits_of 10 n) → a ≡ inked (replicate 9 32) w (numeral letters b) → z ≡ inked (set a w 44) (w + 1 + v) (numeral letters n) → z ≡ line_of s
pair_drawn s h b n w v a z is-b is-n is-w is-v is-a is-z =
    let short = best_width s h b is-b in
    let short-too = second_width s h n is-n in
    let line = line_written (numeral letters b) (numeral letters n) w v (numeral_length letters b ∙ sym is-w) (numeral_length letters n ∙ sym is-v) (omega arith) (omega arith) in
    let shown = line_pair s b n is-b is-n in
    cc

letters_legible : Legible letters
unfolding place
letters_legible = legible_by letters refl

no_letter : (place letters 32 ≡ None) × (place letters 44 ≡ None)
unfolding place
no_letter = (refl, refl)

no_comma : (n : ℕ) → All (λ x. eqb x 44 ≡ false) (numeral letters n)
no_comma n =
    All-map (λ x. eqb x 44 ≡ false) (λ d. get_or letters d 0) (digits_of 10 n)
    (All-weaker (λ d. d < 10) (λ d. eqb (get_or letters d 0) 44 ≡ false)
    (λ d h. ne_eqb (get_or letters d 0) 44 (λ e. let none = sym no_letter.1 ∙ ap (place letters) (sym e) ∙ letters_legible d h in absurd cc))
    (digits_of 10 n) (all_below_base_digits_of 10 n (omega arith)))

skip_comma : (cells : List ℕ) → reading letters None (44 ∷ cells) ≡ reading letters None cells
unfolding reading place
skip_comma cells = refl

-- what a line with its comma here may mean
abbrev pub guess_at : List ℕ → Option ℕ → Shown
guess_at text None = Blank
guess_at text (Some comma) = shown_by (reading letters None (take comma text)) (reading letters None (drop comma text))

-- what nine bytes may mean: if any pair is written so, it is this one
unfoldable pub guess_line : List ℕ → Shown
guess_line text = guess_at text (place text 44)

-- a best, if there is one, and what is read behind its comma are read off their line
abbrev best_there : ℕ → Option ℕ
best_there zero = None
best_there (suc b) = Some (suc b)

best_read : (b : ℕ) → b ≤ 4000 → reading letters None (numeral letters b) ≡ best_there b
unfolding reading
best_read zero small = refl
best_read (suc b) small = reading_numeral letters letters_legible (suc b) (omega arith) small

guess_line_lem : (b : ℕ) (t : List ℕ) (o : Option ℕ) (k : ℕ) → b ≤ 4000 → reading letters None (t ++ replicate k 32) ≡ o → guess_line ((numeral letters b ++ 44 ∷ t) ++ replicate k 32) ≡ shown_by (best_there b) o
unfolding guess_line
guess_line_lem b t o k small second =
    let best = numeral letters b in
    let rest = 44 ∷ (t ++ replicate k 32) in
    let group = append_assoc best (44 ∷ t) (replicate k 32) in
    let at = place_after 44 best (t ++ replicate k 32) (no_comma b) refl in
    let front = take_at best rest (length best) refl in
    let back = drop_at best rest (length best) refl in
    let first = best_read b small in
    let skip = skip_comma (t ++ replicate k 32) in
    cc

is_there : (b : ℕ) → 0 < b → best_there b ≡ Some b
is_there zero h = absurd (omega arith)
is_there (suc b) h = refl

pub line_undone : Undoes guess_line line_of
unfolding line_of guess_line reading place
line_undone Blank h = refl
line_undone (Best b) h =
    let lot = lot_is b h in
    guess_line_lem b [] None (9 - length (numeral letters b ++ 44 ∷ [])) lot.1 (reading_blanks letters 32 no_letter.0 (9 - length (numeral letters b ++ 44 ∷ [])) None) ∙ ap (λ x. shown_by x None) (is_there b lot.0) ∙ numbers_back (Best b) h
line_undone (Pair b s) h =
    let lots = and_parts (is_lot b) (is_lot s) h in
    let lot = lot_is b lots.0 in
    let next = lot_is s lots.1 in
    let k = 9 - length (numeral letters b ++ 44 ∷ numeral letters s) in
    guess_line_lem b (numeral letters s) (Some s) k lot.1 (reading_among letters 32 letters_legible no_letter.0 0 k s next.0 next.1) ∙ ap (λ x. shown_by x (Some s)) (is_there b lot.0) ∙ numbers_back (Pair b s) h

-- the guess by its parts, as the code takes them
pub guess_none : (text : List ℕ) → None ≡ place text 44 → Blank ≡ guess_line text
unfolding guess_line
guess_none text at = ap (guess_at text) at

pub guess_parts : (text : List ℕ) (comma : ℕ) (seen : Shown) (best second : Option ℕ) → length text ≡ 9 → Some comma ≡ place text 44 → best ≡ reading letters None (take comma text) → second ≡ reading letters None (take (9 - comma) (drop comma text)) → seen ≡ shown_by best second → seen ≡ guess_line text
unfolding guess_line
guess_parts text comma seen best second nine at is-best is-second is =
    let rest = take_all (9 - comma) (drop comma text) (omega (arith, length-drop comma text)) in
    let here = ap (guess_at text) at in
    let parts : seen ≡ guess_at text (Some comma) = cc in
    parts ∙ here
