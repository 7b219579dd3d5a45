-- The digit panel: its code lights the digits of a pair, and the pair is read off its digits.
use Rattle.std.proofs.Common.{◌≡◌, ℕ, ◌+◌, ◌-◌, ◌<◌, ◌≤◌, true, Some, None, Option, List, [], ◌++◌, length, take, drop, refl, ap, ◌∙◌, append-nil, arith}
use Rattle.std.proofs.lemmas.List.{take_at, drop_at, take_all, length-append, length-replicate, length-drop}
use Rattle.panel.specs.declared.shown.Shown.{Shown}
use Rattle.panel.specs.declared.shown.Shown.TheVariants.{Blank, Best, Pair}
use Rattle.panel.specs.Numerals.{numeral}
use Rattle.panel.specs.Shows.{proper, best_of, second_of}
use Rattle.panel.specs.Digits.{segments, dark, right_aligned, digits_lit}
use Rattle.panel.specs.Inner.{inked, place, reading, shown_by}
use Rattle.panel.proofs.Writing.{inked_blank, numeral_length}
use Rattle.panel.proofs.Meanings.{Undoes}
use Rattle.panel.proofs.Readings.{Legible, legible_by, reading_blanks, reading_among, numbers_back, width_le, best_lot, second_lot, best_width, second_width}

field_length : (t : List ℕ) → length t ≤ 4 → length (dark (4 - length t) ++ t) ≡ 4
field_length t short = omega (arith, length-append (dark (4 - length t)) t, length-replicate {A = ℕ} (4 - length t) 0)

-- two numbers, written into dark digits
pub digits_lit_lem : (t u : List ℕ) → length t ≤ 4 → length u ≤ 4 → inked (inked (dark 8) 4 t) 8 u ≡ (dark (4 - length t) ++ t) ++ (dark (4 - length u) ++ u)
digits_lit_lem t u short-t short-u =
    let field = dark (4 - length t) ++ t in
    let long = field_length t short-t in
    let best : inked (dark 8) 4 t ≡ field ++ dark 4 = inked_blank 0 [] t 8 4 short-t (omega arith) in
    let at : length field + 4 ≡ 8 = omega arith in
    let second = inked_blank 0 field u 4 4 short-u (omega arith) in
    let end = append-nil (field ++ (dark (4 - length u) ++ u)) in
    cc

-- four digits for a lot, dark where there is none
abbrev pub field_of : Option ℕ → List ℕ
field_of None = dark 4
field_of (Some n) = right_aligned n

digits_are : (s : Shown) → digits_lit s ≡ field_of (best_of s) ++ field_of (second_of s)
unfolding digits_lit
digits_are Blank = refl
digits_are (Best b) = refl
digits_are (Pair b s) = refl

-- the code's draws
pub blank_lit : (s : Shown) → None ≡ best_of s → dark 8 ≡ digits_lit s
unfolding digits_lit
blank_lit Blank e = refl
blank_lit (Best b) e = absurd cc
blank_lit (Pair b n) e = absurd cc

best_written : (t : List ℕ) → length t ≤ 4 → inked (dark 8) 4 t ≡ (dark (4 - length t) ++ t) ++ dark 4
best_written t short = inked_blank 0 [] t 8 4 short (omega arith)

pub best_lit : (s : Shown) → proper s ≡ true → (b : ℕ) (a : List ℕ) → Some b ≡ best_of s → None ≡ second_of s → a ≡ inked (dark 8) 4 (numeral segments b) → a ≡ digits_lit s
best_lit s h b a is-b is-n is-a =
    let short = best_width s h b is-b in
    let count = numeral_length segments b in
    let written = best_written (numeral segments b) (omega arith) in
    let are = digits_are s in
    let best = ap field_of is-b in
    let none = ap field_of is-n in
    cc

pub pair_lit : (s : Shown) → proper s ≡ true → (b n : ℕ) (a z : List ℕ) → Some b ≡ best_of s → Some n ≡ second_of s → a ≡ inked (dark 8) 4 (numeral segments b) → z ≡ inked a 8 (numeral segments n) → z ≡ digits_lit s
pair_lit s h b n a z is-b is-n is-a is-z =
    let short = best_width s h b is-b in
    let short-too = second_width s h n is-n in
    let count = numeral_length segments b in
    let count-too = numeral_length segments n in
    let written = digits_lit_lem (numeral segments b) (numeral segments n) (omega arith) (omega arith) in
    let are = digits_are s in
    let best = ap field_of is-b in
    let second = ap field_of is-n in
    cc

segments_legible : Legible segments
unfolding place
segments_legible = legible_by segments refl

no_segments : place segments 0 ≡ None
unfolding place
no_segments = refl

-- what is read off four digits, and how many they are
reading_field : (o : Option ℕ) → ((n : ℕ) → Some n ≡ o → (0 < n) × (n ≤ 4000)) → (length (field_of o) ≡ 4) × (reading segments None (field_of o) ≡ o)
reading_field None lot = (refl, reading_blanks segments 0 no_segments 4 None)
reading_field (Some n) lot =
    let is = lot n refl in
    let short = width_le n is.1 in
    let count = numeral_length segments n in
    let field = reading_among segments 0 segments_legible no_segments (4 - length (numeral segments n)) 0 n is.0 is.1 in
    let end = append-nil (numeral segments n) in
    (field_length (numeral segments n) (omega arith), cc)

-- what eight digits may mean: if any pair is written so, it is this one
unfoldable pub guess_digits : List ℕ → Shown
guess_digits digits = shown_by (reading segments None (take 4 digits)) (reading segments None (drop 4 digits))

pub digits_undone : Undoes guess_digits digits_lit
unfolding guess_digits
digits_undone s h =
    let best = reading_field (best_of s) (best_lot s h) in
    let second = reading_field (second_of s) (second_lot s h) in
    let are = digits_are s in
    let front = take_at (field_of (best_of s)) (field_of (second_of s)) 4 best.0 in
    let back = drop_at (field_of (best_of s)) (field_of (second_of s)) 4 best.0 in
    let whole : shown_by (reading segments None (take 4 (digits_lit s))) (reading segments None (drop 4 (digits_lit s))) ≡ shown_by (best_of s) (second_of s) = cc in
    whole ∙ numbers_back s h

-- the guess by its parts, as the code takes them
pub guess_parts : (digits : List ℕ) (seen : Shown) (best second : Option ℕ) → length digits ≡ 8 → best ≡ reading segments None (take 4 digits) → second ≡ reading segments None (take (8 - 4) (drop 4 digits)) → seen ≡ shown_by best second → seen ≡ guess_digits digits
unfolding guess_digits
guess_parts digits seen best second eight is-best is-second is =
    let rest = take_all 4 (drop 4 digits) (omega (arith, length-drop 4 digits)) in
    cc
