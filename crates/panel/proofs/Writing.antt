-- One digit more of a number that is written from its end.
use Rattle.std.proofs.Common.{◌≡◌, ℕ, zero, suc, ◌+◌, ◌-◌, ◌/◌, ◌%◌, ◌<◌, ◌≤◌, List, [], ◌∷◌, ◌++◌, map, length, get_or, take, drop, set, replicate, sym, refl, ap, ◌∙◌, append_assoc, arith}
use Rattle.std.specs.Int.Digits.{digits_of}
use Rattle.std.proofs.lemmas.Int.Digits.{digits_of_step, length-digits_of_step}
use Rattle.std.proofs.lemmas.List.{map_push, length-map, take-set-le, drop-set, length_push, take-append-drop, take-replicate, drop-replicate, set_at}
use lib.Seq.{take-append-add, drop-append-add}
use Rattle.panel.specs.Numerals.{numeral}
use Rattle.panel.specs.Inner.{inked}

pub numeral_length : (g : List ℕ) (n : ℕ) → length (numeral g n) ≡ length (digits_of 10 n)
numeral_length g n = length-map (digits_of 10 n) (λ d. get_or g d 0)

pub some_digits : (n : ℕ) → 0 < length (digits_of 10 n) → 0 < n
some_digits zero h = absurd (omega arith)
some_digits (suc n) h = omega arith

pub no_digits : (n : ℕ) → length (digits_of 10 n) ≤ 0 → n ≡ 0
no_digits zero h = refl
no_digits (suc n) h = absurd (omega (arith, length-digits_of_step 10 (suc n) (omega arith) (omega arith)))

pub numeral_step : (g : List ℕ) (n : ℕ) → 0 < n → numeral g n ≡ numeral g (n / 10) ++ get_or g (n % 10) 0 ∷ []
numeral_step g n h =
    ap (map (λ d. get_or g d 0)) (digits_of_step 10 n (omega arith) h) ∙ map_push (λ d. get_or g d 0) (digits_of 10 (n / 10)) (n % 10)

pub inked_step : (cells text : List ℕ) (at x : ℕ) → at < length cells → length text ≤ at → inked (set cells at x) at text ≡ inked cells (at + 1) (text ++ x ∷ [])
unfolding inked
inked_step cells text at x h l =
    let n : at + 1 - length (text ++ x ∷ []) ≡ at - length text = omega (arith, length_push text x) in
    let t = take-set-le (at - length text) cells at x (omega arith) in
    let d = drop-set cells at x h in
    let a = append_assoc text (x ∷ []) (drop (at + 1) cells) in
    cc

pub inked_more : (cells g : List ℕ) (at n : ℕ) → 0 < n → at ≤ length cells → length (digits_of 10 n) ≤ at → inked (set cells (at - 1) (get_or g (n % 10) 0)) (at - 1) (numeral g (n / 10)) ≡ inked cells at (numeral g n)
inked_more cells g at n pos within room =
    let one = length-digits_of_step 10 n (omega arith) pos in
    let long = numeral_length g (n / 10) in
    let back : at - 1 + 1 ≡ at = omega arith in
    let text = numeral_step g n pos in
    let step = inked_step cells (numeral g (n / 10)) (at - 1) (get_or g (n % 10) 0) (omega arith) (omega arith) in
    cc

pub inked_none : (cells g : List ℕ) (at n : ℕ) → n ≡ 0 → inked cells at (numeral g n) ≡ cells
unfolding inked
inked_none cells g at n e =
    let none : numeral g n ≡ [] = ap (numeral g) e in
    let back : at - 0 ≡ at = omega arith in
    let whole = take-append-drop at cells in
    let start : take (at - length (numeral g n)) cells ≡ take at cells = ap (λ m. take m cells) (ap (λ t. at - length t) none ∙ back) in
    cc

-- a text written into blanks, `m` cells past what is there already
pub inked_blank : (x : ℕ) (p t : List ℕ) (n m : ℕ) → length t ≤ m → m ≤ n → inked (p ++ replicate n x) (length p + m) t ≡ (p ++ (replicate (m - length t) x ++ t)) ++ replicate (n - m) x
unfolding inked
inked_blank x p t n m short within =
    let k : length p + m - length t ≡ length p + (m - length t) = omega arith in
    let front = take-append-add p (replicate n x) (m - length t) in
    let blanks = take-replicate (m - length t) n x (omega arith) in
    let back = drop-append-add p (replicate n x) m in
    let rest = drop-replicate m n x in
    let start : take (length p + m - length t) (p ++ replicate n x) ≡ p ++ replicate (m - length t) x = cc in
    let end : drop (length p + m) (p ++ replicate n x) ≡ replicate (n - m) x = cc in
    let whole : take (length p + m - length t) (p ++ replicate n x) ++ (t ++ drop (length p + m) (p ++ replicate n x)) ≡ (p ++ replicate (m - length t) x) ++ (t ++ replicate (n - m) x) = cc in
    whole ∙ simp append_assoc

-- one cell
pub set_blank : (x y : ℕ) (p : List ℕ) (n : ℕ) → 0 < n → set (p ++ replicate n x) (length p) y ≡ (p ++ y ∷ []) ++ replicate (n - 1) x
set_blank x y p zero some = absurd (omega arith)
set_blank x y p (suc n) some =
    let k : suc n - 1 ≡ n = omega arith in
    set_at p x (replicate n x) y (length p) refl ∙ sym (append_assoc p (y ∷ []) (replicate n x)) ∙ ap (λ j. (p ++ y ∷ []) ++ replicate j x) (sym k)

-- right behind what is there already
pub inked_next : (x : ℕ) (p t : List ℕ) (n : ℕ) → length t ≤ n → inked (p ++ replicate n x) (length p + length t) t ≡ (p ++ t) ++ replicate (n - length t) x
inked_next x p t n within =
    let none : length t - length t ≡ 0 = omega arith in
    inked_blank x p t n (length t) (omega arith) within ∙ ap (λ j. (p ++ (replicate j x ++ t)) ++ replicate (n - length t) x) none
