-- Lemmas on letters as bits and on appending to them.
use Rattle.std.proofs.Common.{◌≡◌, ℕ, ◌+◌, ◌<◌, min, Bool, true, false, List, [], ◌∷◌, ◌++◌, map, length, take, set, Ok, Err, Result, sym, refl, ap, ◌∙◌, arith}
use Rattle.std.proofs.lemmas.List.{length-map, length-take, take_more_set, map_push, take_all}
use Rattle.bits.proofs.Bitlists.{take_both, take_exact}
use Rattle.bits.specs.Bits.{is_open, lettered}
use Rattle.bits.specs.Punching.{Appends, letter, letters, letter_room}

pub length_lettered : (text : List ℕ) → length (lettered text) ≡ min 32768 (length text)
length_lettered text = length-map (take 32768 text) is_open ∙ length-take 32768 text

pub length_written : (text : List ℕ) (n : ℕ) → length (letters text n) ≡ min n (letter_room text)
length_written text n = omega (arith, length_lettered (take n text), length-take n text)

pub letter_bit : (b : Bool) → is_open (letter b) ≡ b
letter_bit true = refl
letter_bit false = refl

-- one letter more
pub lettered_push : (text : List ℕ) (n : ℕ) (b : Bool) → n < length text → n < 32768 → letters (set text n (letter b)) (n + 1) ≡ letters text n ++ b ∷ []
lettered_push text n b h k =
    let l = take n text in
    let e : take 32768 (take (n + 1) (set text n (letter b))) ≡ l ++ letter b ∷ [] =
    take_all 32768 (take (n + 1) (set text n (letter b))) (omega (arith, length-take (n + 1) (set text n (letter b)))) ∙ take_more_set text n (letter b) h in
    let f : l ≡ take 32768 l = sym (take_all 32768 l (omega (arith, length-take n text))) in
    ap (λ x. map is_open x) e ∙ map_push is_open l (letter b) ∙ ap (λ x. map is_open l ++ x ∷ []) (letter_bit b) ∙ ap (λ x. map is_open x ++ b ∷ []) f

-- how many letters there are says which they are
pub letters_exact : (text : List ℕ) (n k : ℕ) → k ≡ length (letters text n) → lettered (take k text) ≡ letters text n
letters_exact text n k e =
    let a = length_written text n in
    let f : take 32768 (take k text) ≡ take 32768 (take n text) =
    take_both 32768 k text ∙ take_exact (min 32768 k) k text (omega arith) ∙ sym (take_both 32768 n text ∙ take_exact (min 32768 n) k text (omega arith)) in
    ap (λ x. map is_open x) f

-- for code over any punch: an append is accepted where the bits are fewer than the capacity
pub appended : {E : Type 0} (r : Result (Unit {0}) E) (room : ℕ) (before after : List Bool) (bit : Bool) → Appends r room before after bit → length before < room → after ≡ before ++ bit ∷ []
appended (Ok u) room before after bit a h = a.1
appended (Err e) room before after bit a h = absurd (omega (arith, a.0))
