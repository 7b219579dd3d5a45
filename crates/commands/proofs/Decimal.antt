-- A field writes a number exactly as that number is written in decimal.
use Rattle.std.proofs.Common.{◌≡◌, ℕ, ◌+◌, ◌-◌, ◌*◌, ◌^◌, ◌<◌, ◌≤◌, Bool, true, false, cond, ◌&&◌, leb, List, [], ◌∷◌, length, get_or, Some, None, decimal, sym, refl, ap, ◌∙◌, ⊎_elim, arith, rules}
use Rattle.std.specs.Str.{all_ascii_digits}
use Rattle.std.proofs.lemmas.Str.Parse.{IsNumeralModel, numerals_by_fold, tells_all_ascii_digits}
use Rattle.std.proofs.lemmas.Fmt.{decimal-digits_value, digits_decimal, digits_value-decimal, decimal_nonempty, first_decimal, length-decimal-le}
use Rattle.std.proofs.lemmas.Bool.{and_parts, and_from, leb-true, le-leb, cond-true, cases_lt}
use Rattle.std.proofs.lemmas.Bool.Decides.{nat_tests}
use Rattle.commands.specs.Numbers.{begun_well, read_on, number_of, NumbersAreDecimal}

-- the number that digits write, after those of n
abbrev read_all : ℕ → List ℕ → ℕ
read_all n [] = n
read_all n (c ∷ cs) = read_all (10 * n + (c - 48)) cs

own : IsNumeralModel (λ ds. all_ascii_digits ds ≡ true) (read_all 0)
own = numerals_by_fold _ tells_all_ascii_digits read_all (search rules)

grows : (n : ℕ) (bs : List ℕ) → n ≤ read_all n bs
grows n [] = omega arith
grows n (b ∷ bs) = omega (arith, grows (10 * n + (b - 48)) bs)

pub record Read (m n : ℕ) (bs : List ℕ) : Type 0 where
  pub digits : all_ascii_digits bs ≡ true
  pub value_is : read_all m bs ≡ n
  pub small : n ≤ 4294967295

none_read : (bs : List ℕ) (n : ℕ) → read_on None bs ≡ Some n → ⊥
unfolding read_on
none_read bs n e = let f : None ≡ Some n = e in let z : ◌≡◌ {A = ℕ} 0 1 = cc in omega arith

-- what is read is digits, and no more than the largest number
read_step : (m b n : ℕ) (bs : List ℕ) (t : Bool) → t ≡ ((leb 48 b && leb b 57) && leb (10 * m + (b - 48)) 4294967295) → ((k : ℕ) → k ≤ 4294967295 → read_on (Some k) bs ≡ Some n → Read k n bs) → read_on (cond t (Some (10 * m + (b - 48))) None) bs ≡ Some n → Read m n (b ∷ bs)
read_step m b n bs false test ih e = absurd (none_read bs n e)
read_step m b n bs true test ih e =
    let p = and_parts (leb 48 b && leb b 57) (leb (10 * m + (b - 48)) 4294967295) (sym test) in
    let r = ih (10 * m + (b - 48)) (leb-true _ _ p.1) e in
    record { digits = and_from _ _ p.0 r.digits; value_is = r.value_is; small = r.small }

read_on_lem : (bs : List ℕ) (n m : ℕ) → m ≤ 4294967295 → read_on (Some m) bs ≡ Some n → Read m n bs
unfolding read_on
read_on_lem [] n m h e = let same : m ≡ n = cc in record { digits = refl; value_is = same; small = omega arith }
read_on_lem (b ∷ bs) n m h e = read_step m b n bs _ refl (read_on_lem bs n) e

-- digits of a number that is no larger are read
reads : (bs : List ℕ) (m : ℕ) → all_ascii_digits bs ≡ true → read_all m bs ≤ 4294967295 → read_on (Some m) bs ≡ Some (read_all m bs)
unfolding read_on
reads [] m d h = refl
reads (b ∷ bs) m d h =
    let p = and_parts (leb 48 b && leb b 57) (all_ascii_digits bs) d in
    let small : 10 * m + (b - 48) ≤ 4294967295 = omega (arith, grows (10 * m + (b - 48)) bs) in
    let test : ((leb 48 b && leb b 57) && leb (10 * m + (b - 48)) 4294967295) ≡ true = and_from (leb 48 b && leb b 57) _ p.0 (le-leb _ _ small) in
    ap (λ o. read_on o bs) (cond-true _ _ _ test) ∙ reads bs (10 * m + (b - 48)) p.1 h

begun_some : (text : List ℕ) → begun_well text ≡ true → 0 < length text
begun_some text w = grind (arith, nat_tests)

begun_lead : (text : List ℕ) → begun_well text ≡ true → get_or text 0 0 ≡ 48 → length text ≡ 1
begun_lead text w e = grind (arith, nat_tests)

begun_decimal : (n : ℕ) → n < 2 ^ 64 → begun_well (decimal n) ≡ true
begun_decimal n h =
    ⊎_elim
    (λ small. let some = decimal_nonempty n h in let one = length-decimal-le 1 n (omega arith) (omega arith) h in grind (arith, nat_tests))
    (λ large. let some = decimal_nonempty n h in let first = first_decimal n (omega arith) h in grind (arith, nat_tests))
    (cases_lt n 10)

was_begun : (text : List ℕ) (n : ℕ) (t : Bool) → cond t (read_on (Some 0) text) None ≡ Some n → (t ≡ true) × (read_on (Some 0) text ≡ Some n)
was_begun text n true e = (refl, e)
was_begun text n false e = absurd (let z : ◌≡◌ {A = ℕ} 0 1 = cc in omega arith)

pub numbers_are_decimal : NumbersAreDecimal
numbers_are_decimal text n = (
  (λ e.
      let w = was_begun text n (begun_well text) e in
      let r = read_on_lem text n 0 (omega arith) w.1 in
      let small : read_all 0 text < 2 ^ 64 = omega (arith, r.value_is, r.small) in
      (ap decimal (sym r.value_is) ∙ decimal-digits_value own text r.digits (begun_some text w.0) (begun_lead text w.0) small, r.small)),
  (λ p.
      let fits : n < 2 ^ 64 = omega (arith, p.1) in
      let value : read_all 0 (decimal n) ≡ n = digits_value-decimal own n fits in
      let is : number_of (decimal n) ≡ Some n = cond-true _ _ _ (begun_decimal n fits) ∙ reads (decimal n) 0 (digits_decimal own n fits) (omega (arith, p.1, value)) ∙ ap Some value in
      ap number_of (sym p.0) ∙ is),
)
