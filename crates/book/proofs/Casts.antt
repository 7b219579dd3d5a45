-- The lots of a book as casting counts them: all of them, since a book has at most 4,000; and that 14,000 bits hold every sheet of so many.
use Rattle.std.proofs.Common.{◌≡◌, ℕ, zero, suc, ◌-◌, ◌*◌, ◌≤◌, min, Bool, List, [], length, take, Ok, refl, ap, ◌∙◌, arith, length-append, length-take}
use Rattle.std.proofs.lemmas.Bool.{le-ltb, cond-false}
use Rattle.leaders.specs.Order.{Strict, beats}
use Rattle.leaders.specs.Sheet.{spread, brackets, spines, sheet}
use Rattle.leaders.proofs.Counting.{sheet_lengths}
use Rattle.casting.specs.Casts.{casting, cast_sheet}
use Rattle.book.specs.Entries.{sheet_of}
use Rattle.book.proofs.Steps.{take_len}

module _ {K : Type 0} (xs : List K) (count n : ℕ) (len : n ≡ length (take (min 4000 count) xs)) where
  keys_are : take (n - 0) xs ≡ take (min 4000 count) xs
  keys_are = take_len xs (min 4000 count) (n - 0) (omega arith)

  pub few : n ≤ length xs
  few = omega (arith, length-take (min 4000 count) xs)

  pub counted : min (length (take (n - 0) xs)) 4000 ≡ length (take (min 4000 count) xs)
  counted = omega (arith, ap length keys_are, length-take (min 4000 count) xs)

  pub cast_is : (ge : K → K → Bool) (room work : ℕ) (bs : List Bool) → let m = min (length (take (n - 0) xs)) 4000 in let ks = take (min 4000 count) xs in
      cast_sheet (sheet (beats ge (take (n - 0) xs)) m) m room work bs ≡ cast_sheet (sheet_of ge ks) (length ks) room work bs
  cast_is ge room work bs =
      ap (λ m. cast_sheet (sheet (beats ge (take (n - 0) xs)) m) m room work bs) counted
      ∙ ap (λ zs. cast_sheet (sheet (beats ge zs) (length (take (min 4000 count) xs))) (length (take (min 4000 count) xs)) room work bs) keys_are

no_spines : (b : ℕ → ℕ → Bool) → spines b 0 ≡ []
unfolding spread
no_spines b = refl

sheet_short : (b : ℕ → ℕ → Bool) → Strict b → (n : ℕ) → n ≤ 4000 → length (sheet b n) ≤ 14000
unfolding sheet
sheet_short b strict zero few = omega (arith, length-append (brackets b 0) (spines b 0), (sheet_lengths b strict 0).of_brackets, ap length (no_spines b))
sheet_short b strict (suc n) few = omega (arith, (sheet_lengths b strict (suc n)).of_sheet (omega arith))

-- a cast of at most 4,000 lots fits a punch of 14,000 bits, with 16,004 working numbers
pub cast_fits : {K : Type 0} (at_least : K → K → Bool) (ks : List K) → Strict (beats at_least ks) → (bits : List Bool) → length ks ≤ 4000 → cast_sheet (sheet_of at_least ks) (length ks) 14000 16004 bits ≡ casting (sheet_of at_least ks) (Ok (length (sheet_of at_least ks)))
cast_fits at_least ks strict bits few =
    let s = sheet_of at_least ks in
    cond-false _ _ _ (le-ltb 16004 (4 * suc (length ks)) (omega arith)) ∙ cond-false _ _ _ (le-ltb 14000 (length s) (sheet_short (beats at_least ks) strict (length ks) few))
