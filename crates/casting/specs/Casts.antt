-- What a cast leaves in its punch, and answers.
use Rattle.std.specs.Prelude.{ℕ, suc, ◌*◌, Bool, cond, List, [], ◌∷◌, length, Ok, Err, Result, nat_lt}
use Rattle.leaders.specs.Refusal.{Refusal, refusal}
use Rattle.casting.specs.declared.CastFault.{CastFault}
use Rattle.casting.specs.declared.CastFault.TheVariants.{FewNumbers, TooLong}

-- The refusals of a cast: 5, too few working numbers; 6, a sheet longer than the capacity, with its length.
abbrev pub told : CastFault → Refusal
told FewNumbers = refusal 5 []
told (TooLong bits) = refusal 6 (bits ∷ [])

-- The bits of the punch after a cast, and the answer to it.
pub record Casting : Type 0 where
  pub bits : List Bool
  pub reply : Result ℕ Refusal

abbrev pub casting : List Bool → Result ℕ Refusal → Casting
casting bs r = record { bits = bs; reply = r }

-- The sheet s goes to a punch with so much room that has the bits bs.
abbrev pub punch_of_sheet : List Bool → ℕ → List Bool → Casting
punch_of_sheet s room bs = cond (nat_lt room (length s)) (casting bs (Err (refusal 6 (length s ∷ [])))) (casting s (Ok (length s)))

-- The same for the sheet of n lots, with so many working numbers: 4(n + 1) are needed.
abbrev pub cast_sheet : List Bool → ℕ → ℕ → ℕ → List Bool → Casting
cast_sheet s n room numbers bs = cond (nat_lt numbers (4 * suc n)) (casting bs (Err (refusal 5 []))) (punch_of_sheet s room bs)
