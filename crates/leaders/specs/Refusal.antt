-- Why a call is declined.
use Rattle.std.specs.Prelude.{ℕ, List, Ok, Err, Result}

-- A refusal has a number, and the values that it tells.
pub record Refusal : Type 0 where
  pub number : ℕ
  pub values : List ℕ

abbrev pub refusal : ℕ → List ℕ → Refusal
refusal k vs = record { number = k; values = vs }

-- What a call answers, its fault told as a refusal.
abbrev pub answered : {T E : Type 0} → (E → Refusal) → Result T E → Result T Refusal
answered told (Ok x) = Ok x
answered told (Err e) = Err (told e)
