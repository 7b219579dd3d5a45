-- What rebuilding answers, and what it leaves in the prices and the working numbers.
use Rattle.std.specs.Prelude.{◌≡◌, ℕ, suc, ◌*◌, Bool, ◌&&◌, List, ◌++◌, drop, Ok, Err, Result, nat_le}
use Rattle.leaders.specs.Order.{Strict}
use Rattle.leaders.specs.Sheet.{sheet}
use Rattle.leaders.specs.Rebuilt.{rebuilt}

-- So many prices and working numbers are enough for n lots: n prices, and 4(n + 1) working numbers.
abbrev pub enough : ℕ → ℕ → ℕ → Bool
enough n prices work = nat_le n prices && nat_le (4 * suc n) work

-- A refusal leaves the prices and the working numbers as they were.
abbrev pub Declined : {X E : Type 0} → Result X E → List ℕ → List ℕ → List ℕ → List ℕ → Type 0
Declined (Ok x) prices₀ prices work₀ work = Unit {0}
Declined (Err e) prices₀ prices work₀ work = (prices ≡ prices₀) × (work ≡ work₀)

-- Else the prices are rebuilt, for every order of n lots whose sheet the bits are, and those past n remain.
abbrev pub Written : {X E : Type 0} → Result X E → List Bool → ℕ → List ℕ → List ℕ → Type 0
Written (Ok x) bits n prices₀ prices = (b : ℕ → ℕ → Bool) → Strict b → sheet b n ≡ bits → prices ≡ rebuilt b n ++ drop n prices₀
Written (Err e) bits n prices₀ prices = Unit {0}
