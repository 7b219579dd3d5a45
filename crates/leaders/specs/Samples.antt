-- Small books with known sheets, for a reader to compare with the definitions.
use Rattle.std.specs.Prelude.{◌≡◌, ℕ, Bool, List, [], ◌∷◌, ◌++◌, map, length, Err, codes, nat_eq}
use Prim.Native.String.{String}
use Rattle.leaders.specs.Order.{beats, dearer}
use Rattle.leaders.specs.Sheet.{brackets, spines}
use Rattle.leaders.specs.Refusal.{refusal}
use Rattle.leaders.specs.Verdict.{verdict}
use Rattle.leaders.specs.Rebuilt.{rebuilt}

-- The bits that letters mean, `(` for 1; and the bits that digits mean.
abbrev pub letters : String → List Bool
letters s = map (λ c. nat_eq c 40) (codes s)

abbrev pub digits : String → List Bool
digits s = map (λ c. nat_eq c 49) (codes s)

-- The bracket string and the spine string of a list of prices.
abbrev pub SheetIs : List ℕ → String → String → Type 0
SheetIs prices b s = (brackets (beats dearer prices) (length prices) ≡ letters b) × (spines (beats dearer prices) (length prices) ≡ digits s)

-- The prices that are rebuilt from the sheet of a list of prices.
abbrev pub RebuiltIs : List ℕ → List ℕ → Type 0
RebuiltIs prices out = rebuilt (beats dearer prices) (length prices) ≡ out

-- The verdict on brackets and a spine string.
abbrev pub refused_as : String → String → ℕ → List ℕ → Type 0
refused_as b s number values = verdict (letters b ++ digits s) ≡ Err (refusal number values)

pub record Samples : Type 0 where
  pub no_lots : SheetIs [] "()" ""
  pub one_lot : SheetIs (4 ∷ []) "(())" ""
  pub level : SheetIs (4 ∷ 4 ∷ []) "(()())" ""
  pub rising : SheetIs (4 ∷ 9 ∷ []) "((()))" ""
  pub right_second : SheetIs (1 ∷ 3 ∷ 2 ∷ []) "((())())" "1"
  pub left_second : SheetIs (2 ∷ 3 ∷ 1 ∷ []) "((())())" "0"
  pub left_by_number : SheetIs (2 ∷ 3 ∷ 2 ∷ []) "((())())" "0"
  pub six : SheetIs (5 ∷ 3 ∷ 8 ∷ 6 ∷ 7 ∷ 2 ∷ []) "((()())(())())" "1100"
  pub six_rebuilt : RebuiltIs (5 ∷ 3 ∷ 8 ∷ 6 ∷ 7 ∷ 2 ∷ []) (3 ∷ 2 ∷ 6 ∷ 4 ∷ 5 ∷ 1 ∷ [])
  pub four : SheetIs (1 ∷ 4 ∷ 2 ∷ 3 ∷ []) "((())(()))" "11"
  pub four_rebuilt : RebuiltIs (1 ∷ 4 ∷ 2 ∷ 3 ∷ []) (1 ∷ 4 ∷ 2 ∷ 3 ∷ [])
  pub four_refused : refused_as "((())(()))" "00" 10 (2 ∷ [])
  pub spine_short : refused_as "((())())" "" 9 []
  pub spine_long : refused_as "((())())" "11" 9 []
