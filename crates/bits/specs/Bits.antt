-- Lists of bits: the bit at a place, how many are ones, and where.
use Rattle.std.specs.Prelude.{◌≡◌, ℕ, ◌+◌, ◌<◌, Bool, true, false, not, ◌⊎◌, List, [], ◌∷◌, map, take, drop, Some, None, Option, ◌==◌}
use Rattle.std.specs.List.{slice_get}

-- a bit as a number
abbrev pub one : Bool → ℕ
one true = 1
one false = 0

-- how many bits are ones
abbrev pub ones : List Bool → ℕ
ones [] = 0
ones (true ∷ bs) = ones bs + 1
ones (false ∷ bs) = ones bs

-- rank: the ones before place p
abbrev pub rank_of : List Bool → ℕ → ℕ
rank_of bs p = ones (take p bs)

-- the bit at place p, where there is one
abbrev pub bit_at : List Bool → ℕ → Option Bool
bit_at bs p = slice_get bs p

-- select: the place of the j-th one, counted from 1; there is none if j is 0 or above the number of ones
abbrev pub Select : List Bool → ℕ → Option ℕ → Type 0
Select bs j None = (j ≡ 0) ⊎ (ones bs < j)
Select bs j (Some p) = (bit_at bs p ≡ Some true) × (rank_of bs p + 1 ≡ j)

-- which bits are b: a one where the bit is b, a zero where it is not
abbrev pub which_are : Bool → List Bool → List Bool
which_are true bs = bs
which_are false bs = map not bs

-- a letter as a bit: `(` is 1, every other byte 0
abbrev pub is_open : ℕ → Bool
is_open b = b == 40

-- a text as bits: 32,768 bytes count at most
abbrev pub lettered : List ℕ → List Bool
lettered text = map is_open (take 32768 text)

-- the bits from place `from` on and before place `upto`, as far as there are any
abbrev pub bits_between : List Bool → ℕ → ℕ → List Bool
bits_between bs from upto = drop from (take upto bs)
