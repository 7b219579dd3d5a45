-- Laws of answers about bits.
use Rattle.std.specs.Prelude.{◌≡◌, ℕ, Bool, List, length, Option}
use Rattle.bits.specs.Bits.{rank_of, bit_at, Select}

-- two lists of bits have the same length, and the same bit, rank and select at p
pub record Agrees (xs ys : List Bool) (p : ℕ) : Type 0 where
  pub len : length xs ≡ length ys
  pub get : bit_at xs p ≡ bit_at ys p
  pub rank : rank_of xs p ≡ rank_of ys p
  pub select : (o : Option ℕ) → Select xs p o → Select ys p o

-- select has one answer
abbrev pub OneSelect : Type 0
OneSelect = (bs : List Bool) (j : ℕ) (o q : Option ℕ) → Select bs j o → Select bs j q → o ≡ q
