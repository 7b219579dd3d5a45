-- Which number a field writes.
use Rattle.std.specs.Prelude.{◌≡◌, ℕ, ◌+◌, ◌-◌, ◌*◌, ◌≤◌, Bool, cond, not, ◌&&◌, ◌↔◌, List, [], ◌∷◌, length, Some, None, decimal, Option, ◌==◌, nat_le, nat_lt, slice_index}

-- A number begins with a digit that is no needless nought: a lone byte will do, and of several the first is not `0`.
abbrev pub begun_well : List ℕ → Bool
begun_well text = cond (nat_lt 1 (length text)) (not (slice_index text 0 == 48)) (length text == 1)

-- A number with one digit more behind it, if the byte is a digit and the number stays at most 4,294,967,295.
abbrev pub one_digit_on : ℕ → ℕ → Option ℕ
one_digit_on n b = cond ((nat_le 48 b && nat_le b 57) && nat_le (10 * n + (b - 48)) 4294967295) (Some (10 * n + (b - 48))) None

-- A number read on over more bytes.
unfoldable pub read_on : Option ℕ → List ℕ → Option ℕ
read_on None bs = None
read_on (Some n) [] = Some n
read_on (Some n) (b ∷ bs) = read_on (one_digit_on n b) bs

-- The number that a text writes, if it writes one.
abbrev pub number_of : List ℕ → Option ℕ
number_of text = cond (begun_well text) (read_on (Some 0) text) None

-- A text writes a number exactly when it is that number in decimal, and the number is at most 4,294,967,295.
abbrev pub NumbersAreDecimal : Type 0
NumbersAreDecimal = (text : List ℕ) (n : ℕ) → (number_of text ≡ Some n) ↔ ((decimal n ≡ text) × (n ≤ 4294967295))

-- A number, where there is one, before others, where there are such.
abbrev pub joined_to : Option ℕ → Option (List ℕ) → Option (List ℕ)
joined_to None o = None
joined_to (Some n) None = None
joined_to (Some n) (Some ns) = Some (n ∷ ns)

-- The numbers that some fields write, if each writes one.
unfoldable pub numbers_in : List (List ℕ) → Option (List ℕ)
numbers_in [] = Some []
numbers_in (f ∷ fs) = joined_to (number_of f) (numbers_in fs)

-- No command has more than five numbers: a lot, and a key's four fields at most.
abbrev pub up_to_five : Option (List ℕ) → Option (List ℕ)
up_to_five None = None
up_to_five (Some ns) = cond (nat_le (length ns) 5) (Some ns) None
