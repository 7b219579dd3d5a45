-- What a line asks for.
use Rattle.std.specs.Prelude.{ℕ, cond, List, [], ◌∷◌, length, Some, None, Option, ◌==◌, nat_le}
use Rattle.book.specs.Held.{numbers}
use Rattle.commands.specs.declared.command.Command.{Command}
use Rattle.commands.specs.declared.command.Command.TheVariants.{Add, Strike, NewKey, Cast, Page}
use Rattle.commands.specs.Texts.{fields}
use Rattle.commands.specs.Numbers.{numbers_in}

-- What is asked: a new lot of these key fields; a lot struck; a lot's new key fields; a cast; a page by its start and size.
pub data Asked : Type 0 where
  add : List ℕ → Asked
  strike : ℕ → Asked
  new_key : ℕ → List ℕ → Asked
  cast : Asked
  page : ℕ → ℕ → Asked

-- What a command asks.
abbrev pub asks : Command → Asked
asks (Add f) = add (numbers f)
asks (Strike lot) = strike lot
asks (NewKey lot f) = new_key lot (numbers f)
asks Cast = cast
asks (Page start size) = page start size

-- `a` has as many numbers as a key of the kind has fields.
abbrev pub add_by : ℕ → List ℕ → Option Asked
add_by arity ns = cond (length ns == arity) (Some (add ns)) None

-- `s` has a lot.
abbrev pub strike_by : List ℕ → Option Asked
strike_by [] = None
strike_by (lot ∷ []) = Some (strike lot)
strike_by (lot ∷ n ∷ ns) = None

-- `r` has a lot, and then the fields of a key.
abbrev pub new_key_by : ℕ → List ℕ → Option Asked
new_key_by arity [] = None
new_key_by arity (lot ∷ ns) = cond (length ns == arity) (Some (new_key lot ns)) None

-- `c` stands alone.
abbrev pub cast_by : List ℕ → Option Asked
cast_by [] = Some cast
cast_by (n ∷ ns) = None

-- `p` has a start and a size.
abbrev pub page_by : List ℕ → Option Asked
page_by [] = None
page_by (start ∷ []) = None
page_by (start ∷ size ∷ []) = Some (page start size)
page_by (start ∷ size ∷ n ∷ ns) = None

-- What a letter and numbers ask, of a kind of key with so many fields: `a`, `s`, `r`, `c` and `p` by their codes.
abbrev pub asked_by : ℕ → ℕ → List ℕ → Option Asked
asked_by arity letter ns =
    cond (letter == 97) (add_by arity ns)
    (cond (letter == 115) (strike_by ns)
    (cond (letter == 114) (new_key_by arity ns)
    (cond (letter == 99) (cast_by ns)
    (cond (letter == 112) (page_by ns) None))))

-- The same of a first field, which asks something only if it is one letter.
abbrev pub lettered_by : ℕ → List ℕ → List ℕ → Option Asked
lettered_by arity [] ns = None
lettered_by arity (letter ∷ []) ns = asked_by arity letter ns
lettered_by arity (a ∷ b ∷ bs) ns = None

-- The same where the numbers may be none.
abbrev pub asked_with : ℕ → ℕ → Option (List ℕ) → Option Asked
asked_with arity letter None = None
asked_with arity letter (Some ns) = asked_by arity letter ns

-- The first field is one letter, and the others write numbers.
abbrev pub asked_in : ℕ → List (List ℕ) → Option Asked
asked_in arity [] = None
asked_in arity ([] ∷ fs) = None
asked_in arity ((letter ∷ []) ∷ fs) = asked_with arity letter (numbers_in fs)
asked_in arity ((a ∷ b ∷ bs) ∷ fs) = None

-- What a line asks, if it is well formed: it has at most 64 bytes.
abbrev pub asked_of : ℕ → List ℕ → Option Asked
asked_of arity line = cond (nat_le (length line) 64) (asked_in arity (fields line)) None
