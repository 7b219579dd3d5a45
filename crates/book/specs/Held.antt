-- What a book holds, and the fields of a call.
use Rattle.std.specs.Prelude.{ℕ, min, List, take}
use Rattle.book.specs.declared.book.Book.{Book}
use Rattle.book.specs.declared.fields.Fields.{Fields}

-- The keys of a book's lots: the first of its list, as many as it counts and 4,000 at most.
abbrev pub keys_in : {K : Type 0} → Book K → List K
keys_in b = take (min 4000 b.count) b.list.now

-- The numbers of a call's fields.
abbrev pub numbers : Fields → List ℕ
numbers f = take (min f.count 5) f.values
