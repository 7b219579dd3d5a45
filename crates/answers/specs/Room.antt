-- Room for answers.
use Rattle.std.specs.Prelude.{ℕ, Bool, ◌&&◌, ◌==◌, nat_le}

-- A list with so many entries and such a capacity is empty, and has room for the answers to so many calls.
abbrev pub roomy : ℕ → ℕ → ℕ → Bool
roomy entries capacity calls = entries == 0 && nat_le calls capacity
