-- Links and words as the code holds them.
use Rattle.std.specs.Prelude.{ℕ, Bool}
use Rattle.links.specs.declared.Links.{Links}
use Rattle.links.specs.declared.sides.Words.{Words}
use Rattle.links.specs.Links.{Linked}
use Rattle.links.specs.Walks.{Ready}

-- The first m lots are linked.
abbrev pub LotsLinked : (ℕ → ℕ → Bool) → ℕ → Links → Type 0
LotsLinked b m links = Linked b links.n m links.up.now links.left.now links.right.now links.kids.now

-- The words are ready to be punched.
abbrev pub WordsReady : (ℕ → ℕ → Bool) → Words → Type 0
WordsReady b words = Ready b words.sides.n words.sides.left.now words.sides.right.now words.kids.now
