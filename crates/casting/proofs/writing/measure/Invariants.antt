use Rattle.std.proofs.Common.{◌≡◌, ℕ, ◌+◌, ◌-◌, ◌*◌, ◌≤◌, Bool, length}
use Rattle.leaders.specs.Sheet.{spread, spine_of}
use Rattle.links.specs.Made.{WordsReady}
use Rattle.links.specs.Walks.{Sized}
use Rattle.casting.proofs.writing.measure.Given as goal

abbrev pub invariant-loop-k : goal.invariant-loop-k
invariant-loop-k l = record {
  few : l.all ≤ 2147483648 * l.k;
  ready : (b : ℕ → ℕ → Bool) → WordsReady b l.words → Sized b l.words.sides.n (l.k - 1) l.sizes × (l.all + length (spread (spine_of b l.words.sides.n) l.k (l.words.sides.n + 1 - l.k)) ≡ length (spread (spine_of b l.words.sides.n) 1 l.words.sides.n));
}
