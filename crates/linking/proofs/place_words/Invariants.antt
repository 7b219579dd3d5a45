use Rattle.std.proofs.Common.{◌≡◌, ℕ, ◌+◌, ◌*◌, ◌≤◌, Bool, length}
use Rattle.leaders.specs.Sheet.{spread, spine_of}
use Rattle.links.specs.Made.{WordsReady}
use Rattle.linking.specs.Linking.{Starts}
use Rattle.linking.proofs.place_words.Given as goal

abbrev pub invariant-loop-i : goal.invariant-loop-i
invariant-loop-i l = record {
  few : l.at ≤ 32768 * (l.i + 1);
  ready : (b : ℕ → ℕ → Bool) → WordsReady b l.words → let n = l.words.sides.n in Starts b n l.i l.starts × (l.at ≡ 2 * n + 2 + length (spread (spine_of b n) 1 l.i));
}
