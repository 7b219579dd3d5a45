use Rattle.std.proofs.Common.{◌≡◌, ℕ, suc, ◌+◌, ◌≤◌, List, length}
use Rattle.links.specs.Walks.{Chain}
use Rattle.links.proofs.Loops.{ahead}
use Rattle.links.proofs.sides.Sides.steps.Given as goal

abbrev pub invariant-loop-x : goal.invariant-loop-x
invariant-loop-x l =
    (l.x ≤ l.self.n) × (l.steps + ahead l.self.n l.x ≤ suc l.self.n)
    × ((xs : List ℕ) → Chain l.self.right.now l.initial.x xs → (ys : List ℕ) × Chain l.self.right.now l.x ys × (l.steps + length ys ≡ length xs))

abbrev pub decreases-loop-x : goal.decreases-loop-x
decreases-loop-x l = ahead l.self.n l.x
