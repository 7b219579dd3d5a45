use Rattle.std.proofs.Common.{◌≡◌, ℕ, ◌-◌, ◌<◌, ◌≤◌, Bool, List, get_or}
use Rattle.leaders.specs.Order.{Strict}
use Rattle.leaders.specs.Sheet.{parent}
use Rattle.links.specs.Links.{Climbed, Tells}
use Rattle.links.specs.Walks.{Passes}
use Rattle.links.proofs.Links.climb.Given as goal

abbrev pub invariant-loop-x : goal.invariant-loop-x
invariant-loop-x g l = record {
  node : l.x < l.k;
  last : l.last < l.k;
  path : (ys : List ℕ) (p b : ℕ) → Passes l.self.up.now (goal.F-post g l.stops) l.x l.last ys p b → (zs : List ℕ) × Passes l.self.up.now (goal.F-post g l.stops) (l.k - 1) 0 zs p b;
  climbed : (b : ℕ → ℕ → Bool) → Strict b → ((m : ℕ) → 1 ≤ m → m < l.k → get_or l.self.up.now m 0 ≡ parent b m) → Tells b l.k (goal.F-post g l.stops) → Climbed b l.k l.x l.last;
}

abbrev pub decreases-loop-x : goal.decreases-loop-x
decreases-loop-x g l = l.x
