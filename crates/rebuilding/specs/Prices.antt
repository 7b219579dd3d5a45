-- Prices by a list of all lots.
use Rattle.std.specs.Prelude.{◌≡◌, ℕ, ◌≤◌, List, length}
use Rattle.leaders.specs.Tree.{Mem}
use Rattle.leaders.specs.Rebuilt.{prices_of}
use Rattle.links.specs.Walks.{Chain}
use Rattle.rebuilding.specs.Splices.{count}

-- each of the lots 1 to n stands once in the list
pub record Lists (n : ℕ) (zs : List ℕ) : Type 0 where
  pub long : length zs ≡ n
  pub once : (z : ℕ) → count z zs ≤ 1
  pub here : (z : ℕ) → 1 ≤ z → z ≤ n → Mem z zs

-- the prices are those of the list of all lots that next links from first on
abbrev pub Prices : ℕ → List ℕ → ℕ → List ℕ → Type 0
Prices n next first prices = (zs : List ℕ) → Chain next first zs → Lists n zs → prices ≡ prices_of n zs 1 n
