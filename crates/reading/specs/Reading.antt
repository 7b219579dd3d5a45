-- What the reader finds in the bits of a sheet.
use Rattle.std.specs.Prelude.{◌≡◌, ℕ, ◌+◌, ◌-◌, ◌*◌, ◌^◌, ◌<◌, ◌≤◌, Bool, true, false, cond, List, take, drop, Some, None, Option, ◌==◌}
use Rattle.reading.specs.declared.climb.Climb.{Climb}
use Rattle.reading.specs.declared.climb.Mark.{Mark}
use Rattle.reading.specs.declared.climb.Sweep.{Sweep}
use Rattle.reading.specs.declared.place.Way.{Way}
use Rattle.reading.specs.declared.place.Ways.{Ways}
use Rattle.leaders.specs.Sheet.{unary}
use Rattle.reading.specs.Climbing.{at, climb}
use Rattle.leaders.specs.Tree.{sooner}
use Rattle.reading.specs.Place.{after, lones, lonely, Begins, Lone, Marked}

-- from lot j back to lot i
unfoldable pub reach : List Bool → ℕ → ℕ → Climb
reach bs i j = climb (drop (after i bs) (take (after j bs) bs)) (at j j 0 0)

-- where the word of lot k begins, of n lots
unfoldable pub word_at : List Bool → ℕ → ℕ → ℕ
word_at bs n k = 2 * n + 2 + (after k bs - after 1 bs - (k - 1)) + lones true false (drop (after 1 bs) (take (after k bs) bs)) - ((reach bs 1 (k - 1)).steps + 1)

-- is the best in front of lot k, a, better than the one behind it?
unfoldable pub is_left_first : List Bool → ℕ → ℕ → ℕ → ℕ → Bool
is_left_first bs n k a above = sooner (drop (word_at bs n k) bs) ((reach bs 1 a).steps - (reach bs 1 k).steps) (after (k + 1) bs - after k bs - (2 + above))

-- the second best of i..j, whose best is k, if there is another lot
unfoldable pub runner_up_of : List Bool → ℕ → ℕ → ℕ → ℕ → Option ℕ
runner_up_of bs n i j k =
    cond (i == k)
    (cond (k == j) None (Some (reach bs (k + 1) j).best))
    (cond (k == j) (Some (reach bs i (k - 1)).best)
    (Some (cond (is_left_first bs n k (reach bs i (k - 1)).best (reach bs (k + 1) j).above) (reach bs i (k - 1)).best (reach bs (k + 1) j).best)))

-- a reader on the way back from lot m has come to lot i, with c steps more
abbrev pub On : List Bool → ℕ → ℕ → ℕ → Climb → Type 0
On bs m i c s = s ≡ at (reach bs i m).lot (reach bs i m).best (reach bs i m).above ((reach bs i m).steps + c)

-- as far as a reader that began at its best lot, which has gone no step
pub record Rooted (bs : List Bool) (i : ℕ) (s : Climb) : Type 0 where
  pub within : i ≤ s.best
  pub on : On bs s.best i s.steps s

-- the counts of a reader are small
pub record Small (s : Climb) : Type 0 where
  pub above : s.above + s.lot ≤ 2 ^ 33
  pub steps : s.steps + s.lot ≤ 2 ^ 33

-- the new values of a sweep but for its climb: other ones where the best changes
abbrev pub Widened : Sweep → ℕ → ℕ → Sweep → Type 0
Widened s from children r =
    (s.all.above < children → (r.here ≡ from) × (r.right ≡ Some s.all.best) × (r.later ≡ children - s.all.above - 1))
    × (children ≤ s.all.above → (r.here ≡ s.here) × (r.right ≡ s.right) × (r.later ≡ s.later))

-- what a sweep from lot j to lot i has seen
pub record Swept (bs : List Bool) (i j : ℕ) (s : Sweep) : Type 0 where
  pub lot : s.all.lot ≡ i
  pub all : s.all ≡ reach bs i j
  pub rooted : Rooted bs i s.all
  pub from : i ≤ s.all.best
  pub upto : s.all.best ≤ j
  pub here : Begins bs s.all.best s.here
  pub none : s.all.best ≡ j → s.right ≡ None
  pub right : s.all.best < j → s.right ≡ Some (reach bs (s.all.best + 1) j).best
  pub later : s.all.best < j → s.later ≡ after (s.all.best + 1) bs - after s.all.best bs - (2 + (reach bs (s.all.best + 1) j).above)

-- a way one number further
pub record Stepped (w : Way) (from children : ℕ) (r : Way) : Type 0 where
  pub place : r.at ≡ from
  pub left : r.left ≡ climb (unary children) w.left
  pub lone : r.lone ≡ w.lone + lonely w.bare children
  pub bare : r.bare ≡ (children == 0)

-- the counts of a way are small
pub record Few (w : Way) : Type 0 where
  pub left : Small w.left
  pub lone : w.lone + w.left.lot ≤ 2 ^ 33

-- a way goes on to lot i: the reader, and the count of lots with none below them
pub record Goes (bs : List Bool) (w : Way) (i : ℕ) (r : Way) : Type 0 where
  pub begins : Begins bs i r.at
  pub lot : r.left.lot ≡ i
  pub left : (m c : ℕ) → w.left.lot ≤ m → On bs m w.left.lot c w.left → On bs m i c r.left
  pub rooted : Rooted bs w.left.lot w.left → Rooted bs i r.left
  pub lone : (upto : ℕ) → w.at ≤ upto → Lone (drop w.at (take upto bs)) w.lone w.bare → Lone (drop r.at (take upto bs)) r.lone r.bare

-- what is found in front of lot k: a reader from the lot before has gone so many steps to the best lot a, and one from lot k has gone so many before
pub record Front (bs : List Bool) (k a steps gone : ℕ) (w : Ways) : Type 0 where
  pub first : w.way.at ≡ after 1 bs
  pub left : w.way.left.steps ≡ (reach bs 1 (k - 1)).steps
  pub best : w.way.left.steps ≡ (reach bs 1 a).steps + steps
  pub own : w.own.steps ≡ (reach bs 1 k).steps + gone
  pub lone : lones true false (drop (after 1 bs) (take (after k bs) bs)) ≡ w.way.lone + cond w.way.bare 1 0

-- lot 1 and the ends of a range are marked, k is one of the range, and the best in front of k, if there is one, is one too
pub record Ends (bs : List Bool) (first low high : Mark) (k : ℕ) : Type 0 where
  pub one : first.lot ≡ 1
  pub first_is : Marked bs first
  pub low_is : Marked bs low
  pub high_is : Marked bs high
  pub some : 1 ≤ low.lot
  pub from : low.lot ≤ k
  pub upto : k ≤ high.lot
  pub left : low.lot < k → low.lot ≤ (reach bs low.lot (k - 1)).best
