-- What a sale leaves of what it is lent.
use Rattle.std.specs.Prelude.{◌≡◌, ℕ, map, length}
use Rattle.sale.specs.declared.rehearsal.BookSide.{BookSide}
use Rattle.sale.specs.declared.rehearsal.BoardSide.{BoardSide}
use Rattle.sale.specs.declared.rehearsal.RebuildSide.{RebuildSide}

-- The same list and punches are lent, the list has as many places, each punch has its capacity and its memory, and the calls remain.
pub record SameBook {K P : Type 0} (room home : P → ℕ) (before after : BookSide K P) : Type 0 where
  pub lists : after.list.ghost_name ≡ before.list.ghost_name
  pub places : length after.list.now ≡ length before.list.now
  pub punches : after.punches.ghost_name ≡ before.punches.ghost_name
  pub rooms : map room after.punches.now ≡ map room before.punches.now
  pub homes : map home after.punches.now ≡ map home before.punches.now
  pub calls : after.calls ≡ before.calls

-- The same panels are lent, as many of them, and tape and calls remain.
pub record SameBoard {T D : Type 0} (before after : BoardSide T D) : Type 0 where
  pub tape : after.tape ≡ before.tape
  pub panels : after.panels.ghost_name ≡ before.panels.ghost_name
  pub many : length after.panels.now ≡ length before.panels.now
  pub calls : after.calls ≡ before.calls

-- The same lists are lent, each as long.
pub record SameLists (before after : RebuildSide) : Type 0 where
  pub prices : after.prices.ghost_name ≡ before.prices.ghost_name
  pub places : length after.prices.now ≡ length before.prices.now
  pub work : after.work.ghost_name ≡ before.work.ghost_name
  pub numbers : length after.work.now ≡ length before.work.now
