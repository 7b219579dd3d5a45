use Rattle.std.proofs.Common.{◌≡◌, ◌≤◌, [], map, length, drop, vec_items, vec_len, vec_capacity}
use Rattle.leaders.specs.Refusal.{answered}
use Rattle.book.specs.Entries.{room_for}
use Rattle.book.specs.Held.{keys_in}
use Rattle.ledger.specs.Ledger.{told, terms, ledger, after}
use Rattle.ledger.proofs.play.play_into.Given as goal

-- What is left of the calls leads from the ledger as it is to where all the calls lead from a blank one.
abbrev pub invariant-loop-call : goal.invariant-loop-call
invariant-loop-call g l =
    let t = terms g.K.Key.made g.K.Key.at_least (room_for (length l.initial.book.list.now)) (map g.P.Punch.room l.initial.punches) (length l.initial.work) in
    (length l.book.list.now ≡ length l.initial.book.list.now)
    × (l.book.list.ghost_name ≡ l.initial.book.list.ghost_name)
    × (map g.P.Punch.room l.punches ≡ map g.P.Punch.room l.initial.punches)
    × (after t (ledger (keys_in l.book) (map g.P.Punch.written l.punches) (map (answered told) (vec_items l.answers))) (drop l.call-index l.calls) ≡ after t (ledger [] (map g.P.Punch.written l.initial.punches) []) l.calls)
    × (vec_len l.answers ≡ l.call-index)
    × (length l.calls ≤ vec_capacity l.answers)
    × (drop 16004 l.work ≡ drop 16004 l.initial.work)
    × (map g.P.Punch.home l.punches ≡ map g.P.Punch.home l.initial.punches)
