use Rattle.std.proofs.Common.{◌≡◌, ℕ, ◌≤◌, Bool, map, length, drop, vec_items, vec_len, vec_capacity}
use Rattle.leaders.specs.Refusal.{answered}
use Rattle.leaders.specs.Verdict.{verdict}
use Rattle.board.specs.Pages.{lots_by, Knows}
use Rattle.board.specs.Showing.{told, showing, shows, idle}
use Rattle.board.proofs.play.play_into.Given as goal

abbrev pub invariant-loop-call : goal.invariant-loop-call
invariant-loop-call g l =
    let bits = g.T.Tape.bits l.initial.board.tape in
    let v = verdict bits in
    (l.board.tape ≡ l.initial.board.tape)
    × ((b : ℕ → ℕ → Bool) → Knows b (lots_by v) bits → Knows b l.board.lots bits)
    × ((b : ℕ → ℕ → Bool) → Knows b (lots_by v) bits → shows v b (showing l.board.lots (map g.D.Panel.shows l.panels) (map (answered told) (vec_items l.answers))) (drop l.call-index l.calls) ≡ shows v b (idle (map g.D.Panel.shows l.initial.panels)) l.calls)
    × (vec_len l.answers ≡ l.call-index)
    × (length l.calls ≤ vec_capacity l.answers)
