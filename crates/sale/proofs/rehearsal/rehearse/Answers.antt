use Rattle.std.proofs.Common.{ℕ, Bool, length, vec_items, sym, refl, ◌∙◌, subst, arith}
use Rattle.std.proofs.lemmas.List.{length-map}
use Rattle.leaders.specs.Verdict.{verdict}
use Rattle.leaders.proofs.Strictly.{keys_order_lots}
use Rattle.board.specs.Pages.{lots_by, Knows}
use Rattle.board.specs.Sitting.{Sat}
use Rattle.board.proofs.Sittings.{sat, some_order, all_answered}
use Rattle.ledger.specs.Plays.{played, ByTheLedger}
use Rattle.board.specs.Sitting.{seated}
use Rattle.sale.proofs.Roomy.{rooms_are}
use Rattle.sale.proofs.Whole.{Kept, promise}
use Rattle.sale.proofs.rehearsal.rehearse.Goals as goal

pub play_into-first-requires : goal.play_into-first-requires
play_into-first-requires g c =
    let room = (rooms_are c.args.lists (length c.args.calls.now) (length c.args.other_calls.now) (length c.args.board_calls.now) c.if-not-have_room.ensures).for_first in
    record { empty = room.0; room = omega (arith, room.1) }

pub play_into-second-requires : goal.play_into-second-requires
play_into-second-requires g c =
    let room = (rooms_are c.args.lists (length c.args.calls.now) (length c.args.other_calls.now) (length c.args.board_calls.now) c.if-not-have_room.ensures).for_second in
    record { empty = room.0; room = omega (arith, room.1) }

pub play_into-board-requires : goal.play_into-board-requires
play_into-board-requires g c =
    let room = (rooms_are c.args.lists (length c.args.calls.now) (length c.args.other_calls.now) (length c.args.board_calls.now) c.if-not-have_room.ensures).for_board in
    record { empty = room.0; room = omega (arith, room.1) }

pub returns : goal.returns
returns g c =
    let bits = g.T.Tape.bits c.args.tape in
    let ps = c.args.punches.now in
    let qs = c.args.other_punches.now in
    let work = length c.args.work.now in
    let first = played g.K.Key.made g.K.Key.at_least g.P.Punch.room g.P.Punch.written work c.args.list.now ps c.args.calls.now (vec_items c.play_into-first.result) c.play_into-first.new.list c.play_into-first.new.punches in
    let second = λ (w : ℕ). played g.L.Key.made g.L.Key.at_least g.Q.Punch.room g.Q.Punch.written w c.args.other_list.now qs c.args.other_calls.now (vec_items c.play_into-second.result) c.play_into-second.new.list c.play_into-second.new.punches in
    let s = seated g.D.Panel.shows c.args.panels.now c.args.board_calls.now (vec_items c.play_into-board.result) c.play_into-board.new.panels in
    let held : (b : ℕ → ℕ → Bool) → Knows b (lots_by (verdict bits)) bits → Sat b (verdict bits) s = λ b k. sat (verdict bits) b s (c.play_into-board.ensures b k).0 (c.play_into-board.ensures b k).1 in
    let any = some_order bits (verdict bits) refl in
    let kept : Kept first = record {
      ordered = keys_order_lots g.K.Key.at_least g.met.K.Key.total g.met.K.Key.transitive;
      even = length-map ps g.P.Punch.written ∙ sym (length-map ps g.P.Punch.room);
      most = omega arith;
      by = c.play_into-first.ensures.ledger;
    } in
    let also : Kept (second work) = record {
      ordered = keys_order_lots g.L.Key.at_least g.met.L.Key.total g.met.L.Key.transitive;
      even = length-map qs g.Q.Punch.written ∙ sym (length-map qs g.Q.Punch.room);
      most = omega arith;
      by = subst (λ w. ByTheLedger (second w)) c.play_into-first.auto.work c.play_into-second.ensures.ledger;
    } in
    record {
      reply = c.if-not-have_room.ensures;
      promise = promise bits s held first (second work) _ kept also (all_answered (verdict bits) any.0 s (c.play_into-board.ensures any.0 any.1).1) c.rebuild_from-rebuilt.ensures;
      rooms = (c.play_into-first.ensures.rooms, c.play_into-second.ensures.rooms);
      homes = (c.play_into-first.ensures.homes, c.play_into-second.ensures.homes);
      rest = c.play_into-second.ensures.rest ∙ c.play_into-first.ensures.rest;
      unplayed = tt;
    }
