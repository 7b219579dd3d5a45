use Rattle.std.proofs.Common.{ℕ, Bool, map, length, vec_items, vec_len, vec_capacity, sym, refl, ◌∙◌, subst, arith}
use Rattle.std.proofs.lemmas.List.{length-map}
use Rattle.answers.proofs.Rooms.{room_is}
use Rattle.leaders.specs.Refusal.{answered}
use Rattle.leaders.specs.Verdict.{verdict}
use Rattle.board.specs.Pages.{lots_by, Knows}
use Rattle.board.specs.Showing.{told}
use Rattle.board.specs.Sitting.{sitting, Sat}
use Rattle.board.proofs.Sittings.{sat, some_order, all_answered, knows_sheet}
use Rattle.board.proofs.play.play_board_noted.Goals as goal

pub play_into-requires : goal.play_into-requires
play_into-requires g c =
    let v = c.args.room in
    let room = room_is (vec_items v) (vec_len v) (vec_capacity v) (length c.args.calls.now) v.ok.0 c.if-not-has_room.ensures in
    record { empty = room.0; room = omega (arith, room.1) }

pub returns : goal.returns
returns g c =
    let bits = g.T.Tape.bits c.args.tape in
    let s = sitting (map g.D.Panel.shows c.args.panels.now) c.args.calls.now (map (answered told) (vec_items c.play_into.result)) (map g.D.Panel.shows c.play_into.new.panels) in
    let held : (b : ℕ → ℕ → Bool) → Knows b (lots_by (verdict bits)) bits → Sat b (verdict bits) s = λ b k. sat (verdict bits) b s (c.play_into.ensures b k).0 (c.play_into.ensures b k).1 in
    let any = some_order bits (verdict bits) refl in
    record {
      reply = c.if-not-has_room.ensures;
      sat = held;
      leads = λ b strict n few e. let h = knows_sheet b strict n few bits e in subst (λ v. Sat b v s) h.0 (held b h.1);
      all = sym (length-map (vec_items c.play_into.result) (answered told)) ∙ all_answered (verdict bits) any.0 s (c.play_into.ensures any.0 any.1).1;
      unplayed = tt;
    }
