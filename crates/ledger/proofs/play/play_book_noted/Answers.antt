use Rattle.std.proofs.Common.{length, vec_items, vec_len, vec_capacity, arith}
use Rattle.answers.proofs.Rooms.{room_is}
use Rattle.ledger.proofs.play.play_book_noted.Goals as goal

pub play_into-requires : goal.play_into-requires
play_into-requires g c =
    let v = c.args.room in
    let room = room_is (vec_items v) (vec_len v) (vec_capacity v) (length c.args.calls.now) v.ok.0 c.if-not-has_room.ensures in
    record { empty = room.0; room = omega (arith, room.1) }
