-- What the lists for the answers of a sale are like where they have room.
use Rattle.std.proofs.Common.{◌≡◌, ℕ, ◌≤◌, true, ◌&&◌, [], vec_items, vec_len, vec_capacity, sym}
use Rattle.std.proofs.lemmas.Bool.{and_parts}
use Rattle.answers.specs.Room.{roomy}
use Rattle.answers.proofs.Rooms.{room_is}
use Rattle.sale.specs.declared.rehearsal.Lists.{Lists}
use Rattle.sale.specs.Promise.{roomy_for}

pub record Roomy (l : Lists) (first second board : ℕ) : Type 0 where
  pub for_first : (vec_items l.first ≡ []) × (first ≤ vec_capacity l.first)
  pub for_second : (vec_items l.second ≡ []) × (second ≤ vec_capacity l.second)
  pub for_board : (vec_items l.board ≡ []) × (board ≤ vec_capacity l.board)

pub rooms_are : (l : Lists) (first second board : ℕ) → true ≡ roomy_for l first second board → Roomy l first second board
rooms_are l first second board h =
    let more = roomy (vec_len l.second) (vec_capacity l.second) second && roomy (vec_len l.board) (vec_capacity l.board) board in
    let one = and_parts (roomy (vec_len l.first) (vec_capacity l.first) first) more (sym h) in
    let two = and_parts (roomy (vec_len l.second) (vec_capacity l.second) second) (roomy (vec_len l.board) (vec_capacity l.board) board) one.1 in
    record {
      for_first = room_is (vec_items l.first) (vec_len l.first) (vec_capacity l.first) first l.first.ok.0 (sym one.0);
      for_second = room_is (vec_items l.second) (vec_len l.second) (vec_capacity l.second) second l.second.ok.0 (sym two.0);
      for_board = room_is (vec_items l.board) (vec_len l.board) (vec_capacity l.board) board l.board.ok.0 (sym two.1);
    }
