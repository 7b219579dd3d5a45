use Rattle.std.proofs.Common.{◌≡◌, ◌+◌, ◌<◌, true, [], ◌∷◌, ◌++◌, map, is_ok, vec_items, vec_len, vec_capacity, ap, ◌∙◌, arith}
use Rattle.std.proofs.lemmas.List.{map_push}
use Rattle.leaders.specs.Refusal.{answered}
use Rattle.leaders.specs.Verdict.{verdict}
use Rattle.board.specs.Showing.{told, showing, idle}
use Rattle.board.proofs.Turns.{knows_more, shows_more, turns_at, ends_at}
use Rattle.board.proofs.play.play_into.Goals as goal

pub loop-call-preserved : goal.loop-call-preserved
loop-call-preserved g c =
    let inv = c.loop-call.invariant in
    let bits = g.T.Tape.bits c.new-board.result.tape in
    let v = verdict bits in
    let xs = c.args.calls.now in
    let i = c.loop-call.call-index in
    let shown = map g.D.Panel.shows in
    let room : vec_len c.loop-call.answers < vec_capacity c.loop-call.answers = omega (arith, inv.3, inv.4) in
    let ok : is_ok c.push.result ≡ true = c.push.ensures.succeeds room in
    let pushed : vec_items c.push.new.self ≡ vec_items c.loop-call.answers ++ c.perform-answer.result ∷ [] = c.push.ensures.items ∙ rw ok in
    let items : map (answered told) (vec_items c.push.new.self) ≡ map (answered told) (vec_items c.loop-call.answers) ++ answered told c.perform-answer.result ∷ [] =
    ap (map (answered told)) pushed ∙ map_push (answered told) (vec_items c.loop-call.answers) c.perform-answer.result in
    let l = c.loop-call.board.lots in
    let k = c.perform-answer.new.board.lots in
    let ss = shown c.loop-call.panels in
    let ts = shown c.perform-answer.new.panels in
    let a = answered told c.perform-answer.result in
    let turns = turns_at g.T.Tape.bits verdict c.loop-call.board.tape c.new-board.result.tape inv.0 l k ss ts a _ c.perform-answer.ensures.turns in (
      c.perform-answer.ensures.tape ∙ inv.0,
      (λ b h. knows_more v b bits l k ss ts a _ h (inv.1 b h) (turns b (inv.1 b h))),
      (λ b h. shows_more v b xs i _ c.loop-call-test.true l k ss ts (map (answered told) (vec_items c.loop-call.answers)) (map (answered told) (vec_items c.push.new.self)) a (turns b (inv.1 b h)) items ∙ inv.2 b h),
      c.push.ensures.len ∙ rw ok (ap (λ z. z + 1) inv.3),
      omega (arith, inv.4, c.push.ensures.capacity),
    )

pub returns : goal.returns
returns g c = ends_at g.T.Tape.bits verdict c.new-board.result.tape c.args.tape c.new-board.ensures.tape (showing c.loop-call.board.lots (map g.D.Panel.shows c.loop-call.panels) (map (answered told) (vec_items c.loop-call.answers))) (idle (map g.D.Panel.shows c.args.panels.now)) c.args.calls.now c.loop-call.call-index c.loop-call-test.false c.loop-call.invariant.2
