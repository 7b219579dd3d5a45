use Rattle.std.proofs.Common.{◌≡◌, ◌+◌, ◌<◌, min, true, [], ◌∷◌, ◌++◌, map, length, is_ok, vec_items, vec_len, vec_capacity, sym, ap, ◌∙◌, arith, rules}
use Rattle.std.proofs.lemmas.List.{map_push}
use Rattle.leaders.specs.Refusal.{answered}
use Rattle.book.specs.Entries.{room_for}
use Rattle.book.specs.Held.{keys_in}
use Rattle.ledger.specs.Ledger.{told, terms, ledger, after}
use Rattle.ledger.proofs.Calls.{run_more, run_all, held_all}
use Rattle.ledger.proofs.play.play_into.Goals as goal

pub loop-call-preserved : goal.loop-call-preserved
loop-call-preserved g c =
    let inv = c.loop-call.invariant in
    let made = g.K.Key.made in
    let ge = g.K.Key.at_least in
    let rooms = map g.P.Punch.room c.args.punches.now in
    let most = room_for (length c.new-book.result.list.now) in
    let work = length c.args.work.now in
    let bits = map g.P.Punch.written in
    let xs = c.args.calls.now in
    let i = c.loop-call.call-index in
    let terms-are : terms made ge (room_for (length c.loop-call.book.list.now)) (map g.P.Punch.room c.loop-call.punches) (length c.loop-call.work) ≡ terms made ge most rooms work = simp (inv.0, inv.2, c.loop-call.auto.work) in
    let room : vec_len c.loop-call.answers < vec_capacity c.loop-call.answers = omega (arith, inv.4, inv.5) in
    let ok : is_ok c.push.result ≡ true = c.push.ensures.succeeds room in
    let answer = answered told c.perform-answer.result in
    let pushed : vec_items c.push.new.self ≡ vec_items c.loop-call.answers ++ c.perform-answer.result ∷ [] = c.push.ensures.items ∙ rw ok in
    let items : map (answered told) (vec_items c.push.new.self) ≡ map (answered told) (vec_items c.loop-call.answers) ++ answer ∷ [] =
    ap (map (answered told)) pushed ∙ map_push (answered told) (vec_items c.loop-call.answers) c.perform-answer.result in (
      c.perform-answer.ensures.kept ∙ inv.0,
      c.perform-answer.ensures.lender ∙ inv.1,
      c.perform-answer.ensures.rooms ∙ inv.2,
      run_more (terms made ge most rooms work) xs i _ c.loop-call-test.true (keys_in c.loop-call.book) (keys_in c.perform-answer.new.book) (bits c.loop-call.punches) (bits c.perform-answer.new.punches) (map (answered told) (vec_items c.loop-call.answers)) (map (answered told) (vec_items c.push.new.self)) answer _ terms-are c.perform-answer.ensures.steps items ∙ inv.3,
      c.push.ensures.len ∙ rw ok (ap (λ z. z + 1) inv.4),
      omega (arith, inv.5, c.push.ensures.capacity),
      c.perform-answer.ensures.rest ∙ inv.6,
      c.perform-answer.ensures.homes ∙ inv.7,
    )

pub returns : goal.returns
returns g c =
    let inv = c.loop-call.invariant in
    let made = g.K.Key.made in
    let ge = g.K.Key.at_least in
    let rooms = map g.P.Punch.room c.args.punches.now in
    let work = length c.args.work.now in
    let bits = map g.P.Punch.written in
    let xs = c.args.calls.now in
    let i = c.loop-call.call-index in
    let t = terms made ge (room_for (length c.new-book.result.list.now)) rooms work in
    let now-is = ledger (keys_in c.loop-call.book) (bits c.loop-call.punches) (map (answered told) (vec_items c.loop-call.answers)) in
    let whole = sym (run_all t xs i c.loop-call-test.false now-is) ∙ inv.3 ∙ ap (λ zs. after (terms made ge (room_for (length zs)) rooms work) (ledger [] (bits c.args.punches.now) []) xs) c.new-book.ensures.list in
    let all = held_all c.loop-call.book.list.now (min 4000 c.loop-call.book.count) (bits c.loop-call.punches) (map (answered told) (vec_items c.loop-call.answers)) _ whole in
    record {
      ledger = search (rules, all, sym (inv.1 ∙ c.new-book.ensures.lender));
      rooms = inv.2;
      homes = inv.7;
      rest = inv.6;
    }
