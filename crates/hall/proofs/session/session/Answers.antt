use Rattle.std.proofs.Common.{◌≡◌, [], length, take, None, vec_items, ap, ◌∙◌, subst, arith, length-take}
use Rattle.book.proofs.Steps.{take_len}
use Rattle.commands.specs.declared.line.Lines.{Lines}
use Rattle.commands.specs.Texts.{lines}
use Rattle.hall.specs.Halls.{Terms, Next, program_terms, hall, replies, all_replies}
use Rattle.hall.specs.States.{lots_in, bits_in, terms_in}
use Rattle.hall.proofs.Turning.{next_more, session_all, program_terms_lem}
use Rattle.hall.proofs.Performing.{terms_kept}
use Rattle.hall.proofs.session.session.Goals as goal

pub loop-line-preserved : goal.loop-line-preserved
unfolding replies
loop-line-preserved g c =
    let inv = c.loop-line.invariant in
    let now = c.loop-line.hall in
    let after = c.answer.new.self in
    let shown = inv.1.0 in
    let line = c.in-Some.line.now in
    let text = c.loop-line.line-iterator.rest.now in
    let rest = c.next.new.self.rest.now in
    let said = c.in_ok-answer.ensures in
    let u = terms_in g.K.Key.made g.K.Key.at_least g.K.Key.FIELDS now in
    let next : Next u (hall (lots_in now) shown) text rest (lots_in after) (bits_in after) (vec_items c.loop-line.out) (vec_items c.answer.new.out) = record {
      line = line;
      turned = said.done.turned shown inv.1.1.0;
      replied = said.replied shown inv.1.1.0;
      owed = ap (replies u (hall (lots_in now) shown)) c.in-Some.ensures.steps;
    } in (
      terms_kept g.K.Key.made g.K.Key.at_least g.K.Key.FIELDS now after said.kept ∙ inv.0,
      next_more (terms_in g.K.Key.made g.K.Key.at_least g.K.Key.FIELDS c.hall-hall.result) _ (lots_in now) (lots_in after) shown (bits_in after) (vec_items c.loop-line.out) (vec_items c.answer.new.out) text rest
          (subst (λ (z : Terms _). Next z (hall (lots_in now) shown) text rest (lots_in after) (bits_in after) (vec_items c.loop-line.out) (vec_items c.answer.new.out)) inv.0 next) inv.1.1.1,
    )

pub returns : goal.returns
returns g c =
    let inv = c.loop-line.invariant in
    let input = c.args.input.now in
    let t = terms_in g.K.Key.made g.K.Key.at_least g.K.Key.FIELDS c.hall-hall.result in
    let room = c.in_ok-room.room in
    let sizes = c.in_ok-room.ensures in
    let same : t ≡ program_terms g.K.Key.made g.K.Key.at_least g.K.Key.FIELDS =
    c.hall-hall.ensures.terms ∙ program_terms_lem g.K.Key.made g.K.Key.at_least g.K.Key.FIELDS (length (vec_items room.places)) (vec_items room.letters) (length (vec_items room.work)) sizes.0 sizes.1 sizes.2 in
    let m : c.min.result ≡ length (take 65536 input) = omega (arith, length-take 65536 input) in
    session_all t _ (hall (lots_in c.loop-line.hall) inv.1.0) (vec_items c.loop-line.out) _ c.in-None.ensures.steps.0 inv.1.1.1
    ∙ ap (λ (z : Lines). replies t (hall [] None) (lines z.rest.now)) c.into_iter-line-iterator.ensures.into_iter_gives
    ∙ ap (λ z. replies t (hall [] None) (lines z)) (c.new-line-items.ensures ∙ take_len input 65536 c.min.result m)
    ∙ ap (λ (z : Terms _). all_replies z input) same
