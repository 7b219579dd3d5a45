use Rattle.std.proofs.Common.{◌≡◌, ◌++◌, length, IfOk, vec_items, Option, ap, subst, sym}
use Rattle.commands.specs.Asked.{Asked}
use Rattle.hall.specs.Halls.{turn_of, bits_after, hall}
use Rattle.book.specs.Held.{keys_in}
use Rattle.hall.specs.States.{bits_of, terms_of}
use Rattle.hall.proofs.Performing.{unchanged}
use Rattle.hall.proofs.answer.answer_line.Goals as goal

pub returns-in-None-clause-done : goal.returns-in-None-clause-done
unfolding turn_of bits_after
returns-in-None-clause-done g c =
    let ks = keys_in c.args.book.now in
    let bits = bits_of c.args.punch.now in
    let t = terms_of g.K.Key.made g.K.Key.at_least g.K.Key.FIELDS c.args.book.now c.args.punch.now (length c.args.work.now) in
    unchanged t ks bits _ (λ shown. ap (λ (o : Option Asked). (turn_of t (hall ks shown) o).after) (sym c.in-None.ensures)) (ap (bits_after t ks bits) (sym c.in-None.ensures))

pub returns-in-None-clause-replied : goal.returns-in-None-clause-replied
unfolding turn_of
returns-in-None-clause-replied g c shown st =
    let ks = keys_in c.args.book.now in
    let bits = bits_of c.args.punch.now in
    let t = terms_of g.K.Key.made g.K.Key.at_least g.K.Key.FIELDS c.args.book.now c.args.punch.now (length c.args.work.now) in
    subst (λ (o : Option Asked). IfOk c.reply_refused.result (λ _. vec_items c.reply_refused.new.out ≡ vec_items c.args.out.now ++ (turn_of t (hall ks shown) o).reply)) c.in-None.ensures c.reply_refused.ensures
