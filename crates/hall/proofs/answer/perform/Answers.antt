use Rattle.std.proofs.Common.{◌≡◌, ◌++◌, List, length, IfOk, Some, vec_items, sym, refl, ap, ◌∙◌, subst, Bool}
use Rattle.bits.specs.Bits.{lettered}
use Rattle.leaders.specs.Refusal.{answered}
use Rattle.leaders.proofs.Strictly.{keys_order_lots}
use Rattle.book.specs.Faults.{told}
use Rattle.book.specs.Entries.{add_key, set_key, strike_lot}
use Rattle.commands.specs.declared.command.Command.{Command}
use Rattle.book.specs.Held.{keys_in, numbers}
use Rattle.commands.specs.Asked.{asks, add, strike, new_key}
use Rattle.hall.specs.Halls.{Stands, turn_of, bits_after, hall}
use Rattle.hall.specs.States.{bits_of, terms_of}
use Rattle.hall.proofs.Turning.{page_said}
use Rattle.hall.proofs.Performing.{booked, few_lots, unchanged, casted, cast_said}
use Rattle.hall.proofs.answer.perform.Goals as goal

pub returns-in-Add : goal.returns-in-Add
unfolding turn_of bits_after
returns-in-Add g c =
    let ks = keys_in c.args.book.now in
    let bits = bits_of c.args.punch.now in
    let t = terms_of g.K.Key.made g.K.Key.at_least g.K.Key.FIELDS c.args.book.now c.args.punch.now (length c.args.work.now) in
    let (done, said) = booked t ks bits _ (add (numbers c.in-Add.fields)) (ap (λ (z : Command). Some (asks z)) c.in-Add.is) (add_key t.most ks (g.K.Key.made (numbers c.in-Add.fields))) (λ shown. refl) (answered told c.add.result) (keys_in c.add.new.self) bits
    c.reply_book.result (vec_items c.args.out.now) (vec_items c.reply_book.new.out) refl refl (c.add.ensures.entry ∙ ap (λ z. add_key t.most ks (g.K.Key.made z)) c.as_slice.ensures) c.reply_book.ensures in
    record { done = done; replied = said; room = refl; home = refl; rest = refl; kept = c.add.ensures.kept; lender = c.add.ensures.lender }

pub returns-in-Strike : goal.returns-in-Strike
unfolding turn_of bits_after
returns-in-Strike g c =
    let ks = keys_in c.args.book.now in
    let bits = bits_of c.args.punch.now in
    let t = terms_of g.K.Key.made g.K.Key.at_least g.K.Key.FIELDS c.args.book.now c.args.punch.now (length c.args.work.now) in
    let (done, said) = booked t ks bits _ (strike c.in-Strike.lot) (ap (λ (z : Command). Some (asks z)) c.in-Strike.is) (strike_lot ks c.in-Strike.lot) (λ shown. refl) (answered told c.strike.result) (keys_in c.strike.new.self) bits
    c.reply_book-in-Strike.result (vec_items c.args.out.now) (vec_items c.reply_book-in-Strike.new.out) refl refl c.strike.ensures.entry c.reply_book-in-Strike.ensures in
    record { done = done; replied = said; room = refl; home = refl; rest = refl; kept = c.strike.ensures.kept; lender = c.strike.ensures.lender }

pub returns-in-NewKey : goal.returns-in-NewKey
unfolding turn_of bits_after
returns-in-NewKey g c =
    let ks = keys_in c.args.book.now in
    let bits = bits_of c.args.punch.now in
    let t = terms_of g.K.Key.made g.K.Key.at_least g.K.Key.FIELDS c.args.book.now c.args.punch.now (length c.args.work.now) in
    let (done, said) = booked t ks bits _ (new_key c.in-NewKey.lot (numbers c.in-NewKey.fields)) (ap (λ (z : Command). Some (asks z)) c.in-NewKey.is) (set_key ks c.in-NewKey.lot (g.K.Key.made (numbers c.in-NewKey.fields))) (λ shown. refl) (answered told c.new_key.result) (keys_in c.new_key.new.self) bits
    c.reply_book-in-NewKey.result (vec_items c.args.out.now) (vec_items c.reply_book-in-NewKey.new.out) refl refl (c.new_key.ensures.entry ∙ ap (λ z. set_key ks c.in-NewKey.lot (g.K.Key.made z)) c.as_slice-in-NewKey.ensures) c.reply_book-in-NewKey.ensures in
    record { done = done; replied = said; room = refl; home = refl; rest = refl; kept = c.new_key.ensures.kept; lender = c.new_key.ensures.lender }

pub returns-in-Cast-clause-done : goal.returns-in-Cast-clause-done
returns-in-Cast-clause-done g c =
    let ks = keys_in c.args.book.now in
    let bits = bits_of c.args.punch.now in
    let t = terms_of g.K.Key.made g.K.Key.at_least g.K.Key.FIELDS c.args.book.now c.args.punch.now (length c.args.work.now) in
    casted t ks bits _ (ap (λ (z : Command). Some (asks z)) c.in-Cast.is) _ _ (few_lots c.args.book.now) refl c.reply_cast.ensures.bits

pub returns-in-Cast-clause-replied : goal.returns-in-Cast-clause-replied
returns-in-Cast-clause-replied g c =
    let ks = keys_in c.args.book.now in
    let bits = bits_of c.args.punch.now in
    let t = terms_of g.K.Key.made g.K.Key.at_least g.K.Key.FIELDS c.args.book.now c.args.punch.now (length c.args.work.now) in
    cast_said t ks bits _ (ap (λ (z : Command). Some (asks z)) c.in-Cast.is) c.reply_cast.result (vec_items c.args.out.now) (vec_items c.reply_cast.new.out) c.reply_cast.ensures.reply

pub returns-in-Page-clause-done : goal.returns-in-Page-clause-done
unfolding turn_of bits_after
returns-in-Page-clause-done g c =
    let ks = keys_in c.args.book.now in
    let bits = bits_of c.args.punch.now in
    let t = terms_of g.K.Key.made g.K.Key.at_least g.K.Key.FIELDS c.args.book.now c.args.punch.now (length c.args.work.now) in
    unchanged t ks bits _ (λ shown. ap (λ (z : Command). (turn_of t (hall ks shown) (Some (asks z))).after) c.in-Page.is) (ap (λ (z : Command). bits_after t ks bits (Some (asks z))) c.in-Page.is)

pub returns-in-Page-clause-replied : goal.returns-in-Page-clause-replied
unfolding turn_of
returns-in-Page-clause-replied g c shown st =
    let ks = keys_in c.args.book.now in
    let bits = bits_of c.args.punch.now in
    let t = terms_of g.K.Key.made g.K.Key.at_least g.K.Key.FIELDS c.args.book.now c.args.punch.now (length c.args.work.now) in
    let ge = g.K.Key.at_least in
    let strict = keys_order_lots ge g.met.K.Key.total g.met.K.Key.transitive in
    subst (λ (z : Command). IfOk c.reply_page.result (λ _. vec_items c.reply_page.new.out ≡ vec_items c.args.out.now ++ (turn_of t (hall ks shown) (Some (asks z))).reply)) (sym c.in-Page.is)
    (page_said ge strict shown (lettered c.tape.result.text.now) (subst (λ (z : List Bool). Stands ge shown z) (sym c.tape.ensures) st) c.in-Page.start c.in-Page.size (λ l. IfOk c.reply_page.result (λ _. vec_items c.reply_page.new.out ≡ vec_items c.args.out.now ++ l)) c.reply_page.ensures)
