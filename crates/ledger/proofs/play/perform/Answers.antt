use Rattle.std.proofs.Common.{◌≡◌, suc, ◌-◌, ◌*◌, ◌≤◌, min, map, length, take, drop, set, sym, refl, ap, ◌∙◌, arith, take-append-drop, length-take, rules}
use Rattle.book.specs.Entries.{room_for, sheet_of}
use Rattle.book.specs.Held.{keys_in}
use Rattle.ledger.specs.Ledger.{told, step_of, terms}
use Rattle.casting.specs.Casts.{casting, cast_sheet}
use Rattle.leaders.specs.Refusal.{answered}
use Rattle.ledger.proofs.Calls.{no_punch, cast_step, rooms_kept, drop_joined}
use Rattle.ledger.proofs.play.perform.Goals as goal

pub returns-then-p-punches : goal.returns-then-p-punches
returns-then-p-punches g c =
    let t = terms g.K.Key.made g.K.Key.at_least (room_for (length c.args.book.now.list.now)) (map g.P.Punch.room c.args.punches.now) (length c.args.work.now) in
    let ks = keys_in c.args.book.now in
    let bs = map g.P.Punch.written c.args.punches.now in
    record {
      steps = no_punch t ks g.P.Punch.room g.P.Punch.written c.args.punches.now refl c.in-Cast.at c.in-Cast.count c.if-p-punches.true ∙ ap (step_of t ks bs) (sym c.in-Cast.is);
      rooms = search rules;
      homes = search rules;
      rest = refl;
      kept = search rules;
      lender = search rules;
    }

pub returns-in-Add : goal.returns-in-Add
unfolding step_of
returns-in-Add g c = search rules

pub returns-in-Strike : goal.returns-in-Strike
unfolding step_of
returns-in-Strike g c = search rules

pub returns-in-NewKey : goal.returns-in-NewKey
unfolding step_of
returns-in-NewKey g c = search rules

pub returns-else-p-punches : goal.returns-else-p-punches
returns-else-p-punches g c =
    let t = terms g.K.Key.made g.K.Key.at_least (room_for (length c.args.book.now.list.now)) (map g.P.Punch.room c.args.punches.now) (length c.args.work.now) in
    let ks = keys_in c.args.book.now in
    let ps = c.args.punches.now in
    let bs = map g.P.Punch.written ps in
    let work = c.args.work.now in
    let n = c.min-n.result - 0 in
    let few : 4 * suc (length ks) ≤ 16004 = omega (arith, length-take (min 4000 c.args.book.now.count) c.args.book.now.list.now) in
    let room : g.P.Punch.room c.cast.new.punch ≡ g.P.Punch.room c.index-punches-p.result = search rules in
    let bits : casting (g.P.Punch.written c.cast.new.punch) (answered told c.carried-in-Cast.result) ≡ cast_sheet (sheet_of g.K.Key.at_least ks) (length ks) (g.P.Punch.room c.index-punches-p.result) (min c.in-Cast.count (length c.args.work.now)) (g.P.Punch.written c.index-punches-p.result) = search rules in
    let home : g.P.Punch.home c.cast.new.punch ≡ g.P.Punch.home c.index-punches-p.result = search rules in
    record {
      rest = drop_joined (4 * suc (length ks)) 16004 c.cast.new.work (take n work) (drop n work) c.cast.auto.work few c.cast.ensures.rest ∙ ap (drop 16004) (take-append-drop n work);
      steps = cast_step t ks g.P.Punch.room g.P.Punch.written ps refl c.in-Cast.at c.in-Cast.count c.index-punches-p.result c.cast.new.punch (set ps c.in-Cast.at c.cast.new.punch) (answered told c.carried-in-Cast.result) c.if-p-punches.false c.index-punches-p.is refl bits ∙ ap (step_of t ks bs) (sym c.in-Cast.is);
      rooms = rooms_kept g.P.Punch.room ps c.in-Cast.at c.index-punches-p.result c.cast.new.punch c.if-p-punches.false c.index-punches-p.is room;
      homes = rooms_kept g.P.Punch.home ps c.in-Cast.at c.index-punches-p.result c.cast.new.punch c.if-p-punches.false c.index-punches-p.is home;
      kept = search rules;
      lender = search rules;
    }
