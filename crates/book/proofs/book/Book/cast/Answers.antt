use Rattle.std.proofs.Common.{◌≡◌, suc, ◌*◌, ◌<◌, length, drop, Err, ap, ◌∙◌, subst, arith}
use Rattle.std.proofs.lemmas.Result.{err_from_is_err_and}
use Rattle.leaders.specs.Refusal.{answered}
use Rattle.casting.specs.Casts.{casting, told as cast_told}
use Rattle.book.specs.Faults.{told}
use Rattle.book.proofs.Casts.{few, counted, cast_is}
use Rattle.book.proofs.book.Book.cast.Goals as goal

pub slice_bounds-lots-end : goal.slice_bounds-lots-end
slice_bounds-lots-end g c = omega (arith, few c.args.self.now.list.now c.args.self.now.count c.len-n.result c.len-n.ensures)

pub returns : goal.returns
returns g c =
    let xs = c.args.self.now.list.now in
    let e = cast_is xs c.args.self.now.count c.len-n.result c.len-n.ensures g.K.Key.at_least (g.P.Punch.room c.args.punch.now) (length c.args.work.now) (g.P.Punch.written c.args.punch.now) in
    let m = counted xs c.args.self.now.count c.len-n.result c.len-n.ensures in
    let h = c.in_ok-bits.ensures in
    record {
      bits = h.bits ∙ e;
      room = h.room;
      home = h.home;
      rest = subst (λ z. drop (4 * suc z) c.cast.new.work ≡ drop (4 * suc z) c.args.work.now) m h.rest;
      kept = subst (λ z. length c.args.work.now < 4 * suc z → c.cast.new.work ≡ c.args.work.now) m h.kept;
    }

pub returns-in_err-bits : goal.returns-in_err-bits
returns-in_err-bits g c =
    let xs = c.args.self.now.list.now in
    let e = cast_is xs c.args.self.now.count c.len-n.result c.len-n.ensures g.K.Key.at_least (g.P.Punch.room c.args.punch.now) (length c.args.work.now) (g.P.Punch.written c.args.punch.now) in
    let m = counted xs c.args.self.now.count c.len-n.result c.len-n.ensures in
    let h = c.in_err-bits.ensures in
    let p = err_from_is_err_and c.from_residual.result c.from_residual.ensures.1 in
    let carried : answered told c.from_residual.result ≡ Err (cast_told c.in_err-bits.field-0.0) = ap (answered told) (p.1 ∙ ap Err p.2) in
    record {
      bits = ap (casting (g.P.Punch.written c.cast.new.punch)) carried ∙ h.bits ∙ e;
      room = h.room;
      home = h.home;
      rest = subst (λ z. drop (4 * suc z) c.cast.new.work ≡ drop (4 * suc z) c.args.work.now) m h.rest;
      kept = subst (λ z. length c.args.work.now < 4 * suc z → c.cast.new.work ≡ c.args.work.now) m h.kept;
    }
