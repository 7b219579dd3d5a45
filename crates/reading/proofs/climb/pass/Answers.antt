use Rattle.std.proofs.Common.{◌≡◌, ◌-◌, sym, refl, ◌∙◌, arith}
use Rattle.reading.proofs.Climbs.{same, unary_few, unary_many}
use Rattle.reading.proofs.climb.pass.Goals as goal

pub returns-then-children-s : goal.returns-then-children-s
returns-then-children-s c =
    let s = c.args.s in
    let lot : c.args.lot ≡ s.lot - 1 = omega (arith, c.requires.lot) in
    record {
      is = same _ _ _ _ _ _ _ _ lot lot refl refl ∙ sym (unary_many c.args.children s.lot s.best s.above s.steps c.if-children-s.true);
      lot = refl;
      small = record { above = omega (arith, c.requires.lot, c.requires.small.above); steps = omega (arith, c.requires.lot, c.requires.small.steps) };
    }

pub returns-else-children-s : goal.returns-else-children-s
returns-else-children-s c =
    let s = c.args.s in
    let lot : c.args.lot ≡ s.lot - 1 = omega (arith, c.requires.lot) in
    record {
      is = same _ _ _ _ _ _ _ _ lot refl refl refl ∙ sym (unary_few c.args.children s.lot s.best s.above s.steps c.if-children-s.false);
      lot = refl;
      small = record { above = omega (arith, c.requires.lot, c.requires.small.above); steps = omega (arith, c.requires.lot, c.requires.small.steps) };
    }
