use Rattle.std.proofs.Common.{◌≡◌, ◌+◌, ◌<◌, [], length, take, drop, refl, ap, ◌∙◌, arith, rules}
use Rattle.std.proofs.lemmas.List.{length_push, length-drop, length-take}
use Rattle.bits.specs.Bits.{bits_between}
use Rattle.leaders.specs.Verdict.{walk}
use Rattle.reading.specs.Lots.{lot_number}
use Rattle.reading.proofs.Checks.{step_one, step_first, step_zero, walk_end, taken_le, path_some, path_none}
use Rattle.reading.proofs.check.walk_over.Goals as goal

pub loop-bit-init : goal.loop-bit-init
loop-bit-init g c =
    let bs = g.T.Tape.bits c.args.tape.now in
    let it = c.into_iter-bit-iterator.result in
    let left : bits_between (g.T.Tape.bits it.tape.now) it.from it.upto ≡ drop 1 (take c.args.m bs) = search rules in (
      ap (λ st. walk bs 0 st 0 c.args.m 0 (bits_between (g.T.Tape.bits it.tape.now) it.from it.upto)) c.new-path.ensures ∙ ap (walk bs 0 [] 0 c.args.m 0) left,
      refl,
      omega (arith, ap length left, length-drop 1 (take c.args.m bs), length-take c.args.m bs),
      omega arith,
      omega arith,
      omega arith,
      omega (arith, ap length c.new-path.ensures),
    )

pub loop-bit-preserved-then-bit : goal.loop-bit-preserved-then-bit
loop-bit-preserved-then-bit g c =
    let bs = g.T.Tape.bits c.args.tape.now in
    let v = c.loop-bit in
    let more = length_push v.yielded c.in-Some.bit in
    let first = c.in-Some.ensures.steps in (
      step_one bs _ _ c.in-Some.bit first v.d v.path v.lot v.at (lot_number v.bad) c.if-bit.true ∙ v.invariant.0,
      v.invariant.1,
      omega (arith, more, ap length first, v.invariant),
      omega (arith, more, v.invariant),
      omega (arith, more, v.invariant),
      omega (arith, more, v.invariant),
      omega (arith, more, v.invariant),
    )

pub loop-bit-preserved-then-not-root : goal.loop-bit-preserved-then-not-root
loop-bit-preserved-then-not-root g c =
    let bs = g.T.Tape.bits c.args.tape.now in
    let v = c.loop-bit in
    let more = length_push v.yielded c.in-Some.bit in
    let first = c.in-Some.ensures.steps in
    let path = c.settle-before.ensures.path in
    let short = taken_le v.path in
    let it = c.next.new.self in
    let rest = bits_between (g.T.Tape.bits it.tape.now) it.from it.upto in
    let some : 0 < length v.path = path_some v.path c.is_empty-root.result c.is_empty-root.ensures c.if-not-root.true in (
      ap (λ st. walk bs 0 st (v.lot + 1) (v.at + c.saturating_sub-size.result) (lot_number c.first_bad-bad.result) rest) path
          ∙ step_zero bs _ rest c.in-Some.bit first v.d v.path v.lot v.at (lot_number v.bad) c.settle-before.result c.saturating_sub-size.result (lot_number c.first_bad-bad.result) c.too_many.result
          c.if-bit.false some c.settle-before.ensures.before c.saturating_sub-size.ensures c.too_many.ensures c.first_bad-bad.ensures.is
          ∙ v.invariant.0,
      c.first_bad-bad.ensures.lot,
      omega (arith, more, ap length first, v.invariant),
      omega (arith, more),
      omega (arith, more, v.invariant),
      omega (arith, more, c.saturating_sub-size.ensures, c.settle-before.ensures.short, v.invariant),
      omega (arith, more, ap length path, short, v.invariant),
    )

pub loop-bit-preserved : goal.loop-bit-preserved
loop-bit-preserved g c =
    let bs = g.T.Tape.bits c.args.tape.now in
    let v = c.loop-bit in
    let more = length_push v.yielded c.in-Some.bit in
    let first = c.in-Some.ensures.steps in
    let path = c.settle-before.ensures.path in
    let short = taken_le v.path in
    let it = c.next.new.self in
    let rest = bits_between (g.T.Tape.bits it.tape.now) it.from it.upto in
    let none : v.path ≡ [] = path_none v.path c.is_empty-root.result c.is_empty-root.ensures c.if-not-root.false in (
      ap (λ st. walk bs 0 st v.lot v.at (lot_number v.bad) rest) path
          ∙ step_first bs _ rest c.in-Some.bit first v.d v.path v.lot v.at (lot_number v.bad) c.if-bit.false none
          ∙ v.invariant.0,
      v.invariant.1,
      omega (arith, more, ap length first, v.invariant),
      omega (arith, more),
      omega (arith, more, v.invariant),
      omega (arith, more, v.invariant),
      omega (arith, more, ap length path, short, v.invariant),
    )

pub returns : goal.returns
returns g c =
    let v = c.loop-bit in
    walk_end (g.T.Tape.bits c.args.tape.now) v.d v.path v.lot v.at (lot_number v.bad) _ (c.in-None.ensures.steps).0 ∙ v.invariant.0
