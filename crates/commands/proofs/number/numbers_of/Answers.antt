use Rattle.std.proofs.Common.{set, sym, refl, ◌∙◌, arith}
use Rattle.std.proofs.lemmas.List.{length-set, take_all}
use Rattle.commands.specs.Texts.{place}
use Rattle.commands.proofs.Reading.{fields_over, field_none, field_more, field_last}
use Rattle.commands.proofs.number.numbers_of.Goals as goal

pub returns-in_err-values : goal.returns-in_err-values
returns-in_err-values c =
    let rest = c.loop-at.rest.now in
    rw c.from_residual.ensures (field_none c.args.text.now rest c.loop-at.values c.loop-at.at c.loop-at.invariant.0 c.loop-at.invariant.1 (place rest 44) rest refl (sym (take_all (place rest 44) rest c.in_default.ensures)) c.in_err-values.ensures)

pub returns-in_err-values-2 : goal.returns-in_err-values-2
returns-in_err-values-2 c =
    let rest = c.loop-at.rest.now in
    rw c.from_residual-in_err-values-2.ensures (field_none c.args.text.now rest c.loop-at.values c.loop-at.at c.loop-at.invariant.0 c.loop-at.invariant.1 (place rest 44) c.in-Some.field.now refl c.in-Some.ensures.before_is c.in_err-values-2.ensures)

pub returns-in_default : goal.returns-in_default
returns-in_default c =
    let rest = c.loop-at.rest.now in
    let vs = c.loop-at.values in
    let at = c.loop-at.at in
    let n = c.in_ok-values.field-0 in
    field_last c.args.text.now rest vs at c.loop-at.invariant.0 c.loop-at.invariant.1 (place rest 44) rest refl (sym (take_all (place rest 44) rest c.in_default.ensures)) n (set vs at n) c.in_ok-values.ensures refl (omega arith) _ c.in_default.ensures c.new.ensures

pub loop-at-preserved : goal.loop-at-preserved
loop-at-preserved c =
    let rest = c.loop-at.rest.now in
    let vs = c.loop-at.values in
    let at = c.loop-at.at in
    let n = c.in_ok-values-2.field-0 in
    let cut = c.in-Some.ensures in (
      length-set vs at n ∙ c.loop-at.invariant.0,
      field_more c.args.text.now rest vs at c.loop-at.invariant.0 c.loop-at.invariant.1 (place rest 44) c.in-Some.field.now refl cut.before_is n (set vs at n) c.in_ok-values-2.ensures refl (omega arith) c.in-Some.behind.now cut.there cut.behind_is,
    )

pub returns : goal.returns
returns c = fields_over c.args.text.now c.loop-at.rest.now c.loop-at.values c.loop-at.at c.loop-at.invariant.0 c.loop-at.invariant.1 (omega arith)
