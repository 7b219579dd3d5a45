use Rattle.std.proofs.Common.{◌<◌, ◌≤◌, length, sym, ◌∙◌, arith}
use Rattle.std.specs.Int.Digits.{digits_of}
use Rattle.std.proofs.lemmas.Int.Digits.{length-digits_of_step}
use Rattle.panel.proofs.Writing.{some_digits, no_digits, inked_more, inked_none}
use Rattle.panel.proofs.numeral.write.Goals as goal

pub loop-at-preserved : goal.loop-at-preserved
loop-at-preserved c =
    let more : 0 < length (digits_of 10 c.loop-at.left) = omega arith in
    let some = some_digits c.loop-at.left more in
    let one = length-digits_of_step 10 c.loop-at.left (omega arith) some in
    (inked_more c.loop-at.cells c.args.glyphs.now c.loop-at.at c.loop-at.left some (omega arith) (omega arith) ∙ c.loop-at.invariant.0, omega arith)

pub returns : goal.returns
returns c =
    let none : length (digits_of 10 c.loop-at.left) ≤ 0 = omega arith in
    sym (inked_none c.loop-at.cells c.args.glyphs.now c.loop-at.at c.loop-at.left (no_digits c.loop-at.left none)) ∙ c.loop-at.invariant.0
