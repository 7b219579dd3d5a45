use Rattle.std.proofs.Common.{◌≡◌, true, Some, sym, ◌∙◌}
use Rattle.commands.specs.Numbers.{begun_well}
use Rattle.commands.proofs.Reading.{digit_more, digit_none, digit_all}
use Rattle.commands.proofs.number.number_of.Goals as goal

pub loop-byte-preserved : goal.loop-byte-preserved
loop-byte-preserved c = digit_more c.args.text.now c.loop-byte.n c.loop-byte.byte-index c.loop-byte.invariant (Some c.in_ok-n.n) c.loop-byte-test.true c.in_ok-n.ensures

pub returns : goal.returns
returns c =
    let begun : begun_well c.args.text.now ≡ true = sym c.well_begun.ensures ∙ c.if-not-well_begun.false in
    digit_all c.args.text.now c.loop-byte.n c.loop-byte.byte-index c.loop-byte.invariant begun c.loop-byte-test.false

pub returns-in_err-n : goal.returns-in_err-n
returns-in_err-n c =
    let begun : begun_well c.args.text.now ≡ true = sym c.well_begun.ensures ∙ c.if-not-well_begun.false in
    rw c.from_residual.ensures (digit_none c.args.text.now c.loop-byte.n c.loop-byte.byte-index c.loop-byte.invariant begun c.loop-byte-test.true c.in_err-n.ensures)
