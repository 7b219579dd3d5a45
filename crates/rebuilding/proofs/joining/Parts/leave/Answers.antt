use Rattle.std.proofs.Common.{◌<◌, length, ap, ◌∙◌, arith}
use Rattle.rebuilding.specs.Held.{word_at}
use Rattle.rebuilding.proofs.Passing.{partly_more, partly_all}
use Rattle.rebuilding.proofs.joining.Parts.leave.Goals as goal

pub loop-x-preserved : goal.loop-x-preserved
loop-x-preserved g c =
    let was = c.args.self.now in
    let now = c.loop-x.self in
    let left = was.order.sides.left.now in
    let right = was.order.sides.right.now in
    let word = word_at (g.T.Tape.bits was.words.tape.now) was.words.starts.now was.order.sides.n in
    let x = c.loop-x.x in
    let i = c.loop-x.invariant in
    let j = c.join-last.ensures in
    let fits : x < length now.ends.now = omega (arith, now.ends_long, ap (λ z. z.n) i.sides, i.lot) in
    record {
      sides = j.sides ∙ i.sides;
      words = j.words ∙ i.words;
      lot = omega (arith, c.min-x.ensures, i.lot);
      partly = rw j.ends (partly_more left right word was.order.next.now was.ends.now now.order.next.now now.ends.now c.join-last.new.self.order.next.now c.args.limit c.args.from x c.min-x.result c.join-last.result
          i.partly c.loop-x-test.true fits (rw (i.sides, i.words) at j.joined) (λ h. omega (arith, c.min-x.ensures)));
    }

pub returns-clause-leaves : goal.returns-clause-leaves
returns-clause-leaves g c =
    let was = c.args.self.now in
    let word = word_at (g.T.Tape.bits was.words.tape.now) was.words.starts.now was.order.sides.n in
    partly_all was.order.sides.left.now was.order.sides.right.now word was.order.next.now was.ends.now c.loop-x.self.order.next.now c.loop-x.self.ends.now c.args.limit c.args.from c.loop-x.x c.loop-x.invariant.partly c.loop-x-test.false
