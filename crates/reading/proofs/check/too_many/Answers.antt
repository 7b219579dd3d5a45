use Rattle.std.proofs.Common.{ltb, take, drop, sym, ap, ◌∙◌, arith}
use Rattle.std.proofs.lemmas.Bool.{lt-ltb}
use Rattle.reading.proofs.Checks.{too_many_left, too_many_right, word_counts}
use Rattle.reading.proofs.check.too_many.Goals as goal

pub overflow_sub-n : goal.overflow_sub-n
overflow_sub-n g c = (word_counts (take c.args.size (drop c.args.from (g.T.Tape.bits c.args.tape.now))) c.len-n.result c.rank-ones.result c.len-n.ensures.is c.rank-ones.ensures).2

pub returns-then-n-ones : goal.returns-then-n-ones
returns-then-n-ones g c =
    let xs = take c.args.size (drop c.args.from (g.T.Tape.bits c.args.tape.now)) in
    let k = word_counts xs c.len-n.result c.rank-ones.result c.len-n.ensures.is c.rank-ones.ensures in
    lt-ltb c.args.p _ c.if-n-ones.true ∙ sym (too_many_left c.args.p c.args.q xs (omega (arith, k.1, c.if-n-ones.true)))

pub returns-else-n-ones : goal.returns-else-n-ones
returns-else-n-ones g c =
    let xs = take c.args.size (drop c.args.from (g.T.Tape.bits c.args.tape.now)) in
    let k = word_counts xs c.len-n.result c.rank-ones.result c.len-n.ensures.is c.rank-ones.ensures in
    ap (ltb c.args.q) k.0 ∙ sym (too_many_right c.args.p c.args.q xs (omega (arith, k.1, c.if-n-ones.false)))
