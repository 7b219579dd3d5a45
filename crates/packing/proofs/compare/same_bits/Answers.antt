use Rattle.std.proofs.Common.{sym, ap, ◌∙◌, rules, tests}
use Rattle.std.proofs.lemmas.Iterator.{YieldsList-from_zip, same_from_all}
use Rattle.std.proofs.lemmas.Iterator.Consumers.{YieldsList-from_first}
use Rattle.bits.specs.Bits.{bits_between}
use Rattle.packing.proofs.compare.same_bits.Goals as goal

pub returns-then-len : goal.returns-then-len
returns-then-len g c =
    let xs = g.S.Tape.bits c.args.s.now in
    let ys = g.T.Tape.bits c.args.t.now in
    same_from_all c.all.new.self _ c.all.result xs ys c.all.ensures.ran
    (YieldsList-from_zip
    (YieldsList-from_first (λ x. x) (λ s. bits_between (g.S.Tape.bits s.tape.now) s.from s.upto) xs (ap (λ s. bits_between (g.S.Tape.bits s.tape.now) s.from s.upto) c.zip.ensures.first ∙ c.of.ensures))
    (YieldsList-from_first (λ x. x) (λ s. bits_between (g.T.Tape.bits s.tape.now) s.from s.upto) ys (ap (λ s. bits_between (g.T.Tape.bits s.tape.now) s.from s.upto) c.zip.ensures.second ∙ c.of-then-len.ensures)))
    (sym c.len.ensures.is ∙ c.if-len.true ∙ c.len-2.ensures.is)
    (λ x q k. search (rules, tests)) (λ x q k. search (rules, tests))
