use Rattle.std.proofs.Common.{◌≡◌, drop, ap, ◌∙◌, arith, rules, tests}
use Rattle.std.specs.List.{prefix_len}
use Rattle.std.specs.Iterator.Adapters.{take_while_source}
use Rattle.std.proofs.lemmas.List.{take_all}
use Rattle.std.proofs.lemmas.List.Folds.{length-prefix_len}
use Rattle.std.proofs.lemmas.Iterator.Consumers.{count_from_yields_List, YieldsList-from_first}
use Rattle.std.proofs.lemmas.Iterator.Search.{YieldsList-from_take_while}
use Rattle.bits.specs.Bits.{bits_between}
use Rattle.linking.proofs.Counts.{run_is}
use Rattle.linking.proofs.Run.read.Goals as goal
use Rattle.linking.proofs.Run.read.Goals.{After-count-ones}

-- the ones at the front are counted
counted : (g : _) (c : After-count-ones g) → c.count-ones.result ≡ prefix_len (λ b. b) (drop c.args.at (g.T.Tape.bits c.args.tape.now))
counted g c =
    let bs = g.T.Tape.bits c.args.tape.now in
    let source = take_while_source c.take_while.result in
    let left : bits_between (g.T.Tape.bits source.tape.now) source.from source.upto ≡ bits_between bs c.args.at c.len.result = search rules in
    let all = left ∙ ap (drop c.args.at) (take_all c.len.result bs (omega (arith, c.len.ensures.is))) in
    count_from_yields_List c.take_while.result c.count-ones.result c.count-ones.ensures.ran
    (YieldsList-from_take_while _ (λ b. b) (YieldsList-from_first (λ x. x) (λ s. bits_between (g.T.Tape.bits s.tape.now) s.from s.upto) (drop c.args.at bs) all) c.take_while.ensures.closure c.take_while.ensures.done (λ x r q k. search (rules, tests)))
    ∙ length-prefix_len (λ b. b) _

pub returns : goal.returns
returns g c d rest h =
    run_is (g.T.Tape.bits c.args.tape.now) rest c.args.at d c.count-ones.result c.saturating_add-2.result h
    (counted g (goal.at.returns g c).After-count-ones)
    (λ k. omega (arith, k, c.len.ensures.is, c.len.ensures.short, c.saturating_add.ensures, c.saturating_add-2.ensures))
