use Rattle.std.proofs.Common.{◌-◌, ◌∙◌, sym, rules, tests, arith}
use Rattle.std.proofs.lemmas.Iterator.{YieldsList-from_range}
use Rattle.std.proofs.lemmas.Iterator.Consumers.{nth_from_yields_List, YieldsList-from_filter}
use Rattle.bits.specs.Bits.{which_are}
use Rattle.bits.proofs.Places.{is_at, those_at, length_those, filtered_select}
use Rattle.bits.proofs.tape.Tape.place.Goals as goal

pub returns : goal.returns
returns g c =
    let bs = g.Self.Tape.bits c.args.self.now in
    let bit = c.args.bit in
    let n = c.len.result in
    let k = c.in_ok-checked_sub.field-0 in
    filtered_select (is_at bs bit) (which_are bit bs) 0 n c.args.j k c.nth.result (c.len.ensures.is ∙ sym (length_those bs bit)) (λ i h. those_at bs bit i (omega (arith, c.len.ensures.is))) (omega (arith, c.in_ok-checked_sub.ensures {u = tt}))
    (nth_from_yields_List c.nth.result c.nth.new.self k c.nth.ensures.ran
    (YieldsList-from_filter _ (is_at bs bit) (YieldsList-from_range 0 n (n - 0) c.filter.ensures.source (omega arith)) c.filter.ensures.closure (λ x r q k. search (rules, tests))))
