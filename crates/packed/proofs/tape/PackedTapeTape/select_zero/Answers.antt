use Rattle.std.proofs.Common.{◌≡◌, ◌+◌, ◌-◌, ◌*◌, ◌≤◌, false, not, map, length, ◌∙◌, sym, rules, tests, arith}
use Rattle.std.proofs.lemmas.List.{length-map}
use Rattle.std.proofs.lemmas.Iterator.{YieldsList-from_range}
use Rattle.std.proofs.lemmas.Iterator.Consumers.{nth_from_yields_List, YieldsList-from_filter}
use Rattle.bits.specs.Bits.{rank_of}
use Rattle.bits.proofs.Bitlists.{rank_not}
use Rattle.bits.proofs.Places.{is_at, zeros_at, filtered_select}
use Rattle.packed.specs.Packed.{packed}
use Rattle.packed.proofs.Packing.{length_packed, rank_packed}
use Rattle.packed.proofs.tape.PackedTapeTape.select_zero.Goals as goal

pub pass_zeros-passed-requires : goal.pass_zeros-passed-requires
pass_zeros-passed-requires c =
    let e = length_packed c.args.self.now.bytes.now c.args.self.now.count in
    (omega (arith, c.len-n.ensures.is), (omega (arith, c.len-n.ensures.short), omega arith))

pub returns : goal.returns
returns c =
    let bytes = c.args.self.now.bytes.now in
    let bs = packed bytes c.args.self.now.count in
    let n = c.len-n.result in
    let from = 8 * c.pass_zeros-passed.result.bytes in
    let k = c.args.j - 1 - c.pass_zeros-passed.result.zeros in
    let l = length_packed bytes c.args.self.now.count in
    let h : from ≤ length bs = omega (arith, c.len-n.ensures.is, c.pass_zeros-passed.ensures.upto) in
    let z : c.args.j ≡ rank_of (map not bs) from + k + 1 = omega (arith, rank_not bs from h, rank_packed bytes c.args.self.now.count from (omega arith), c.pass_zeros-passed.ensures.zeros, c.pass_zeros-passed.ensures.few) in
    filtered_select (is_at bs false) (map not bs) from n c.args.j k c.nth.result (c.len-n.ensures.is ∙ sym (length-map bs not)) (λ i m. zeros_at bs i (omega (arith, c.len-n.ensures.is))) z
    (nth_from_yields_List c.nth.result c.nth.new.self k c.nth.ensures.ran
    (YieldsList-from_filter _ (is_at bs false) (YieldsList-from_range from n (n - from) c.filter.ensures.source (omega arith)) c.filter.ensures.closure (λ x r q k. search (rules, tests))))
