use Rattle.std.proofs.Common.{◌≡◌, ◌+◌, ◌/◌, ◌%◌, ◌<◌, [], ◌∷◌, ◌++◌, length, get_or, set, ap, ◌∙◌, arith, rules}
use Rattle.std.proofs.lemmas.List.{length-set, length_push}
use Rattle.bits.specs.Bits.{bits_between}
use Rattle.bits.proofs.Going.{not_all, all_came}
use Rattle.packed.specs.Packed.{packed_room, put_bit}
use Rattle.packing.specs.Packs.{PackedInto}
use Rattle.packing.proofs.Fills.{fills_more, fills_all, never_full}
use Rattle.packing.proofs.pack.pack.Goals as goal

pub loop-bit-preserved : goal.loop-bit-preserved
loop-bit-preserved g c =
    let xs = c.loop-bit.yielded in
    let i = length xs in
    let bit = c.in-Some.bit in
    let turn = (not_all (λ s. bits_between (g.T.Tape.bits s.tape.now) s.from s.upto) c.into_iter-bit-iterator.result c.loop-bit.bit-iterator xs c.loop-bit.yielded_by c.next.result c.next.new.self bit c.in-Some.is c.next.ensures.steps) in
    let all : bits_between (g.T.Tape.bits c.into_iter-bit-iterator.result.tape.now) c.into_iter-bit-iterator.result.from c.into_iter-bit-iterator.result.upto ≡ g.T.Tape.bits c.args.tape.now = search rules in
    let now = c.loop-bit.punch.bytes.now in
    let new = c.append.new.self.bytes.now in
    let put = c.in_ok-append.ensures.bytes in
    let same : c.loop-bit.punch.count ≡ i = c.loop-bit.invariant.1 in
    let fits : i < packed_room now = omega (arith, turn, ap length all, c.len-n.ensures.is, c.capacity.ensures.is, c.loop-bit.invariant.2) in
    let at : new ≡ set now (i / 8) (put_bit (get_or now (i / 8) 0) (i % 8) bit) = put.0 ∙ ap (λ k. set now (k / 8) (put_bit (get_or now (k / 8) 0) (k % 8) bit)) same in
    let more : length (xs ++ bit ∷ []) ≡ i + 1 = length_push xs bit in
    let packs : PackedInto (xs ++ bit ∷ []) (i + 1) c.new-punch.result.bytes.now new = fills_more xs i bit c.new-punch.result.bytes.now now new c.loop-bit.invariant.0 fits at in
    rw more (
      packs,
      put.1 ∙ ap (λ k. k + 1) same,
      ap length at ∙ length-set now (i / 8) (put_bit (get_or now (i / 8) 0) (i % 8) bit) ∙ c.loop-bit.invariant.2,
      c.in_ok-append.ensures.home ∙ c.loop-bit.invariant.3,
    )

pub returns : goal.returns
returns g c =
    let all : bits_between (g.T.Tape.bits c.into_iter-bit-iterator.result.tape.now) c.into_iter-bit-iterator.result.from c.into_iter-bit-iterator.result.upto ≡ g.T.Tape.bits c.args.tape.now = search rules in
    let came = all_came (λ s. bits_between (g.T.Tape.bits s.tape.now) s.from s.upto) c.into_iter-bit-iterator.result c.loop-bit.bit-iterator c.loop-bit.yielded c.loop-bit.yielded_by c.next.result c.next.new.self c.in-None.is c.next.ensures.steps ∙ all in
    fills_all (g.T.Tape.bits c.args.tape.now) c.len-n.result c.loop-bit.yielded c.args.bytes.now c.new-punch.result.bytes.now c.loop-bit.punch.bytes.now _
    c.loop-bit.invariant.0 came c.len-n.ensures.is c.new-punch.ensures.bytes (search rules)

pub returns-in_err-append : goal.returns-in_err-append
returns-in_err-append g c =
    let xs = c.loop-bit.yielded in
    let all : bits_between (g.T.Tape.bits c.into_iter-bit-iterator.result.tape.now) c.into_iter-bit-iterator.result.from c.into_iter-bit-iterator.result.upto ≡ g.T.Tape.bits c.args.tape.now = search rules in
    let turn = (not_all (λ s. bits_between (g.T.Tape.bits s.tape.now) s.from s.upto) c.into_iter-bit-iterator.result c.loop-bit.bit-iterator xs c.loop-bit.yielded_by c.next.result c.next.new.self c.in-Some.bit c.in-Some.is c.next.ensures.steps) in
    absurd (never_full xs (length xs) c.loop-bit.punch.count c.new-punch.result.bytes.now c.loop-bit.punch.bytes.now c.loop-bit.invariant.0 c.loop-bit.invariant.1
    (omega (arith, turn, ap length all, c.len-n.ensures.is, c.capacity.ensures.is)) c.loop-bit.invariant.2 c.in_err-append.ensures.bits.0)
