use Rattle.std.proofs.Common.{◌<◌, length, take, sym, ap, ◌∙◌, arith}
use Rattle.std.specs.Option.{option_map}
use Rattle.std.proofs.lemmas.Option.{slice_get-get_or, slice_get_past}
use Rattle.bits.specs.Bits.{is_open, lettered}
use Rattle.bits.proofs.Bitlists.{nth_map, nth_take}
use Rattle.bits.proofs.Letters.{length_lettered}
use Rattle.bits.proofs.tape.LetteredTapeTape.get.Goals as goal

pub bounds-self-p : goal.bounds-self-p
bounds-self-p c = omega (arith, length_lettered c.args.self.now.text.now)

pub returns-then-p-len : goal.returns-then-p-len
returns-then-p-len c =
    let text = c.args.self.now.text.now in
    let p = c.args.p in
    let e = length_lettered text in
    let h : p < length text = omega arith in
    let k : p < 32768 = omega arith in
    sym (nth_map is_open (take 32768 text) p ∙ ap (λ o. option_map is_open o) (nth_take 32768 text p k ∙ slice_get-get_or text p 0 h))

pub returns-else-p-len : goal.returns-else-p-len
returns-else-p-len c = sym (slice_get_past (lettered c.args.self.now.text.now) c.args.p (omega arith))
