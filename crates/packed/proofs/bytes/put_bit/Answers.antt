use Rattle.std.proofs.Common.{◌≡◌, ◌+◌, ◌-◌, ◌*◌, ◌/◌, ◌%◌, ◌^◌, ◌<◌, get_or, set, ap, ◌∙◌, arith, rules}
use Rattle.bits.specs.Bits.{one}
use Rattle.packed.proofs.Packing.{put_fits, bit_byte}
use Rattle.packed.proofs.bytes.put_bit.Goals as goal

pub returns : goal.returns
returns c =
    let bytes = c.args.bytes.now in
    let p = c.args.p in
    let b = get_or bytes (p / 8) 0 in
    let byte : b < 256 = search rules in
    let high = b / 2 ^ (7 - p % 8) / 2 * 2 in
    let top : high + c.from.result ≡ high + one c.args.bit = ap (λ x. high + x) (c.from.ensures ∙ bit_byte c.args.bit) in
    ap (λ v. set bytes (p / 8) v) (put_fits b (p % 8) (high + c.from.result) c.args.bit byte (omega arith) top)
