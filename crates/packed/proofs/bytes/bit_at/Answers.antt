use Rattle.std.proofs.Common.{◌≡◌, ◌+◌, ◌*◌, ◌/◌, ◌%◌, ◌<◌, length, get_or, sym, ap, ◌∙◌, arith}
use Rattle.std.specs.List.{slice_get}
use Rattle.packed.specs.Packed.{all_bits}
use Rattle.packed.proofs.Packing.{nth_all, nth_bits_of}
use Rattle.packed.proofs.bytes.bit_at.Goals as goal

pub returns : goal.returns
returns c =
    let bytes = c.args.bytes.now in
    let p = c.args.p in
    let e : p ≡ 8 * (p / 8) + p % 8 = omega arith in
    let q : p / 8 < length bytes = omega arith in
    let r : p % 8 < 8 = omega arith in
    sym (ap (λ k. slice_get (all_bits bytes) k) e ∙ nth_all bytes (p / 8) (p % 8) q r ∙ nth_bits_of 8 (get_or bytes (p / 8) 0) (p % 8) r)
