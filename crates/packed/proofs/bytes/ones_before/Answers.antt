use Rattle.std.proofs.Common.{◌≡◌, ◌-◌, ◌*◌, ◌/◌, ◌%◌, ◌<◌, length, get_or, ap, ◌∙◌, arith}
use lib.Count as count
use Rattle.std.proofs.lemmas.List.{get_or-take}
use Rattle.bits.specs.Bits.{rank_of}
use Rattle.packed.specs.Packed.{all_bits}
use Rattle.packed.proofs.Packing.{rank_whole, rank_part, ones_byte, ones_whole}
use Rattle.packed.proofs.bytes.ones_before.Goals as goal

pub overflow_cast-count : goal.overflow_cast-count
overflow_cast-count c = omega (arith, ones_whole (get_or c.args.bytes.now c.loop-byte.byte-index 0) (c.type_inv.bytes c.loop-byte.byte-index).fits)

pub overflow_add-count : goal.overflow_add-count
overflow_add-count c = omega (arith, ones_whole (get_or c.args.bytes.now c.loop-byte.byte-index 0) (c.type_inv.bytes c.loop-byte.byte-index).fits)

pub loop-byte-preserved : goal.loop-byte-preserved
loop-byte-preserved c =
    let bytes = c.args.bytes.now in
    let i = c.loop-byte.byte-index in
    let l : i < length bytes = omega arith in
    let e = ap count.ones (get_or-take (c.args.end / 8 - 0) bytes i 0 (omega arith)) in (
      omega (arith, e, rank_whole bytes i l (c.type_inv.bytes i).fits),
      omega (arith, e, ones_whole (get_or bytes i 0) (c.type_inv.bytes i).fits),
    )

pub overflow_cast-count-then-rest-gt0-2 : goal.overflow_cast-count-then-rest-gt0-2
overflow_cast-count-then-rest-gt0-2 c =
    let n = c.args.end in
    omega (arith, ones_byte (get_or c.args.bytes.now (n / 8) 0) (8 - n % 8) (c.type_inv.bytes (n / 8)).fits)

pub overflow_add-count-then-rest-gt0 : goal.overflow_add-count-then-rest-gt0
overflow_add-count-then-rest-gt0 c =
    let n = c.args.end in
    omega (arith, ones_byte (get_or c.args.bytes.now (n / 8) 0) (8 - n % 8) (c.type_inv.bytes (n / 8)).fits)

pub returns-then-rest-gt0 : goal.returns-then-rest-gt0
returns-then-rest-gt0 c =
    let bytes = c.args.bytes.now in
    let n = c.args.end in
    let l : n / 8 < length bytes = omega arith in
    let e : c.loop-byte.byte-index ≡ n / 8 = omega arith in
    let f : c.loop-byte.count ≡ rank_of (all_bits bytes) (8 * (n / 8)) = c.loop-byte.invariant.0 ∙ ap (λ k. rank_of (all_bits bytes) (8 * k)) e in
    omega (arith, f, rank_part bytes n l (c.type_inv.bytes (n / 8)).fits)
