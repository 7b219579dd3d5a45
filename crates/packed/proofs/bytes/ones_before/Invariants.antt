use Rattle.std.proofs.Common.{◌≡◌, ◌*◌, ◌≤◌}
use Rattle.bits.specs.Bits.{rank_of}
use Rattle.packed.specs.Packed.{all_bits}
use Rattle.packed.proofs.bytes.ones_before.Given as goal

abbrev pub invariant-loop-byte : goal.invariant-loop-byte
invariant-loop-byte l = (l.count ≡ rank_of (all_bits l.bytes) (8 * l.byte-index)) × (l.count ≤ 8 * l.byte-index)
