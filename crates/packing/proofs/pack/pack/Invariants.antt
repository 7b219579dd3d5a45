use Rattle.std.proofs.Common.{◌≡◌, length}
use Rattle.packing.specs.Packs.{PackedInto}
use Rattle.packing.proofs.pack.pack.Given as goal

abbrev pub invariant-loop-bit : goal.invariant-loop-bit
invariant-loop-bit g l =
    PackedInto l.yielded (length l.yielded) l.initial.punch.bytes.now l.punch.bytes.now
    × (l.punch.count ≡ length l.yielded)
    × (length l.punch.bytes.now ≡ length l.initial.punch.bytes.now)
    × (l.punch.bytes.ghost_name ≡ l.initial.punch.bytes.ghost_name)
