use Rattle.std.proofs.Common.{◌≡◌, ◌++◌, map, vec_items}
use Rattle.bits.specs.Punching.{letter}
use Rattle.replies.proofs.push_letters.Given as goal

abbrev pub invariant-loop-bit : goal.invariant-loop-bit
invariant-loop-bit g l = vec_items l.out ≡ vec_items l.initial.out ++ map letter l.yielded
