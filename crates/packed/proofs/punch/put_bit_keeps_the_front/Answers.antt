use Rattle.packed.proofs.Packing.{put_law}
use Rattle.packed.proofs.punch.put_bit_keeps_the_front.Goals as goal

pub returns : goal.returns
returns c = put_law
