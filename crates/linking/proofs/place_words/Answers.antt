use Rattle.std.proofs.Common.{◌+◌, arith}
use Rattle.leaders.specs.Sheet.{spread, spine_of}
use Rattle.linking.proofs.Words.{words_more, starts_more}
use Rattle.linking.proofs.place_words.Goals as goal

pub loop-i-init : goal.loop-i-init
unfolding spread
loop-i-init c = record { few = omega arith; ready = λ b h. (λ k p q. absurd (omega arith), omega arith) }

pub loop-i-preserved : goal.loop-i-preserved
loop-i-preserved c =
    let i = c.loop-i.i in
    record {
      few = omega (arith, c.size-size.ensures.few, c.loop-i.invariant.few);
      ready = λ b h.
          let n = c.args.words.sides.n in
          let (xs, chain, e) = h.chain (i + 1) (omega arith) (omega arith) in
          let z = c.loop-i.invariant.ready b h in
          (starts_more b n i c.loop-i.at c.loop-i.starts (omega arith) z.1 z.0, omega (arith, c.size-size.ensures.chain xs chain, e, z.1, words_more (spine_of b n) i));
    }
