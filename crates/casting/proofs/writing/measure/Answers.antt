use Rattle.std.proofs.Common.{◌≡◌, ℕ, ◌+◌, ◌-◌, Bool, List, length, ap, ◌∙◌, inl, inr, arith, length-append, get_or-set_other, get_or-set_same}
use Rattle.std.proofs.lemmas.Bool.{cases_eq}
use Rattle.leaders.specs.Sheet.{spread, spine_of}
use Rattle.links.proofs.Loops.{spread_step, spread_end}
use Rattle.casting.proofs.writing.measure.Goals as goal

pub loop-k-preserved : goal.loop-k-preserved
loop-k-preserved c =
    let n = c.args.words.sides.n in
    let k = c.loop-k.k in
    record {
      few = omega (arith, c.size-size.ensures.few, c.args.words.sides.few, c.loop-k.invariant.few);
      ready = λ b h.
          let f : ℕ → List Bool = spine_of b n in
          let i = c.loop-k.invariant.ready b h in
          let (xs, chain, long) = h.chain k c.loop-k.auto.k (omega arith) in
          let size-is : c.size-size.result ≡ length (f k) = c.size-size.ensures.chain xs chain ∙ long in (
            λ m p q. elim (cases_eq m k) [
              | inl z ↦ (rw z (get_or-set_same c.loop-k.sizes k c.size-size.result 0 (omega (arith, c.loop-k.auto.sizes, c.requires)) ∙ size-is))
              | inr z ↦ get_or-set_other c.loop-k.sizes k m c.size-size.result 0 z ∙ i.0 m p (omega arith)
            ],
            omega (arith, size-is, ap length (spread_step f (n + 1) k c.loop-k-test.true), length-append (f k) (spread f (k + 1) (n + 1 - (k + 1))), i.1),
          );
    }

pub returns : goal.returns
returns c b h =
    let n = c.args.words.sides.n in
    let i = c.loop-k.invariant.ready b h in
    (λ k p q. i.0 k p (omega arith), omega (arith, i.1, ap length (spread_end (spine_of b n) (n + 1) c.loop-k.k c.loop-k-test.false)))
