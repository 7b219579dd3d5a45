use Rattle.std.proofs.Common.{◌≡◌, true, false, ◌⊎◌, get_or, ap, inl, inr, arith}
use Rattle.casting.proofs.Puts.{all_added, word_more, merge_length, merge_end}
use Rattle.casting.proofs.writing.Sheet.punch_word.Goals as goal
use Rattle.casting.proofs.writing.Sheet.punch_word.Goals.{then-bit, else-bit}

pub loop-preserved : goal.loop-preserved
loop-preserved g c =
    let P = g.P.Punch in
    let b = g.L.Lots.order c.args.self.now.lots.now in
    let s = c.args.self.now.words.sides in
    let at = c.loop.at in
    let now = c.if-bit.at in
    let a = c.append.ensures in
    let way : ((c.turns-bit.result ≡ true) × (now.lower ≡ at.lower) × (now.upper ≡ get_or s.left.now at.upper 0)) ⊎ ((c.turns-bit.result ≡ false) × (now.lower ≡ get_or s.right.now at.lower 0) × (now.upper ≡ at.upper)) =
    elim c.if-bit.branch [ then-bit w ↦ inl (w.if-bit.true, ap (λ z. z.lower) w.at-is, ap (λ z. z.upper) w.at-is) | else-bit w ↦ inr (w.if-bit.false, ap (λ z. z.lower) w.at-is, ap (λ z. z.upper) w.at-is) ] in (
      elim way [ inl h ↦ omega (arith, h.1, c.loop.invariant.0) | inr h ↦ omega (arith, h.1, s.rights at.lower c.loop.invariant.0) ],
      elim way [ inl h ↦ omega (arith, h.2, s.lefts at.upper c.loop.invariant.1) | inr h ↦ omega (arith, h.2, c.loop.invariant.1) ],
      word_more P.written P.room P.home c.append.new.self c.append.result b s.left.now s.right.now c.turns-bit.result c.args.size c.loop.counter at.lower at.upper now.lower now.upper
          (omega (arith, c.requires.room, merge_length b s.left.now s.right.now c.args.size c.args.from.lower c.args.from.upper)) c.loop-test.true c.turns-bit.ensures way c.loop.invariant.2 a.bits a.room a.home,
    )

pub returns : goal.returns
returns g c =
    let P = g.P.Punch in
    let e = merge_end (g.L.Lots.order c.args.self.now.lots.now) c.args.self.now.words.sides.left.now c.args.self.now.words.sides.right.now c.args.size c.loop.counter c.loop.at.lower c.loop.at.upper c.loop-test.false in
    all_added P.written P.room P.home (rw e at c.loop.invariant.2)
