use Rattle.std.proofs.Common.{◌≡◌, suc, ◌+◌, ◌-◌, refl, ◌∙◌, subst, arith}
use Rattle.rebuilding.specs.Held.{word_at}
use Rattle.rebuilding.proofs.Passing.{Passed, pass_none, pass_more, pass_all}
use Rattle.rebuilding.proofs.joining.Parts.join_all.Goals as goal

pub loop-k-init : goal.loop-k-init
loop-k-init g c =
    let i = c.args.self.now in
    let n = i.order.sides.n in
    let word = word_at (g.T.Tape.bits i.words.tape.now) i.words.starts.now n in
    record { sides = refl; words = refl; passed = λ t e held. pass_none i.order.sides.left.now i.order.sides.right.now word i.order.next.now i.ends.now (n + 1 - 1) t (omega arith) held }

pub loop-k-preserved : goal.loop-k-preserved
loop-k-preserved g c =
    let i = c.args.self.now in
    let n = i.order.sides.n in
    let left = i.order.sides.left.now in
    let right = i.order.sides.right.now in
    let word = word_at (g.T.Tape.bits i.words.tape.now) i.words.starts.now n in
    let k = c.loop-k.k in
    let now = c.loop-k.self in
    let new = c.leave.new.self in
    let v = c.loop-k.invariant in
    let l = c.leave.ensures in
    let d : n + 1 - k ≡ suc (n + 1 - (k + 1)) = omega arith in
    let s : suc k ≡ k + 1 = omega arith in
    record {
      sides = l.sides ∙ v.sides;
      words = l.words ∙ v.words;
      passed = λ t e held. subst (λ j. Passed left right word i.order.next.now i.ends.now new.order.next.now new.ends.now (n + 1 - (k + 1)) j t) s
          (pass_more left right word i.order.next.now i.ends.now now.order.next.now now.ends.now new.order.next.now new.ends.now (n + 1 - (k + 1)) k t c.loop-k.auto.k (rw d at (v.passed t e held)) (rw (v.sides, v.words) at l.leaves));
    }

pub returns-clause-ordered : goal.returns-clause-ordered
returns-clause-ordered g c t e wellformed held =
    let i = c.args.self.now in
    let n = i.order.sides.n in
    let left = i.order.sides.left.now in
    let right = i.order.sides.right.now in
    let word = word_at (g.T.Tape.bits i.words.tape.now) i.words.starts.now n in
    let k = c.loop-k.k in
    let now = c.loop-k.self in
    let new = c.leave-2.new.self in
    let v = c.loop-k.invariant in
    let d : n + 1 - k ≡ 0 = omega arith in
    pass_all left right word i.order.next.now i.ends.now now.order.next.now now.ends.now new.order.next.now new.ends.now k n t (omega arith) wellformed held (rw d at (v.passed t e held)) (rw (v.sides, v.words) at c.leave-2.ensures.leaves)
