use Rattle.std.proofs.Common.{◌≡◌, suc, ◌+◌, ◌-◌, true, false, take, drop, unwrap_or, sym, ap, ◌∙◌, arith}
use Rattle.std.specs.List.{slice_get}
use Rattle.leaders.specs.Sheet.{unary}
use Rattle.reading.proofs.Numbers.{number_none, number_more, read_zero}
use Rattle.reading.proofs.climb.number_back.Goals as goal

pub loop-p-init : goal.loop-p-init
loop-p-init g c = number_none (g.T.Tape.bits c.args.tape.now) c.args.end c.requires

pub loop-p-preserved : goal.loop-p-preserved
loop-p-preserved g c =
    let bs = g.T.Tape.bits c.args.tape.now in
    let p = c.loop-p.p in
    let v : unwrap_or (slice_get bs (p - 1)) true ≡ true = cc in
    number_more bs c.args.end p (omega arith) (omega arith) c.requires v c.loop-p.invariant

pub returns-then-not-unwrap_or : goal.returns-then-not-unwrap_or
returns-then-not-unwrap_or g c =
    let bs = g.T.Tape.bits c.args.tape.now in
    let p = c.loop-p.p in
    let s : p ≡ p - 1 + 1 = omega arith in
    let v : unwrap_or (slice_get bs (p - 1)) true ≡ false = cc in
    let zero = read_zero (slice_get bs (p - 1)) v in
    record {
      short = omega arith;
      is = record {
        is = ap (λ q. drop q (take (suc c.args.end) bs)) (sym s) ∙ c.loop-p.invariant ∙ ap (λ q. unary (c.args.end - q)) s;
        zero_before = λ h. ap (slice_get bs) (let z : p - 1 + 1 - 1 ≡ p - 1 = omega arith in z) ∙ zero;
      };
    }

pub returns : goal.returns
returns g c =
    let bs = g.T.Tape.bits c.args.tape.now in
    let z : c.loop-p.p ≡ 0 = omega arith in
    record {
      short = omega arith;
      is = record {
        is = ap (λ q. drop q (take (suc c.args.end) bs)) (sym z) ∙ c.loop-p.invariant ∙ ap (λ q. unary (c.args.end - q)) z;
        zero_before = λ h. absurd (omega arith);
      };
    }
