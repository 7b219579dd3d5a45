use Rattle.std.proofs.Common.{◌≡◌, ◌+◌, ◌-◌, length, drop, Some, None, sym, ap, ◌∙◌, arith, rules, of_calls}
use Rattle.std.proofs.lemmas.List.{take_all, length-drop}
use Rattle.std.specs.Iterator.Adapters.{enumerate_source, enumerate_count}
use Rattle.bits.specs.Bits.{bits_between}
use Rattle.leaders.specs.Verdict.{close_at}
use Rattle.reading.proofs.Checks.{close_open, close_shut, close_here, close_never, closes_none, closes_not, closes_starts}
use Rattle.reading.proofs.check.balance.Goals as goal

pub returns-in_err-get : goal.returns-in_err-get
returns-in_err-get g c =
    let n : c.from_residual.result ≡ None = search of_calls in
    n ∙ sym (closes_none (g.T.Tape.bits c.args.tape.now) (search of_calls))

pub returns-then-not-branch : goal.returns-then-not-branch
returns-then-not-branch g c = sym (closes_not (g.T.Tape.bits c.args.tape.now) c.in_ok-get.field-0 (search of_calls) c.if-not-branch.true)

pub loop-read-init : goal.loop-read-init
loop-read-init g c =
    let bs = g.T.Tape.bits c.args.tape.now in
    let it = c.into_iter-read-iterator.result in
    let src = enumerate_source it in
    let none : enumerate_count it ≡ 0 = search rules in
    let left : bits_between (g.T.Tape.bits src.tape.now) src.from src.upto ≡ bits_between bs 1 c.len.result = search rules in
    let all = ap (drop 1) (take_all c.len.result bs (omega (arith, c.len.ensures.is))) in
    (ap (λ n. close_at (n + 1) 0 (bits_between (g.T.Tape.bits src.tape.now) src.from src.upto)) none ∙ ap (close_at 1 0) (left ∙ all) ∙ closes_starts bs c.in_ok-get.field-0 (search of_calls) c.if-not-branch.false, omega arith, omega (arith, none, ap length (left ∙ all), length-drop 1 bs, c.len.ensures.is, c.len.ensures.short))

pub loop-read-preserved-then-bit : goal.loop-read-preserved-then-bit
loop-read-preserved-then-bit g c =
    let s = c.in-Some.ensures.steps in
    let read = enumerate_count c.loop-read.read-iterator in
    let src = enumerate_source c.next.new.self in
    let rest = bits_between (g.T.Tape.bits src.tape.now) src.from src.upto in (
      ap (λ n. close_at (n + 1) (c.loop-read.open + 1) rest) s.2 ∙ sym (close_open (read + 1) c.loop-read.open _ rest c.in-Some.bit s.0 c.if-bit.true) ∙ c.loop-read.invariant.0,
      omega (arith, s.2, c.loop-read.invariant.1),
      omega (arith, s.2, ap length s.0, c.loop-read.invariant.2),
    )

pub loop-read-preserved : goal.loop-read-preserved
loop-read-preserved g c =
    let s = c.in-Some.ensures.steps in
    let read = enumerate_count c.loop-read.read-iterator in
    let src = enumerate_source c.next.new.self in
    let rest = bits_between (g.T.Tape.bits src.tape.now) src.from src.upto in (
      ap (λ n. close_at (n + 1) (c.loop-read.open - 1) rest) s.2 ∙ sym (close_shut (read + 1) c.loop-read.open _ rest c.in-Some.bit s.0 c.if-bit.false (omega (arith, c.if-open-eq0.false))) ∙ c.loop-read.invariant.0,
      omega (arith, s.2, c.loop-read.invariant.1),
      omega (arith, s.2, ap length s.0, c.loop-read.invariant.2),
    )

pub returns-then-open-eq0 : goal.returns-then-open-eq0
returns-then-open-eq0 g c =
    let s = c.in-Some.ensures.steps in
    let read = enumerate_count c.loop-read.read-iterator in
    ap Some (let z : c.in-Some.read + 2 ≡ read + 1 + 1 = omega (arith, s.1) in z) ∙ sym (close_here (read + 1) c.loop-read.open _ _ c.in-Some.bit s.0 c.if-bit.false c.if-open-eq0.true) ∙ c.loop-read.invariant.0

pub returns : goal.returns
returns g c =
    let s = c.in-None.ensures.steps in
    sym (close_never (enumerate_count c.loop-read.read-iterator + 1) c.loop-read.open _ s.0.0) ∙ c.loop-read.invariant.0
