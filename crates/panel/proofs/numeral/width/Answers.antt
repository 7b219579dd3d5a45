use Rattle.std.proofs.Common.{◌*◌, ◌+◌, ◌<◌, ◌≤◌, ◌^◌, length, arith}
use Rattle.std.specs.Int.Digits.{digits_of, number_from_digits}
use Rattle.std.proofs.lemmas.Int.Digits.{length-digits_of-le, number_lt, number_digits_of, all_below_base_digits_of}
use Rattle.std.proofs.lemmas.Grind.{pow_more}
use Rattle.std.proofs.Math.Nat.{pow-le-pow_right}
use Rattle.panel.proofs.numeral.width.Goals as goal

pub returns-in-Some : goal.returns-in-Some
returns-in-Some c =
    let k = c.in-Some.log in
    let n = c.args.n in
    let digits = digits_of 10 n in
    let low : 10 ^ k ≤ n = c.in-Some.ensures.power_le in
    let high : n < 10 * 10 ^ k = c.in-Some.ensures.next_power_gt in
    let below : number_from_digits 10 digits < 10 ^ length digits = number_lt 10 digits (all_below_base_digits_of 10 n (omega arith)) in
    let same = number_digits_of 10 n (omega arith) in
    let more : length digits ≤ k → 10 ^ length digits ≤ 10 ^ k = λ fewer. pow-le-pow_right (omega arith) fewer in
    let long : length digits ≤ k + 1 = length-digits_of-le 10 (k + 1) n (omega arith) (omega (arith, pow_more 10 k)) in
    grind arith
