use Rattle.std.specs.Cmp.{unsigned_Decides, booleans_Decides}
use mathlib.Core.Bool.{beq}
use lib.Dec.{eqb}
use Rattle.std.proofs.Common.{◌≡◌, Decides, sym, ◌∙◌}
use Rattle.bits.specs.Bits.{bit_at, rank_of}
use Rattle.bits.specs.Laws.{Agrees}
use Rattle.bits.proofs.Bitlists.{options_same, selects_agree, same_agrees}
use Rattle.bits.proofs.tape.agree_at.Goals as goal

pub returns-then-ranks : goal.returns-then-ranks
returns-then-ranks g c =
    let xs = g.S.Tape.bits c.args.s.now in
    let ys = g.T.Tape.bits c.args.t.now in
    let p = c.args.p in
    let len = sym c.len.ensures.is ∙ c.if-ranks.true.0 ∙ c.len-2.ensures.is in
    let bit : c.get.result ≡ c.get-2.result = (options_same beq booleans_Decides c.get.result c.get-2.result c.eq-bits.result c.eq-bits.ensures).0 c.if-ranks.true.1 in
    let get : bit_at xs p ≡ bit_at ys p = sym c.get.ensures ∙ bit ∙ c.get-2.ensures in
    let rank : rank_of xs p ≡ rank_of ys p = sym c.rank.ensures ∙ c.if-ranks.true.2 ∙ c.rank-2.ensures in
    let told : Decides c.eq-places.result (Agrees xs ys p) =
    selects_agree xs ys p c.select.result c.select-2.result c.eq-places.result len get rank c.select.ensures c.select-2.ensures
    (options_same eqb unsigned_Decides c.select.result c.select-2.result c.eq-places.result c.eq-places.ensures) in
    record { told = told; same = λ e. told.1 (same_agrees xs ys p e) }
