use Rattle.std.proofs.Common.{◌+◌, set, ap, ◌∙◌, arith}
use Rattle.bits.specs.Punching.{letters}
use Rattle.bits.proofs.Letters.{lettered_push}
use Rattle.bits.proofs.punch.LettersCells.put_bit.Goals as goal

pub returns-clause-added : goal.returns-clause-added
returns-clause-added c =
    let text = c.args.bytes.now in
    let p = c.args.p in
    ap (λ x. letters (set text p x) (p + 1)) c.letter_of.ensures ∙ lettered_push text p c.args.bit (omega arith) (omega arith)
