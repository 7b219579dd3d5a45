use Rattle.std.proofs.Common.{not, sym, ◌∙◌}
use Rattle.std.proofs.lemmas.List.{length-map}
use Rattle.bits.proofs.views.FlippedTape.len.Goals as goal

pub returns : goal.returns
returns g c = record { is = c.len.ensures.is ∙ sym (length-map _ not); short = c.len.ensures.short }
