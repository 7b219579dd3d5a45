use Rattle.std.proofs.Common.{[], ◌++◌, get_or, take, sym, ap, ◌∙◌}
use Rattle.std.specs.List.{flat_map}
use Rattle.std.proofs.lemmas.List.{take_all, take_more, flat_map_more}
use Rattle.packing.specs.Reports.{hex_byte}
use Rattle.packing.proofs.report.hex.Goals as goal

pub loop-byte-preserved : goal.loop-byte-preserved
loop-byte-preserved c =
    let bytes = c.args.bytes.now in
    let i = c.loop-byte.byte-index in
    let b = get_or bytes i 0 in
    c.in_ok-push_hex.ensures
    ∙ ap (λ t. t ++ hex_byte b) c.loop-byte.invariant
    ∙ flat_map_more hex_byte [] (take i bytes) b
    ∙ ap (flat_map hex_byte) (sym (take_more bytes i 0 c.loop-byte-test.true))

pub returns : goal.returns
returns c = c.loop-byte.invariant ∙ ap (flat_map hex_byte) (take_all _ c.args.bytes.now c.loop-byte-test.false)
