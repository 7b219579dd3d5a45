use Rattle.std.proofs.Common.{◌≡◌, List, [], ◌++◌, None, vec_items, Option}
use Rattle.commands.specs.Texts.{lines}
use Rattle.hall.specs.Halls.{hall, replies, Stands}
use Rattle.hall.specs.States.{lots_in, bits_in, terms_in}
use Rattle.hall.proofs.session.session.Given as goal

-- What is written and the replies to the lines that are left are the replies to all lines.
abbrev pub invariant-loop-line : goal.invariant-loop-line
invariant-loop-line g l =
    let t = terms_in g.K.Key.made g.K.Key.at_least g.K.Key.FIELDS l.initial.hall in
    (terms_in g.K.Key.made g.K.Key.at_least g.K.Key.FIELDS l.hall ≡ t)
    × ((shown : Option (List _)) × (Stands g.K.Key.at_least shown (bits_in l.hall) × (vec_items l.out ++ replies t (hall (lots_in l.hall) shown) (lines l.line-iterator.rest.now) ≡ replies t (hall [] None) (lines l.initial.line-iterator.rest.now))))
