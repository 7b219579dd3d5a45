use Rattle.std.proofs.Common.{◌≡◌, [], ◌∷◌, ◌++◌, map, vec_items, sym, refl, ap, ◌∙◌, rules}
use Rattle.std.proofs.lemmas.List.{append_assoc, map_push}
use Rattle.std.proofs.lemmas.Slice.{pushed}
use Rattle.bits.specs.Bits.{bits_between}
use Rattle.bits.specs.Punching.{letter}
use Rattle.bits.proofs.Going.{all_came}
use Rattle.replies.proofs.push_letters.Goals as goal

pub loop-bit-preserved : goal.loop-bit-preserved
loop-bit-preserved g c =
    let before = vec_items c.args.out.now in
    let xs = c.loop-bit.yielded in
    pushed (c.letter_of.result ∷ []) refl c.in_ok-push.was c.push.ensures.items
    ∙ ap (λ z. z ++ c.letter_of.result ∷ []) c.loop-bit.invariant
    ∙ append_assoc before (map letter xs) (c.letter_of.result ∷ [])
    ∙ ap (λ x. before ++ (map letter xs ++ x ∷ [])) c.letter_of.ensures
    ∙ ap (λ z. before ++ z) (sym (map_push letter xs c.in-Some.bit))

pub returns : goal.returns
returns g c =
    let it = c.into_iter-bit-iterator.result in
    let all : bits_between (g.T.Tape.bits it.tape.now) it.from it.upto ≡ g.T.Tape.bits c.args.tape.now = search rules in
    let came = all_came (λ s. bits_between (g.T.Tape.bits s.tape.now) s.from s.upto) it c.loop-bit.bit-iterator c.loop-bit.yielded c.loop-bit.yielded_by c.next.result c.next.new.self c.in-None.is c.next.ensures.steps ∙ all in
    c.loop-bit.invariant ∙ ap (λ xs. vec_items c.args.out.now ++ map letter xs) came
