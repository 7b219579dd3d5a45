-- Lemmas on an iterator that has a list left: in a `for`, the items that have come, this one, and all at the end; and from the back.
use Rattle.std.proofs.Common.{◌≡◌, ◌<◌, List, [], ◌∷◌, ◌++◌, Some, None, Option, length, reverse, sym, ap, ◌∙◌, subst, arith}
use Rattle.std.specs.Iterator.{Yields, YieldsFirst, YieldsLast}
use Rattle.std.specs.Iterator.Adapters.{rev_source, rev_steps}
use Rattle.std.specs.declared.iter.Rev.{Rev}
use Rattle.std.proofs.lemmas.Iterator.{YieldsList}
use Rattle.std.proofs.lemmas.Iterator.Consumers.{YieldsList-from_shown}
use Rattle.std.proofs.lemmas.List.{append-nil, length-append, reverse-append}

module _ {S A : Type 0} (rest : S → List A) (s t : S) (xs : List A) (came : Yields (YieldsFirst rest) s xs t) where
  -- what has come, and what is left
  pub so_far : rest s ≡ xs ++ rest t
  so_far = go s xs came
    where
      go : (s : S) (xs : List A) → Yields (YieldsFirst rest) s xs t → rest s ≡ xs ++ rest t
      go s [] y = ap rest y
      go s (x ∷ xs) y = y.1 ∙ ap (λ l. x ∷ l) (go y.0 xs y.2)

  -- this item stands behind those that have come
  pub this_one : (r : Option A) (u : S) (x : A) → r ≡ Some x → YieldsFirst rest t r u → rest s ≡ xs ++ x ∷ rest u
  this_one r u x e y =
      let f : rest t ≡ x ∷ rest u = subst (λ (o : Option A). YieldsFirst rest t o u) e y in
      so_far ∙ ap (λ l. xs ++ l) f

  -- so fewer have come than there were
  pub not_all : (r : Option A) (u : S) (x : A) → r ≡ Some x → YieldsFirst rest t r u → length xs < length (rest s)
  not_all r u x e y = omega (arith, ap length (this_one r u x e y), length-append xs (x ∷ rest u))

  -- at the end all have come
  pub all_came : (r : Option A) (u : S) → r ≡ None → YieldsFirst rest t r u → xs ≡ rest s
  all_came r u e y =
      let f : (rest t ≡ []) × (rest u ≡ []) = subst (λ (o : Option A). YieldsFirst rest t o u) e y in
      sym (so_far ∙ ap (λ l. xs ++ l) f.0 ∙ append-nil xs)

-- an iterator that says so from the back gives, turned round, the list in reverse
pub backward : {S A : Type 0} (rest : S → List A) (s : Rev S) → YieldsList (rev_steps (YieldsLast rest)) (λ x. x) s (reverse (rest (rev_source s)))
backward {S} {A} rest s =
    YieldsList-from_shown (rev_steps (YieldsLast rest)) (λ x. x) (λ r. reverse (rest (rev_source r)))
    (λ r t e. ap (λ xs. length (reverse xs)) e.0)
    (λ r x t e. ap reverse e ∙ reverse-append (rest (rev_source t)) (x ∷ []))
    s
