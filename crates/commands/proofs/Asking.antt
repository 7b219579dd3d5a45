-- From the fields of a line to its letter and numbers.
use Rattle.std.proofs.Common.{◌≡◌, ℕ, ◌<◌, ◌≤◌, Bool, true, false, cond, eqb, leb, List, [], ◌∷◌, length, Some, None, Option, sym, refl, ap, ap₂, ◌∙◌, ⊎_elim, arith}
use Rattle.std.proofs.lemmas.Bool.{cond-true, cond-false, ne_eqb, le-leb, cases_lt}
use Rattle.commands.specs.Texts.{place, fields, Cut}
use Rattle.commands.specs.Numbers.{numbers_in, up_to_five}
use Rattle.commands.specs.Asked.{Asked, strike_by, new_key_by, cast_by, page_by, asked_by, asked_with, lettered_by, asked_in, asked_of}
use Rattle.commands.proofs.Parting.{part_at, part_whole}

module _ (arity : ℕ) (few : arity ≤ 4) where
  -- no command has more than five numbers
  strike_many : (ns : List ℕ) → 5 < length ns → strike_by ns ≡ None
  strike_many [] h = absurd (omega arith)
  strike_many (a ∷ []) h = absurd (omega arith)
  strike_many (a ∷ b ∷ ns) h = refl

  new_key_many : (ns : List ℕ) → 5 < length ns → new_key_by arity ns ≡ None
  new_key_many [] h = refl
  new_key_many (a ∷ ns) h = cond-false _ _ _ (ne_eqb (length ns) arity (λ e. omega arith))

  cast_many : (ns : List ℕ) → 5 < length ns → cast_by ns ≡ None
  cast_many [] h = absurd (omega arith)
  cast_many (a ∷ ns) h = refl

  page_many : (ns : List ℕ) → 5 < length ns → page_by ns ≡ None
  page_many [] h = absurd (omega arith)
  page_many (a ∷ []) h = absurd (omega arith)
  page_many (a ∷ b ∷ []) h = absurd (omega arith)
  page_many (a ∷ b ∷ c ∷ ns) h = refl

  neither : (t : Bool) (x y : Option Asked) → x ≡ None → y ≡ None → cond t x y ≡ None
  neither true x y e f = e
  neither false x y e f = f

  asked_many : (letter : ℕ) (ns : List ℕ) → 5 < length ns → asked_by arity letter ns ≡ None
  asked_many letter ns h =
      neither (eqb letter 97) _ _ (cond-false _ _ _ (ne_eqb (length ns) arity (λ e. omega arith)))
      (neither (eqb letter 115) _ _ (strike_many ns h)
      (neither (eqb letter 114) _ _ (new_key_many ns h)
      (neither (eqb letter 99) _ _ (cast_many ns h)
      (neither (eqb letter 112) _ _ (page_many ns h) refl))))

  five_none : (letter : ℕ) (o : Option (List ℕ)) → None ≡ up_to_five o → asked_with arity letter o ≡ None
  five_none letter None e = refl
  five_none letter (Some ns) e =
      ⊎_elim
      (λ h. asked_many letter ns h)
      (λ h. absurd (let f : None ≡ Some ns = e ∙ cond-true _ _ _ (le-leb (length ns) 5 h) in let z : ◌≡◌ {A = ℕ} 0 1 = cc in omega arith))
      (cases_lt 5 (length ns))

  some_cond : (t : Bool) (ns ms : List ℕ) → Some ns ≡ cond t (Some ms) None → ms ≡ ns
  some_cond true ns ms e = cc
  some_cond false ns ms e = absurd (let z : ◌≡◌ {A = ℕ} 0 1 = cc in omega arith)

  five_some : (o : Option (List ℕ)) (ns : List ℕ) → Some ns ≡ up_to_five o → o ≡ Some ns
  five_some None ns e = absurd (let z : ◌≡◌ {A = ℕ} 0 1 = cc in omega arith)
  five_some (Some ms) ns e = ap Some (some_cond (leb (length ms) 5) ns ms e)

  -- a first field alone, before fields that write no numbers, and before some that do
  alone : (head : List ℕ) → asked_in arity (head ∷ []) ≡ lettered_by arity head []
  unfolding numbers_in
  alone [] = refl
  alone (a ∷ []) = refl
  alone (a ∷ b ∷ bs) = refl

  bad : (head : List ℕ) (more : List (List ℕ)) → None ≡ up_to_five (numbers_in more) → asked_in arity (head ∷ more) ≡ None
  bad [] more e = refl
  bad (a ∷ []) more e = five_none a (numbers_in more) e
  bad (a ∷ b ∷ bs) more e = refl

  good : (head : List ℕ) (more : List (List ℕ)) (ns : List ℕ) → Some ns ≡ up_to_five (numbers_in more) → asked_in arity (head ∷ more) ≡ lettered_by arity head ns
  good [] more ns e = refl
  good (a ∷ []) more ns e = ap (asked_with arity a) (five_some (numbers_in more) ns e)
  good (a ∷ b ∷ bs) more ns e = refl

  module _ (line : List ℕ) (short : length line ≤ 64) where
    in_fields : (head : List ℕ) (more : List (List ℕ)) → fields line ≡ head ∷ more → asked_of arity line ≡ asked_in arity (head ∷ more)
    in_fields head more e = cond-true _ _ _ (le-leb (length line) 64 short) ∙ ap (asked_in arity) e

    pub letter_alone : length line ≤ place line 44 → lettered_by arity line [] ≡ asked_of arity line
    letter_alone h = sym (in_fields line [] (part_whole 44 line h) ∙ alone line)

    module _ (head rest : List ℕ) (cut : Cut line 44 head rest) where
      parts : fields line ≡ head ∷ fields rest
      parts = part_at ([] ∷ []) 44 line cut.there ∙ ap₂ (λ x y. x ∷ fields y) (sym cut.before_is) (sym cut.behind_is)

      pub letter_bad : None ≡ up_to_five (numbers_in (fields rest)) → None ≡ asked_of arity line
      letter_bad e = sym (in_fields head (fields rest) parts ∙ bad head (fields rest) e)

      pub letter_good : (ns : List ℕ) → Some ns ≡ up_to_five (numbers_in (fields rest)) → lettered_by arity head ns ≡ asked_of arity line
      letter_good ns e = sym (in_fields head (fields rest) parts ∙ good head (fields rest) ns e)
