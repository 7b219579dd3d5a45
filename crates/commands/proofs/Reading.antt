-- Digit by digit to a number, and field by field to a list of numbers.
use Rattle.std.proofs.Common.{◌≡◌, ℕ, ◌+◌, ◌<◌, ◌≤◌, true, List, [], ◌∷◌, ◌++◌, length, get_or, take, drop, set, Some, None, Option, sym, refl, ap, ◌∙◌, arith}
use Rattle.std.specs.Option.{option_map}
use Rattle.std.proofs.lemmas.List.{at_drop_more, at_drop_all, take_all, take_more_set, append_assoc, length-append, length-take-le}
use Rattle.std.proofs.lemmas.Bool.{cond-true, cond-false, le-leb, lt-leb}
use Rattle.commands.specs.Texts.{place, fields}
use Rattle.commands.specs.Numbers.{begun_well, one_digit_on, read_on, number_of, joined_to, numbers_in, up_to_five}
use Rattle.commands.proofs.Parting.{part_at, part_whole, field_first}

-- one byte more, and the end
module _ (text : List ℕ) (n i : ℕ) (inv : read_on (Some n) (drop i text) ≡ read_on (Some 0) text) where
  pub digit_more : (o : Option ℕ) → i < length text → o ≡ one_digit_on n (get_or text i 0) → read_on o (drop (i + 1) text) ≡ read_on (Some 0) text
  unfolding read_on
  digit_more o h e = ap (λ z. read_on z (drop (i + 1) text)) e ∙ sym (at_drop_more (read_on (Some n)) text i 0 h) ∙ inv

  pub digit_none : begun_well text ≡ true → i < length text → None ≡ one_digit_on n (get_or text i 0) → None ≡ number_of text
  unfolding read_on
  digit_none w h e = digit_more None h e ∙ sym (cond-true _ _ _ w)

  pub digit_all : begun_well text ≡ true → length text ≤ i → Some n ≡ number_of text
  unfolding read_on
  digit_all w h = sym (at_drop_all (read_on (Some n)) text i h) ∙ inv ∙ sym (cond-true _ _ _ w)

-- numbers before others, where there are such
abbrev pub onto : List ℕ → Option (List ℕ) → Option (List ℕ)
onto ns o = option_map (λ ms. ns ++ ms) o

onto_more : (vs : List ℕ) (at n : ℕ) → at < length vs → (o : Option (List ℕ)) → onto (take (at + 1) (set vs at n)) o ≡ onto (take at vs) (joined_to (Some n) o)
onto_more vs at n h None = refl
onto_more vs at n h (Some ms) = ap Some (ap (λ z. z ++ ms) (take_more_set vs at n h) ∙ append_assoc (take at vs) (n ∷ []) ms)

over : (ns : List ℕ) → 5 ≤ length ns → (o : Option ℕ) (p : Option (List ℕ)) → up_to_five (onto ns (joined_to o p)) ≡ None
over ns h None p = refl
over ns h (Some n) None = refl
over ns h (Some n) (Some ms) = cond-false _ _ _ (lt-leb (length (ns ++ n ∷ ms)) 5 (simp length-append (omega arith)))

-- one field more of the numbers of a text: `vs` has the numbers so far, `rest` is what is left of the text
module _ (text rest vs : List ℕ) (at : ℕ) (five : length vs ≡ 5) (inv : onto (take at vs) (numbers_in (fields rest)) ≡ numbers_in (fields text)) where
  pub fields_over : 5 ≤ at → None ≡ up_to_five (numbers_in (fields text))
  unfolding numbers_in
  fields_over h =
      let (more, e) = field_first rest (place rest 44) refl in
      let len : length (take at vs) ≡ 5 = ap length (take_all at vs (omega arith)) ∙ five in
      sym (ap up_to_five (sym inv ∙ ap (λ z. onto (take at vs) (numbers_in z)) e) ∙ over (take at vs) (omega arith) (number_of (take (place rest 44) rest)) (numbers_in more))

  module _ (end : ℕ) (part : List ℕ) (found : end ≡ place rest 44) (cut : part ≡ take end rest) where
    pub field_none : None ≡ number_of part → None ≡ up_to_five (numbers_in (fields text))
    unfolding numbers_in
    field_none bad =
        let (more, e) = field_first rest end found in
        let none : None ≡ number_of (take end rest) = bad ∙ ap number_of cut in
        let nothing : numbers_in (fields rest) ≡ None = ap numbers_in e ∙ ap (λ o. joined_to o (numbers_in more)) (sym none) in
        sym (ap up_to_five (sym inv ∙ ap (onto (take at vs)) nothing))

    module _ (n : ℕ) (ws : List ℕ) (read : Some n ≡ number_of part) (put : ws ≡ set vs at n) (low : at < 5) where
      pub field_more : (next : List ℕ) → end < length rest → next ≡ drop (end + 1) rest → onto (take (at + 1) ws) (numbers_in (fields next)) ≡ numbers_in (fields text)
      unfolding numbers_in
      field_more next h q =
          let here : number_of (take (place rest 44) rest) ≡ Some n = ap (λ k. number_of (take k rest)) (sym found) ∙ ap number_of (sym cut) ∙ sym read in
          let behind : drop (place rest 44 + 1) rest ≡ next = ap (λ k. drop (k + 1) rest) (sym found) ∙ sym q in
          let whole : numbers_in (fields rest) ≡ joined_to (Some n) (numbers_in (fields next)) =
          ap numbers_in (part_at ([] ∷ []) 44 rest (omega arith)) ∙ ap (λ o. joined_to o (numbers_in (fields (drop (place rest 44 + 1) rest)))) here ∙ ap (λ z. joined_to (Some n) (numbers_in (fields z))) behind in
          ap (λ z. onto (take (at + 1) z) (numbers_in (fields next))) put ∙ onto_more vs at n (omega arith) (numbers_in (fields next)) ∙ ap (onto (take at vs)) (sym whole) ∙ inv

      pub field_last : (ns : List ℕ) → length rest ≤ end → ns ≡ take 5 (take (at + 1) ws) → Some ns ≡ up_to_five (numbers_in (fields text))
      unfolding numbers_in
      field_last ns h q =
          let here : number_of rest ≡ Some n = ap number_of (sym (take_all end rest h)) ∙ ap number_of (sym cut) ∙ sym read in
          let whole : numbers_in (fields rest) ≡ Some (n ∷ []) = ap numbers_in (part_whole 44 rest (omega arith)) ∙ ap (λ o. joined_to o (Some [])) here in
          let all : numbers_in (fields text) ≡ Some (take at vs ++ n ∷ []) = sym inv ∙ ap (onto (take at vs)) whole in
          let grown : take (at + 1) ws ≡ take at vs ++ n ∷ [] = ap (take (at + 1)) put ∙ take_more_set vs at n (omega arith) in
          let len : length (take at vs ++ n ∷ []) ≤ 5 = simp length-append (omega (arith, length-take-le at vs (omega arith))) in
          let is : ns ≡ take at vs ++ n ∷ [] = q ∙ ap (take 5) grown ∙ take_all 5 _ len in
          ap Some is ∙ sym (ap up_to_five all ∙ cond-true _ _ _ (le-leb (length (take at vs ++ n ∷ [])) 5 len))
