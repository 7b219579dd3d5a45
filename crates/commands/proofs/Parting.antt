-- Where a byte stands first in a text, and how the text is parted there.
use Rattle.std.proofs.Common.{◌≡◌, ℕ, suc, ◌+◌, ◌<◌, ◌≤◌, Bool, true, false, cond, not, eqb, ltb, List, [], ◌∷◌, length, take, drop, Some, None, Option, unwrap_or, sym, refl, ap, ◌∙◌, ap₂, ⊎_elim, arith}
use Rattle.std.proofs.lemmas.List.{drop_all, length-drop, take_all}
use Rattle.std.specs.List.{position, position_or_len}
use Rattle.std.proofs.lemmas.Bool.{cases_lt, cond-true, cond-false, lt-ltb, le-ltb}
use Rattle.commands.specs.Texts.{in_front, parted, lines, fields, place, Cut, FirstLine}

step : (t : Bool) (p q : ℕ) → p ≡ q → cond (not t) (1 + p) 0 ≡ cond t 0 (suc q)
step true p q e = refl
step false p q e = omega arith

within : (p n q at : ℕ) → p ≡ q → Some at ≡ cond (ltb p n) (Some p) None → (at ≡ q) × (at < n)
within p n q at e is =
    ⊎_elim
    (λ h. let same : Some at ≡ Some p = is ∙ cond-true (ltb p n) (Some p) None (lt-ltb p n h) in let here : at ≡ p = cc in (omega arith, omega arith))
    (λ h. absurd (let none : Some at ≡ None = is ∙ cond-false (ltb p n) (Some p) None (le-ltb p n h) in cc))
    (cases_lt p n)

past : (p n q : ℕ) → p ≡ q → None ≡ cond (ltb p n) (Some p) None → n ≤ q
past p n q e is =
    ⊎_elim
    (λ h. absurd (let some : None ≡ Some p = is ∙ cond-true (ltb p n) (Some p) None (lt-ltb p n h) in cc))
    (λ h. omega arith)
    (cases_lt p n)

place_is : (text : List ℕ) (mark : ℕ) → position_or_len (λ b. eqb b mark) text ≡ place text mark
unfolding place
place_is [] mark = refl
place_is (b ∷ bs) mark = step (eqb b mark) (position_or_len (λ c. eqb c mark) bs) (place bs mark) (place_is bs mark)

-- a place that is found, and none
place_found : (text : List ℕ) (mark at : ℕ) → Some at ≡ position (λ b. eqb b mark) text → (at ≡ place text mark) × (at < length text)
place_found text mark at e = within (position_or_len (λ b. eqb b mark) text) (length text) (place text mark) at (place_is text mark) e

pub place_none : (text : List ℕ) (mark : ℕ) → None ≡ position (λ b. eqb b mark) text → length text ≤ place text mark
place_none text mark e = past (position_or_len (λ b. eqb b mark) text) (length text) (place text mark) (place_is text mark) e

most : (t : Bool) (q n : ℕ) → q ≤ n → cond t 0 (suc q) ≤ suc n
most true q n h = omega arith
most false q n h = omega arith

place_most : (text : List ℕ) (mark : ℕ) → place text mark ≤ length text
unfolding place
place_most [] mark = omega arith
place_most (b ∷ bs) mark = most (eqb b mark) (place bs mark) (length bs) (place_most bs mark)

pub place_or_all : (text : List ℕ) (mark : ℕ) (o : Option ℕ) → o ≡ position (λ b. eqb b mark) text → (unwrap_or o (length text) ≤ length text) × (unwrap_or o (length text) ≡ place text mark)
place_or_all text mark None e = (omega arith, omega (arith, place_most text mark, place_none text mark e))
place_or_all text mark (Some at) e = let (here, there) = place_found text mark at e in (omega (arith, there), here)

pub cut_at : (text : List ℕ) (mark at : ℕ) (before behind : List ℕ) → before ≡ take at text → Some at ≡ position (λ b. eqb b mark) text → behind ≡ drop (at + 1) text → Cut text mark before behind
cut_at text mark at before behind is-before found is-behind =
    let (here, there) = place_found text mark at found in
    record { there = omega arith; before_is = is-before ∙ ap (λ k. take k text) here; behind_is = is-behind ∙ ap (λ k. drop (k + 1) text) here }

module _ (none : List (List ℕ)) (mark : ℕ) where
  -- a byte more in front, which is the mark or is not
  part_step : (b : ℕ) (bs : List ℕ) (t : Bool) → (place bs mark < length bs → parted none mark bs ≡ take (place bs mark) bs ∷ parted none mark (drop (place bs mark + 1) bs)) → cond t 0 (suc (place bs mark)) < suc (length bs) →
      cond t ([] ∷ parted none mark bs) (in_front b (parted none mark bs)) ≡ take (cond t 0 (suc (place bs mark))) (b ∷ bs) ∷ parted none mark (drop (cond t 0 (suc (place bs mark)) + 1) (b ∷ bs))
  part_step b bs true ih h = refl
  part_step b bs false ih h =
      let p = place bs mark in
      let s : suc p + 1 ≡ suc (p + 1) = omega arith in
      let d : drop (suc p + 1) (b ∷ bs) ≡ drop (p + 1) bs = ap (λ k. drop k (b ∷ bs)) s in
      ap (in_front b) (ih (omega arith)) ∙ ap (λ z. (b ∷ take p bs) ∷ parted none mark z) (sym d)

  -- the first part ends at the mark
  pub part_at : (text : List ℕ) → place text mark < length text → parted none mark text ≡ take (place text mark) text ∷ parted none mark (drop (place text mark + 1) text)
  unfolding place parted
  part_at [] h = absurd (omega arith)
  part_at (b ∷ bs) h = part_step b bs (eqb b mark) (part_at bs) h

-- where the mark is not there, a line is one field
whole_step : (mark b : ℕ) (bs : List ℕ) (t : Bool) → (length bs ≤ place bs mark → parted ([] ∷ []) mark bs ≡ bs ∷ []) → suc (length bs) ≤ cond t 0 (suc (place bs mark)) →
    cond t ([] ∷ parted ([] ∷ []) mark bs) (in_front b (parted ([] ∷ []) mark bs)) ≡ (b ∷ bs) ∷ []
whole_step mark b bs true ih h = absurd (omega arith)
whole_step mark b bs false ih h = ap (in_front b) (ih (omega arith))

pub part_whole : (mark : ℕ) (text : List ℕ) → length text ≤ place text mark → parted ([] ∷ []) mark text ≡ text ∷ []
unfolding place parted
part_whole mark [] h = refl
part_whole mark (b ∷ bs) h = whole_step mark b bs (eqb b mark) (part_whole mark bs) h

-- where the line feed is not there, a text that is not empty is one line
last_one : (b : ℕ) (t : Bool) → 1 ≤ cond t 0 1 → cond t ([] ∷ []) (in_front b []) ≡ (b ∷ []) ∷ []
last_one b true h = absurd (omega arith)
last_one b false h = refl

last_step : (mark b : ℕ) (bs : List ℕ) (t : Bool) → (length bs ≤ place bs mark → parted [] mark bs ≡ bs ∷ []) → suc (length bs) ≤ cond t 0 (suc (place bs mark)) →
    cond t ([] ∷ parted [] mark bs) (in_front b (parted [] mark bs)) ≡ (b ∷ bs) ∷ []
last_step mark b bs true ih h = absurd (omega arith)
last_step mark b bs false ih h = ap (in_front b) (ih (omega arith))

pub part_last : (mark : ℕ) (text : List ℕ) → 0 < length text → length text ≤ place text mark → parted [] mark text ≡ text ∷ []
unfolding place parted
part_last mark [] some h = absurd (omega arith)
part_last mark (b ∷ []) some h = last_one b (eqb b mark) h
part_last mark (b ∷ c ∷ bs) some h = last_step mark b (c ∷ bs) (eqb b mark) (part_last mark (c ∷ bs) (omega arith)) h

-- the first line, with a line feed and without
pub line_found : (text bytes rest : List ℕ) → Cut text 10 bytes rest → FirstLine text bytes rest
line_found text bytes rest cut =
    record {
      bytes_are = cut.before_is;
      rest_is = cut.behind_is;
      lines_are = part_at [] 10 text cut.there ∙ ap₂ (λ x y. x ∷ lines y) (sym cut.before_is) (sym cut.behind_is);
      shorter = omega (arith, cut.there, ap length cut.behind_is, length-drop (place text 10 + 1) text);
    }

pub no_lines : (rest : List ℕ) → rest ≡ [] → lines rest ≡ []
unfolding parted
no_lines rest e = ap lines e

pub line_last : (text rest : List ℕ) → length text ≤ place text 10 → 0 < length text → rest ≡ [] → FirstLine text text rest
line_last text rest h some none =
    record {
      bytes_are = sym (take_all (place text 10) text h);
      rest_is = none ∙ sym (drop_all (place text 10 + 1) text (omega arith));
      lines_are = part_last 10 text some h ∙ ap (λ z. text ∷ z) (sym (no_lines rest none));
      shorter = omega (arith, ap length none);
    }

-- every line has a first field, which ends at the first comma or with the line
pub field_first : (line : List ℕ) (end : ℕ) → end ≡ place line 44 → (more : List (List ℕ)) × (fields line ≡ take end line ∷ more)
field_first line end e =
    ⊎_elim
    (λ h. (fields (drop (place line 44 + 1) line), part_at ([] ∷ []) 44 line h ∙ ap (λ k. take k line ∷ fields (drop (place line 44 + 1) line)) (sym e)))
    (λ h. ([], part_whole 44 line h ∙ ap (λ z. z ∷ []) (sym (take_all end line (omega arith)))))
    (cases_lt (place line 44) (length line))
