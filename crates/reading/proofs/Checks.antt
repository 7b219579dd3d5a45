-- The steps of the checker's loops.
use Rattle.std.proofs.Common.{◌≡◌, ℕ, zero, suc, ◌+◌, ◌-◌, ◌<◌, ◌≤◌, Bool, true, false, ltb, eqb, List, [], ◌∷◌, length, get_or, take, drop, set, Some, None, Option, sym, refl, ap, ◌∙◌, arith, drop-drop}
use Rattle.std.specs.List.{slice_get}
use Rattle.std.specs.Bool.{then_some}
use Rattle.std.specs.Option.{option_or}
use Rattle.reading.specs.Lots.{lot_number, is_lot}
use Rattle.std.proofs.lemmas.Bool.{lt-ltb, le-ltb, ne_eqb}
use Rattle.bits.specs.Bits.{ones, rank_of}
use Rattle.bits.proofs.Bitlists.{rank_past, ones_le_length}
use Rattle.std.proofs.lemmas.List.{drop_all, drop-set, length-set}
use Rattle.leaders.specs.Verdict.{falses, trues, close_at, closes, spent, taken, has_too_many, lowest, walk, walked}
use Rattle.leaders.proofs.Lengths.{word_length}
use Rattle.leaders.proofs.Verdicts.{close_bound, walk_zero}

-- `balance`

module _ (p o : ℕ) (bs rest : List Bool) (b : Bool) (first : bs ≡ b ∷ rest) where
  pub close_open : b ≡ true → close_at p o bs ≡ close_at (p + 1) (o + 1) rest
  unfolding close_at
  close_open t =
      ap (close_at p o) (first ∙ ap (λ c. c ∷ rest) t) ∙ ap (λ z. close_at z (suc o) rest) (let z : suc p ≡ p + 1 = omega arith in z)
      ∙ ap (λ z. close_at (p + 1) z rest) (let z : suc o ≡ o + 1 = omega arith in z)

  pub close_here : b ≡ false → o ≡ 0 → close_at p o bs ≡ Some (p + 1)
  unfolding close_at
  close_here t z = ap (λ n. close_at p n bs) z ∙ ap (close_at p 0) (first ∙ ap (λ c. c ∷ rest) t) ∙ ap Some (let z : suc p ≡ p + 1 = omega arith in z)

  pub close_shut : b ≡ false → 0 < o → close_at p o bs ≡ close_at (p + 1) (o - 1) rest
  unfolding close_at
  close_shut t h = ap (close_at p o) (first ∙ ap (λ c. c ∷ rest) t) ∙ go o h
    where
      go : (o : ℕ) → 0 < o → close_at p o (false ∷ rest) ≡ close_at (p + 1) (o - 1) rest
      go zero h = absurd (omega arith)
      go (suc o) h =
          ap (λ z. close_at z o rest) (let z : suc p ≡ p + 1 = omega arith in z)
          ∙ ap (λ z. close_at (p + 1) z rest) (let z : o ≡ suc o - 1 = omega arith in z)

pub close_never : (p o : ℕ) (bs : List Bool) → bs ≡ [] → close_at p o bs ≡ None
unfolding close_at
close_never p o bs e = ap (close_at p o) e

pub closes_none : (bs : List Bool) → slice_get bs 0 ≡ None → closes bs ≡ None
unfolding closes
closes_none [] e = refl
closes_none (b ∷ bs) e = absurd (let z : ◌≡◌ {A = ℕ} 0 1 = cc in omega arith)

pub closes_not : (bs : List Bool) (b : Bool) → slice_get bs 0 ≡ Some b → b ≡ false → closes bs ≡ None
unfolding closes
closes_not [] b e t = refl
closes_not (true ∷ bs) b e t = absurd (let z : ◌≡◌ {A = ℕ} 0 1 = cc in omega arith)
closes_not (false ∷ bs) b e t = refl

pub closes_starts : (bs : List Bool) (b : Bool) → slice_get bs 0 ≡ Some b → b ≡ true → close_at 1 0 (drop 1 bs) ≡ closes bs
unfolding closes
closes_starts [] b e t = absurd (let z : ◌≡◌ {A = ℕ} 0 1 = cc in omega arith)
closes_starts (true ∷ bs) b e t = refl
closes_starts (false ∷ bs) b e t = absurd (let z : ◌≡◌ {A = ℕ} 0 1 = cc in omega arith)

pub closes_bound : (bs : List Bool) (m : ℕ) → closes bs ≡ Some m → (2 ≤ m) × (m ≤ length bs)
unfolding closes
closes_bound [] m e = absurd (let z : ◌≡◌ {A = ℕ} 0 1 = cc in omega arith)
closes_bound (true ∷ bs) m e = omega (arith, close_bound bs 1 0 m e)
closes_bound (false ∷ bs) m e = absurd (let z : ◌≡◌ {A = ℕ} 0 1 = cc in omega arith)

-- `skip_empty` and `settle`

pub spent_full : (st : List ℕ) (i : ℕ) → i < length st → (get_or st i 0 ≡ 0 → ⊥) → spent (drop i st) ≡ 0
unfolding spent
spent_full [] i h k = absurd (omega arith)
spent_full (zero ∷ st) zero h k = absurd (k refl)
spent_full (suc c ∷ st) zero h k = refl
spent_full (x ∷ st) (suc i) h k = spent_full st i (omega arith) k

pub spent_empty : (st : List ℕ) (i : ℕ) → i < length st → get_or st i 0 ≡ 0 → spent (drop i st) ≡ suc (spent (drop (suc i) st))
unfolding spent
spent_empty [] i h k = absurd (omega arith)
spent_empty (zero ∷ st) zero h k = refl
spent_empty (suc c ∷ st) zero h k = absurd (omega arith)
spent_empty (x ∷ st) (suc i) h k = spent_empty st i (omega arith) k

-- the stack where the empty ones are gone
stripped : (st : List ℕ) (n : ℕ) → n ≡ spent st → n < length st → (0 < get_or st n 0) × (taken st ≡ (get_or st n 0 - 1) ∷ drop (suc n) st)
unfolding spent taken
stripped [] n e h = absurd (omega arith)
stripped (zero ∷ st) zero e h = absurd (omega arith)
stripped (zero ∷ st) (suc n) e h = stripped st n (omega arith) (omega arith)
stripped (suc c ∷ st) zero e h = (omega arith, ap (λ z. z ∷ st) (let z : c ≡ suc c - 1 = omega arith in z))
stripped (suc c ∷ st) (suc n) e h = absurd (omega arith)

stripped_all : (st : List ℕ) → length st ≤ spent st → taken st ≡ []
unfolding spent taken
stripped_all [] h = refl
stripped_all (zero ∷ st) h = stripped_all st (omega arith)
stripped_all (suc c ∷ st) h = absurd (omega arith)

get_d_drop : (st : List ℕ) (i n : ℕ) → get_or (drop i st) n 0 ≡ get_or st (i + n) 0
get_d_drop st zero n = ap (λ k. get_or st k 0) (let z : n ≡ 0 + n = omega arith in z)
get_d_drop [] (suc i) n = refl
get_d_drop (x ∷ st) (suc i) n = get_d_drop st i n ∙ ap (λ k. get_or (x ∷ st) k 0) (let z : suc (i + n) ≡ suc i + n = omega arith in z)

drop_long : (st : List ℕ) (i : ℕ) → i ≤ length st → length (drop i st) + i ≡ length st
drop_long st zero h = omega arith
drop_long [] (suc i) h = absurd (omega arith)
drop_long (x ∷ st) (suc i) h = omega (arith, drop_long st i (omega arith))

pub next_full : (st : List ℕ) (top next : ℕ) → next ≡ top + spent (drop top st) → top ≤ length st → next < length st → (0 < get_or st next 0) × (taken (drop top st) ≡ (get_or st next 0 - 1) ∷ drop (next + 1) st)
next_full st top next e k h =
    let n = next - top in
    let s = stripped (drop top st) n (omega arith) (omega (arith, drop_long st top k)) in
    let g : get_or (drop top st) n 0 ≡ get_or st next 0 = get_d_drop st top n ∙ ap (λ m. get_or st m 0) (let z : top + n ≡ next = omega arith in z) in
    let d : drop (suc n) (drop top st) ≡ drop (next + 1) st = drop-drop (suc n) top st ∙ ap (λ m. drop m st) (let z : top + suc n ≡ next + 1 = omega arith in z) in
    (omega (arith, s.0, g), s.1 ∙ ap (λ m. (m - 1) ∷ drop (suc n) (drop top st)) g ∙ ap (λ m. (get_or st next 0 - 1) ∷ m) d)

pub next_none : (st : List ℕ) (top next : ℕ) → next ≡ top + spent (drop top st) → top ≤ length st → length st ≤ next → taken (drop top st) ≡ []
next_none st top next e k h = stripped_all (drop top st) (omega (arith, drop_long st top k))

pub push_full : (st : List ℕ) (next v d : ℕ) → 1 ≤ next → next < length st → drop (next - 1) (set (set st next v) (next - 1) d) ≡ d ∷ (v ∷ drop (next + 1) st)
push_full st next v d h k =
    drop-set (set st next v) (next - 1) d (omega (arith, length-set st next v))
    ∙ ap (λ m. d ∷ drop m (set st next v)) (let z : next - 1 + 1 ≡ next = omega arith in z)
    ∙ ap (λ m. d ∷ m) (drop-set st next v k)

pub push_none : (st : List ℕ) (next d : ℕ) → 1 ≤ next → next ≡ length st → drop (next - 1) (set st (next - 1) d) ≡ d ∷ []
push_none st next d h k =
    drop-set st (next - 1) d (omega arith)
    ∙ ap (λ m. d ∷ m) (drop_all (next - 1 + 1) st (omega arith))

-- `walk_over`

pub walk_one : (all : List Bool) (d : ℕ) (st : List ℕ) (lot at bad : ℕ) (bs : List Bool) → walk all d st lot at bad (true ∷ bs) ≡ walk all (d + 1) st lot at bad bs
unfolding walk
walk_one all d st lot at bad bs = refl

pub walk_first : (all : List Bool) (d : ℕ) (lot at bad : ℕ) (bs : List Bool) → walk all d [] lot at bad (false ∷ bs) ≡ walk all 0 (d ∷ []) lot at bad bs
unfolding walk
walk_first all d lot at bad bs = refl

pub walk_end : (all : List Bool) (d : ℕ) (st : List ℕ) (lot at bad : ℕ) (bs : List Bool) → bs ≡ [] → walked at bad ≡ walk all d st lot at bad bs
unfolding walk
walk_end all d st lot at bad bs e = sym (ap (walk all d st lot at bad) e)

-- `too_many`

pub word_counts : (xs : List Bool) (n r : ℕ) → n ≡ length xs → r ≡ rank_of xs n → (r ≡ trues xs) × (n - r ≡ falses xs) × (r ≤ n)
unfolding trues
word_counts xs n r e f =
    let k = f ∙ rank_past xs n (omega arith) in
    let t = trues_ones xs in
    (k ∙ sym t, omega (arith, k, t, word_length xs), omega (arith, k, ones_le_length xs))
  where
    trues_ones : (xs : List Bool) → trues xs ≡ ones xs
    trues_ones [] = refl
    trues_ones (true ∷ xs) = omega (arith, trues_ones xs)
    trues_ones (false ∷ xs) = trues_ones xs

pub too_many_left : (p q : ℕ) (xs : List Bool) → p < falses xs → has_too_many p q xs ≡ true
unfolding has_too_many
too_many_left p q xs h = rw (lt-ltb p (falses xs) h)

pub too_many_right : (p q : ℕ) (xs : List Bool) → falses xs ≤ p → has_too_many p q xs ≡ ltb q (trues xs)
unfolding has_too_many
too_many_right p q xs h = rw (le-ltb p (falses xs) h)

pub taken_none : (st : List ℕ) → st ≡ [] → taken st ≡ []
unfolding taken
taken_none st e = ap taken e

-- a path is empty, or has a node
pub path_some : (st : List ℕ) (empty : Bool) → empty ≡ eqb (length st) 0 → empty ≡ false → 0 < length st
path_some [] true e f = absurd (let z : ◌≡◌ {A = ℕ} 0 1 = cc in omega arith)
path_some [] false e f = absurd (let z : ◌≡◌ {A = ℕ} 0 1 = cc in omega arith)
path_some (x ∷ st) empty e f = omega arith

pub path_none : (st : List ℕ) (empty : Bool) → empty ≡ eqb (length st) 0 → empty ≡ true → st ≡ []
path_none [] empty e f = refl
path_none (x ∷ st) empty e f = absurd (let g : false ≡ true = sym (ne_eqb (length (x ∷ st)) 0 (omega arith)) ∙ sym e ∙ f in let z : ◌≡◌ {A = ℕ} 0 1 = cc in omega arith)

pub taken_le : (st : List ℕ) → length (taken st) ≤ length st
unfolding taken
taken_le [] = omega arith
taken_le (zero ∷ st) = omega (arith, taken_le st)
taken_le (suc c ∷ st) = omega arith

module _ (all : List Bool) (bs rest : List Bool) (b : Bool) (first : bs ≡ b ∷ rest) (d : ℕ) (st : List ℕ) (lot at bad : ℕ) where
  next_is : (c : Bool) → b ≡ c → walk all d st lot at bad bs ≡ walk all d st lot at bad (c ∷ rest)
  next_is c t = ap (walk all d st lot at bad) (first ∙ ap (λ x. x ∷ rest) t)

  pub step_one : b ≡ true → walk all (d + 1) st lot at bad rest ≡ walk all d st lot at bad bs
  step_one t = sym (next_is true t ∙ walk_one all d st lot at bad rest)

  pub step_first : b ≡ false → st ≡ [] → walk all 0 (d ∷ taken st) lot at bad rest ≡ walk all d st lot at bad bs
  step_first t z =
      ap (λ s. walk all 0 (d ∷ s) lot at bad rest) (taken_none st z)
      ∙ sym (next_is false t ∙ ap (λ s. walk all d s lot at bad (false ∷ rest)) z ∙ walk_first all d lot at bad rest)

  pub step_zero : (before size bad' : ℕ) (wrong : Bool) → b ≡ false → 0 < length st → before ≡ spent st → size ≡ before + d - 1 →
      wrong ≡ has_too_many before d (take size (drop at all)) → bad' ≡ lowest (lot + 1) bad wrong →
      walk all 0 (d ∷ taken st) (lot + 1) (at + size) bad' rest ≡ walk all d st lot at bad bs
  step_zero before size bad' wrong t z k l n o =
      let x : walk all 0 (d ∷ taken st) (lot + 1) (at + size) bad' rest ≡
      walk all 0 (d ∷ taken st) (lot + 1) (at + (spent st + d - 1)) (lowest (lot + 1) bad (has_too_many (spent st) d (take (spent st + d - 1) (drop at all)))) rest = cc in
      x ∙ sym (next_is false t ∙ walk_zero all d st lot at bad rest z)

-- the lowest lot with a faulty word, as a number
pub lowest_lot : (lot : ℕ) (bad : Option ℕ) (wrong : Bool) → is_lot bad ≡ true → lot_number (option_or bad (then_some wrong lot)) ≡ lowest lot (lot_number bad) wrong
unfolding lowest
lowest_lot lot None true h = refl
lowest_lot lot None false h = refl
lowest_lot lot (Some zero) wrong h = absurd (let z : ◌≡◌ {A = ℕ} 0 1 = cc in omega arith)
lowest_lot lot (Some (suc n)) true h = rw (ne_eqb (suc n) 0 (omega arith))
lowest_lot lot (Some (suc n)) false h = rw (ne_eqb (suc n) 0 (omega arith))

pub lot_there : (bad : Option ℕ) (lot : ℕ) → is_lot bad ≡ true → bad ≡ Some lot → lot_number bad ≡ 0 → ⊥
lot_there None lot h e z = (let y : ◌≡◌ {A = ℕ} 0 1 = cc in omega arith)
lot_there (Some zero) lot h e z = (let y : ◌≡◌ {A = ℕ} 0 1 = cc in omega arith)
lot_there (Some (suc n)) lot h e z = omega arith
