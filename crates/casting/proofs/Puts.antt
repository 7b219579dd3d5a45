-- Steps of the loops that walk and punch.
use Rattle.std.proofs.Common.{◌≡◌, ℕ, zero, suc, ◌+◌, ◌-◌, ◌<◌, ◌≤◌, Bool, true, false, ◌⊎◌, List, [], ◌∷◌, ◌++◌, length, get_or, Result, sym, refl, ap, ◌∙◌, inl, inr, append_assoc, arith, length-append}
use Rattle.std.proofs.lemmas.Bool.{cond_both}
use Rattle.std.proofs.lemmas.List.{append-nil}
use Rattle.bits.specs.Punching.{Appends}
use Rattle.bits.proofs.Letters.{appended}
use Rattle.leaders.specs.Sheet.{spread, unary}
use Rattle.links.specs.Walks.{turn, merge}
use Rattle.links.proofs.Loops.{spread_step, spread_end}
use Rattle.casting.specs.Adding.{Adds}

-- one more bit of a text that there is room for
pub put : {E : Type 0} (r : Result (Unit {0}) E) (room : ℕ) (before after : List Bool) (bit : Bool) (rest all : List Bool) → Appends r room before after bit → before ++ bit ∷ rest ≡ all → length all ≤ room → after ++ rest ≡ all
put r room before after bit rest all a e h =
    let k : length before < room = omega (arith, length-append before (bit ∷ rest), ap length e) in
    let z = appended r room before after bit a k in
    rw z (append_assoc before (bit ∷ []) rest ∙ e)

pub unary_step : (n t : ℕ) → t < n → unary (n - t) ≡ true ∷ unary (n - (t + 1))
unfolding unary
unary_step n t h = let e : n - t ≡ suc (n - (t + 1)) = omega arith in rw e

pub unary_end : (n t : ℕ) → n ≤ t → unary (n - t) ≡ false ∷ []
unfolding unary
unary_end n t h = let e : n - t ≡ 0 = omega arith in rw e

module _ (b : ℕ → ℕ → Bool) (left right : List ℕ) where
  pub merge_length : (t i j : ℕ) → length (merge b left right t i j) ≡ t
  unfolding merge
  merge_length zero i j = refl
  merge_length (suc t) i j = cond_both (turn b i j) (true ∷ merge b left right t i (get_or left j 0)) (false ∷ merge b left right t (get_or right i 0) j) (λ w. length w ≡ suc t) (λ _. ap suc (merge_length t i (get_or left j 0))) (λ _. ap suc (merge_length t (get_or right i 0) j))

  pub merge_true : (n t i j : ℕ) → t < n → turn b i j ≡ true → merge b left right (n - t) i j ≡ true ∷ merge b left right (n - (t + 1)) i (get_or left j 0)
  unfolding merge
  merge_true n t i j h e = let z : n - t ≡ suc (n - (t + 1)) = omega arith in rw (z, e)

  pub merge_false : (n t i j : ℕ) → t < n → turn b i j ≡ false → merge b left right (n - t) i j ≡ false ∷ merge b left right (n - (t + 1)) (get_or right i 0) j
  unfolding merge
  merge_false n t i j h e = let z : n - t ≡ suc (n - (t + 1)) = omega arith in rw (z, e)

  pub merge_end : (n t i j : ℕ) → n ≤ t → merge b left right (n - t) i j ≡ []
  unfolding merge
  merge_end n t i j h = let e : n - t ≡ 0 = omega arith in rw e

-- many more bits
pub puts : (before after part rest all : List Bool) → after ≡ before ++ part → before ++ (part ++ rest) ≡ all → after ++ rest ≡ all
puts before after part rest all e f = rw e (append_assoc before part rest ∙ f)

-- from the punch p to q some of the bits `all` were added, and `rest` is to come
pub record Going {X : Type 0} (written : X → List Bool) (room home : X → ℕ) (p q : X) (rest all : List Bool) : Type 0 where
  pub bits_are : written q ++ rest ≡ written p ++ all
  pub room_is : room q ≡ room p
  pub home_is : home q ≡ home p

module _ {X : Type 0} (written : X → List Bool) (room home : X → ℕ) where
  pub begun : (p : X) (rest all : List Bool) → rest ≡ all → Going written room home p p rest all
  begun p rest all e = record { bits_are = ap (λ w. written p ++ w) e; room_is = refl; home_is = refl }

  pub bit_more : {E : Type 0} {p q : X} {all : List Bool} (q' : X) (r : Result (Unit {0}) E) (bit : Bool) (rest : List Bool) → length (written p) + length all ≤ room p → Going written room home p q (bit ∷ rest) all →
      Appends r (room q) (written q) (written q') bit → room q' ≡ room q → home q' ≡ home q → Going written room home p q' rest all
  bit_more {p = p} {q = q} {all = all} q' r bit rest h g a i j = record {
    bits_are = put r (room q) (written q) (written q') bit rest (written p ++ all) a g.bits_are (omega (arith, h, g.room_is, length-append (written p) all));
    room_is = i ∙ g.room_is;
    home_is = j ∙ g.home_is;
  }

  pub part_more : {p q : X} {all : List Bool} (q' : X) (part rest : List Bool) → Going written room home p q (part ++ rest) all → Adds written room home q q' part → Going written room home p q' rest all
  part_more {p = p} {q = q} {all = all} q' part rest g a = record {
    bits_are = puts (written q) (written q') part rest (written p ++ all) a.bits_are g.bits_are;
    room_is = a.room_is ∙ g.room_is;
    home_is = a.home_is ∙ g.home_is;
  }

  pub rest_room : {p q : X} {rest all : List Bool} → length (written p) + length all ≤ room p → Going written room home p q rest all → length (written q) + length rest ≤ room q
  rest_room {p = p} {q = q} {rest = rest} {all = all} h g = omega (arith, h, g.room_is, ap length g.bits_are, length-append (written p) all, length-append (written q) rest)

  pub part_room : {p q : X} {all : List Bool} (part rest : List Bool) → length (written p) + length all ≤ room p → Going written room home p q (part ++ rest) all → length (written q) + length part ≤ room q
  part_room part rest h g = omega (arith, rest_room h g, length-append part rest)

  pub all_added : {p q : X} {all : List Bool} → Going written room home p q [] all → Adds written room home p q all
  all_added {q = q} g = record { bits_are = sym (append-nil (written q)) ∙ g.bits_are; room_is = g.room_is; home_is = g.home_is }

  -- the parts that f gives for the numbers k up to n, one after another
  module _ (f : ℕ → List Bool) (n k : ℕ) where
    pub next_room : {p q : X} {all : List Bool} → k < n → length (written p) + length all ≤ room p → Going written room home p q (spread f k (n - k)) all → length (written q) + length (f k) ≤ room q
    next_room h fits g = let e = spread_step f n k h in part_room (f k) (spread f (k + 1) (n - (k + 1))) fits (rw e at g)

    pub next_more : {p q : X} {all : List Bool} (q' : X) → k < n → Going written room home p q (spread f k (n - k)) all → Adds written room home q q' (f k) → Going written room home p q' (spread f (k + 1) (n - (k + 1))) all
    next_more q' h g a = let e = spread_step f n k h in part_more q' (f k) (spread f (k + 1) (n - (k + 1))) (rw e at g) a

    pub none_left : {p q : X} {all : List Bool} → n ≤ k → Going written room home p q (spread f k (n - k)) all → Adds written room home p q all
    none_left h g = let e = spread_end f n k h in all_added (rw e at g)

  -- one more symbol of two walks
  pub word_more : {E : Type 0} {p q : X} {all : List Bool} (q' : X) (r : Result (Unit {0}) E) (b : ℕ → ℕ → Bool) (left right : List ℕ) (bit : Bool) (size t i j i' j' : ℕ) → length (written p) + length all ≤ room p → t < size → bit ≡ turn b i j →
      ((bit ≡ true) × (i' ≡ i) × (j' ≡ get_or left j 0)) ⊎ ((bit ≡ false) × (i' ≡ get_or right i 0) × (j' ≡ j)) →
      Going written room home p q (merge b left right (size - t) i j) all → Appends r (room q) (written q) (written q') bit → room q' ≡ room q → home q' ≡ home q → Going written room home p q' (merge b left right (size - (t + 1)) i' j') all
  word_more q' r b left right bit size t i j i' j' fits h e (inl (z, u, v)) g a m n =
      let s = merge_true b left right size t i j h (sym e ∙ z) in
      rw (u, v) (bit_more q' r bit (merge b left right (size - (t + 1)) i (get_or left j 0)) fits (rw (z, ← s) g) a m n)
  word_more q' r b left right bit size t i j i' j' fits h e (inr (z, u, v)) g a m n =
      let s = merge_false b left right size t i j h (sym e ∙ z) in
      rw (u, v) (bit_more q' r bit (merge b left right (size - (t + 1)) (get_or right i 0) j) fits (rw (z, ← s) g) a m n)
