-- One more lot is linked: what holds for each order with the sheet, and what holds whatever the bits are.
use Rattle.std.proofs.Common.{◌≡◌, ℕ, zero, suc, ◌+◌, ◌-◌, ◌<◌, ◌≤◌, Bool, eqb, ◌≢◌, ◌⊎◌, List, ◌++◌, length, get_or, drop, set, sym, refl, ap, ◌∙◌, inl, inr, append_assoc, arith, get_or-set_other, get_or-set_same}
use Rattle.std.proofs.lemmas.List.{length-set}
use Rattle.std.proofs.lemmas.Bool.{cases_eq, ne_eqb}
use Rattle.leaders.specs.Sheet.{parent, tally, children, unary, spread, spines, sheet}
use Rattle.links.specs.Links.{Linked, children_to}
use Rattle.links.specs.Walks.{Hangs, AtMost, Rises}
use Rattle.links.proofs.Joins.{parent_is}
use Rattle.links.proofs.Loops.{spread_step}
use Rattle.links.proofs.Walking.{sheet_parts}
use Rattle.linking.specs.Linking.{Places, less_place}
use Rattle.linking.proofs.Climbing.{tally_stays, children_more, children_same}

-- the counts of the nodes from k on, and the words
abbrev pub rest : (ℕ → ℕ → Bool) → ℕ → ℕ → List Bool
rest b n k = spread (λ j. unary (children b n j)) k (suc n - k) ++ spines b n

-- the lots below k are linked, and the next bit is the first of the count of k
pub record Going (b : ℕ → ℕ → Bool) (n k : ℕ) (bs : List Bool) (up left right kids places : List ℕ) (at : ℕ) : Type 0 where
  pub linked : Linked b n (k - 1) up left right kids
  pub free : Places b n (k - 1) places
  pub ahead : drop at bs ≡ rest b n k

-- the numbers of the lots below k
pub record Tamed (n k : ℕ) (up left right kids : List ℕ) : Type 0 where
  pub hangs : Hangs k up
  pub lefts : (m : ℕ) → m < k → get_or left m 0 ≤ n
  pub rights : AtMost n right
  pub rises : Rises n right
  pub counts : (x : ℕ) → x ≤ n → get_or kids x 0 < k

-- bits

pub rest_step : (b : ℕ → ℕ → Bool) (n k : ℕ) → k ≤ n → rest b n k ≡ unary (children b n k) ++ rest b n (k + 1)
rest_step b n k h =
    let f : ℕ → List Bool = λ j. unary (children b n j) in
    ap (λ z. z ++ spines b n) (spread_step f (suc n) k (omega arith)) ∙ append_assoc (f k) (spread f (k + 1) (suc n - (k + 1))) (spines b n)

pub rest_first : (b : ℕ → ℕ → Bool) (n : ℕ) (bs : List Bool) → sheet b n ≡ bs → drop 1 bs ≡ unary (children b n 0) ++ rest b n 1
rest_first b n bs e =
    let z : suc n ≡ suc n - 0 = omega arith in
    ap (drop 1) (sym e ∙ sheet_parts b n) ∙ ap (λ m. spread (λ j. unary (children b n j)) 0 m ++ spines b n) z ∙ rest_step b n 0 (omega arith)

-- places

places_none : (b : ℕ → ℕ → Bool) (k : ℕ) → children_to b k k ≡ 0
unfolding tally
places_none b k =
    let z : k ≡ 0 + k = omega arith in
    ap (tally (λ i. eqb (parent b i) k) 1) z ∙ tally_stays (λ i. eqb (parent b i) k) 0 k (λ j p q. ne_eqb (parent b j) k (omega (arith, (parent_is b j).upto)))

less_other : (places : List ℕ) (x y : ℕ) → 1 ≤ y → y ≢ x → get_or (less_place places x) (y - 1) 0 ≡ get_or places (y - 1) 0
less_other places zero y p d = refl
less_other places (suc x) y p d = get_or-set_other places x (y - 1) (get_or places x 0 - 1) 0 (omega arith)

less_same : (places : List ℕ) (x : ℕ) → 1 ≤ x → x ≤ length places → get_or (less_place places x) (x - 1) 0 ≡ get_or places (x - 1) 0 - 1
less_same places zero p h = absurd (omega arith)
less_same places (suc x) p h =
    let z : suc x - 1 ≡ x = omega arith in
    rw z (get_or-set_same places x (get_or places x 0 - 1) 0 (omega arith))

less_length : (places : List ℕ) (x : ℕ) → length (less_place places x) ≡ length places
less_length places zero = refl
less_length places (suc x) = length-set places x (get_or places x 0 - 1)

pub places_more : (b : ℕ → ℕ → Bool) (n k x d : ℕ) (places : List ℕ) → 1 ≤ k → k ≤ length places → Places b n (k - 1) places → x ≡ parent b k → x < k → (x ≡ 0) ⊎ (1 ≤ get_or places (x - 1) 0) → d ≡ children b n k →
    Places b n (k + 1 - 1) (set (less_place places x) (k - 1) d)
places_more b n k x d places one long h e low free own =
    let z : k + 1 - 1 ≡ k = omega arith in
    rw z (λ y p q. elim (cases_eq y k) [
      | inl i ↦
          let g = get_or-set_same (less_place places x) (k - 1) d 0 (omega (arith, less_length places x)) in
          rw i (omega (arith, g, places_none b k))
      | inr i ↦
          let g = get_or-set_other (less_place places x) (k - 1) (y - 1) d 0 (omega arith) in
          let old = h y p (omega arith) in
          elim (cases_eq y x) [
            | inl j ↦
                let t : 1 ≤ get_or places (y - 1) 0 = elim free [ inl u ↦ absurd (omega arith) | inr u ↦ (rw j u) ] in
                let l : get_or (less_place places x) (y - 1) 0 ≡ get_or places (y - 1) 0 - 1 = rw j (less_same places x (omega arith) (omega arith)) in
                omega (arith, g, old, l, t, children_more b y k one (sym e ∙ sym j))
            | inr j ↦ omega (arith, g, old, less_other places x y p j, children_same b y k one (λ u. j (sym u ∙ sym e)))
          ]
    ])

-- whatever the bits are

pub tame_none : (n : ℕ) (up left right kids : List ℕ) → get_or left 0 0 ≡ 0 → ((k : ℕ) → k ≤ n → get_or right k 0 ≡ 0) → ((k : ℕ) → k ≤ n → get_or kids k 0 ≡ 0) → Tamed n 1 up left right kids
tame_none n up left right kids e f g = record {
  hangs = λ m p q. absurd (omega arith);
  lefts = λ m p. let z : m ≡ 0 = omega arith in rw z (omega (arith, e));
  rights = λ m p. omega (arith, f m p);
  rises = λ m p. inl (f m p);
  counts = λ m p. omega (arith, g m p);
}

pub tame_more : (n k : ℕ) (up left right kids : List ℕ) → Tamed n k up left right kids → length up ≡ suc n → length left ≡ suc n → length right ≡ suc n → length kids ≡ suc n → 1 ≤ k → k ≤ n → (x v : ℕ) → x < k → v < k →
    Tamed n (k + 1) (set up k x) (set left k v) (set right x k) (set kids x (get_or kids x 0 + 1))
tame_more n k up left right kids t lu ll lr lk one most x v low less = record {
  hangs = λ m p q. elim (cases_eq m k) [
    | inl z ↦ rw z (omega (arith, get_or-set_same up k x 0 (omega arith)))
    | inr z ↦ omega (arith, get_or-set_other up k m x 0 z, t.hangs m p (omega arith))
  ];
  lefts = λ m p. elim (cases_eq m k) [
    | inl z ↦ rw z (omega (arith, get_or-set_same left k v 0 (omega arith)))
    | inr z ↦ omega (arith, get_or-set_other left k m v 0 z, t.lefts m (omega arith))
  ];
  rights = λ m p. elim (cases_eq m x) [
    | inl z ↦ rw z (omega (arith, get_or-set_same right x k 0 (omega arith)))
    | inr z ↦ omega (arith, get_or-set_other right x m k 0 z, t.rights m p)
  ];
  rises = λ m p. elim (cases_eq m x) [
    | inl z ↦ inr (rw z (omega (arith, get_or-set_same right x k 0 (omega arith))))
    | inr z ↦ let e = get_or-set_other right x m k 0 z in rw e (t.rises m p)
  ];
  counts = λ m p. elim (cases_eq m x) [
    | inl z ↦ rw z (omega (arith, get_or-set_same kids x (get_or kids x 0 + 1) 0 (omega arith), t.counts x (omega arith)))
    | inr z ↦ omega (arith, get_or-set_other kids x m (get_or kids x 0 + 1) 0 z, t.counts m p)
  ];
}
