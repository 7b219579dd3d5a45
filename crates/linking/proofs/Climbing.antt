-- On the way up from a lot, a node has a place left exactly when it beats the next lot.
use Rattle.std.proofs.Common.{◌≡◌, ℕ, zero, suc, ◌+◌, ◌-◌, ◌<◌, ◌≤◌, Bool, true, false, cond, eqb, not, ◌≢◌, List, get_or, refl, sym, ap, ◌∙◌, subst, inl, inr, arith}
use Rattle.std.proofs.lemmas.Bool.{cases_Bool, cases_eq, eq-eqb, ne_eqb, both_ways}
use Rattle.leaders.specs.Order.{Strict}
use Rattle.leaders.specs.Sheet.{parent, tally, children}
use Rattle.leaders.proofs.Sheets.{Highest}
use Rattle.links.specs.Links.{children_to}
use Rattle.linking.specs.Linking.{Places}
use Rattle.links.specs.Links.{Climbed}
use Rattle.links.proofs.Joins.{parent_is, climb_end, tally_more}

-- a count stays where no number after the first m passes, and it never falls
pub tally_stays : (f : ℕ → Bool) (m d : ℕ) → ((j : ℕ) → m < j → j ≤ m + d → f j ≡ false) → tally f 1 (m + d) ≡ tally f 1 m
tally_stays f m zero h = let e : m + 0 ≡ m = omega arith in rw e
tally_stays f m (suc d) h =
    let e : m + suc d ≡ suc (m + d) = omega arith in
    let g = h (m + suc d) (omega arith) (omega arith) in
    let i = tally_more f 1 (m + d) (m + suc d) (omega arith) in
    ap (tally f 1) e ∙ i ∙ ap (λ z. cond z (suc (tally f 1 (m + d))) (tally f 1 (m + d))) g ∙ tally_stays f m d (λ j p q. h j p (omega arith))

tally_rises : (f : ℕ → Bool) (m d : ℕ) → tally f 1 m ≤ tally f 1 (m + d)
tally_rises f m zero = let e : m + 0 ≡ m = omega arith in rw e (omega arith)
tally_rises f m (suc d) =
    let e : m + suc d ≡ suc (m + d) = omega arith in
    let i = tally_more f 1 (m + d) (m + suc d) (omega arith) in
    let h = tally_rises f m d in
    rw (e, i) (elim (cases_Bool (f (m + suc d))) [ inl p ↦ grind (arith, h, p) | inr p ↦ grind (arith, h, p) ])

-- one lot more
pub children_more : (b : ℕ → ℕ → Bool) (x k : ℕ) → 1 ≤ k → parent b k ≡ x → children_to b x k ≡ suc (children_to b x (k - 1))
children_more b x zero p e = absurd (omega arith)
children_more b x (suc m) p e =
    let f : ℕ → Bool = λ i. eqb (parent b i) x in
    let z : suc m - 1 ≡ m = omega arith in
    let g : f (suc m) ≡ true = eq-eqb (parent b (suc m)) x e in
    rw z (tally_more f 1 m (suc m) (omega arith) ∙ ap (λ c. cond c (suc (tally f 1 m)) (tally f 1 m)) g)

pub children_same : (b : ℕ → ℕ → Bool) (x k : ℕ) → 1 ≤ k → parent b k ≢ x → children_to b x k ≡ children_to b x (k - 1)
children_same b x zero p e = absurd (omega arith)
children_same b x (suc m) p e =
    let f : ℕ → Bool = λ i. eqb (parent b i) x in
    let z : suc m - 1 ≡ m = omega arith in
    let g : f (suc m) ≡ false = ne_eqb (parent b (suc m)) x e in
    rw z (tally_more f 1 m (suc m) (omega arith) ∙ ap (λ c. cond c (suc (tally f 1 m)) (tally f 1 m)) g)

module _ (b : ℕ → ℕ → Bool) (s : Strict b) (n k x last places : ℕ) (c : Climbed b k x last) (some : x ≢ 0) (upto : k ≤ n) (e : places + children_to b x (k - 1) ≡ children b n x) where
  -- a lot after k is no child of a lot that k beats
  none_on : b x k ≡ false → (j : ℕ) → k - 1 < j → parent b j ≢ x
  none_on f j p q =
      let h : Highest b j (j - 1) x = subst (Highest b j (j - 1)) q (parent_is b j) in
      let over : b x j ≡ true = elim h.beats [ inl z ↦ absurd (some z) | inr z ↦ z ] in
      elim (cases_eq j k) [
        | inl z ↦ both_ways (b x k) f (rw z at over)
        | inr z ↦
            let up : b k x ≡ true = s.total x k (omega (arith, c.below)) f in
            both_ways (b k j) (h.none k c.below (omega arith)) (s.transitive k x j up over)
      ]

  pub no_place : places ≡ 0 → b x k ≡ false
  unfolding children
  no_place z = elim (cases_Bool (b x k)) [
    | inr f ↦ f
    | inl f ↦
        let m = children_more b x k (omega (arith, c.below)) (sym (climb_end b s k x last c (inr f))) in
        let r = tally_rises (λ i. eqb (parent b i) x) k (n - k) in
        let g : k + (n - k) ≡ n = omega arith in
        absurd (omega (arith, m, r, ap (tally (λ i. eqb (parent b i) x) 1) g))
  ]

  pub a_place : places ≢ 0 → b x k ≡ true
  unfolding children
  a_place z = elim (cases_Bool (b x k)) [
    | inl f ↦ f
    | inr f ↦
        let r = tally_stays (λ i. eqb (parent b i) x) (k - 1) (n - (k - 1)) (λ j p q. ne_eqb (parent b j) x (none_on f j p)) in
        let g : k - 1 + (n - (k - 1)) ≡ n = omega arith in
        absurd (omega (arith, r, ap (tally (λ i. eqb (parent b i) x) 1) g))
  ]

-- that a node has a place left tells that it beats lot k
pub place_tells : (b : ℕ → ℕ → Bool) → Strict b → (n k : ℕ) (places : List ℕ) → k ≤ n → Places b n (k - 1) places → (x last : ℕ) → Climbed b k x last → 1 ≤ x → not (eqb (get_or places (x - 1) 0) 0) ≡ b x k
place_tells b s n k places upto free x last way one =
    let here = free x one (omega (arith, way.below)) in
    elim (cases_eq (get_or places (x - 1) 0) 0) [
      | inl z ↦ let f = no_place b s n k x last (get_or places (x - 1) 0) way (omega arith) upto here z in let e = eq-eqb (get_or places (x - 1) 0) 0 z in rw (f, e)
      | inr z ↦ let f = a_place b s n k x last (get_or places (x - 1) 0) way (omega arith) upto here z in let e = ne_eqb (get_or places (x - 1) 0) 0 z in rw (f, e)
    ]

pub some_place : (places : ℕ) → true ≡ not (eqb places 0) → 1 ≤ places
some_place zero e = absurd (both_ways true e refl)
some_place (suc places) e = omega arith
