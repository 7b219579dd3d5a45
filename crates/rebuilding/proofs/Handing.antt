-- Prices handed out one after another along a list.
use Rattle.std.proofs.Common.{◌≡◌, ℕ, zero, suc, ◌+◌, ◌-◌, ◌<◌, ◌≤◌, ◌≢◌, ◌⊎◌, List, [], ◌∷◌, ◌++◌, length, get_or, set, sym, refl, ap, ◌∙◌, subst, ap₂, inl, inr, append_assoc, arith, length-append, get_or-set_other, get_or-set_same}
use Rattle.std.proofs.lemmas.List.{append-nil}
use Rattle.std.proofs.lemmas.Bool.{cases_eq, eq-eqb, ne_eqb}
use Rattle.leaders.specs.Tree.{Mem}
use Rattle.leaders.specs.Rebuilt.{place, prices_of}
use Rattle.links.specs.Walks.{Chain}
use Rattle.rebuilding.specs.Splices.{count}
use Rattle.rebuilding.specs.Prices.{Lists, Prices}
use Rattle.rebuilding.proofs.Splicing.{count_append, count_same, count_none}

-- the lots us have their prices, and from x on the lots vs are left
pub record Handed (n : ℕ) (next prices : List ℕ) (x t : ℕ) (zs : List ℕ) : Type 0 where
  pub us : List ℕ
  pub vs : List ℕ
  pub whole : us ++ vs ≡ zs
  pub many : length us ≡ t
  pub chain : Chain next x vs
  pub given : (z : ℕ) → 1 ≤ z → Mem z us → get_or prices (z - 1) 0 ≡ n - place zs z

abbrev pub Hands : ℕ → List ℕ → ℕ → List ℕ → ℕ → ℕ → Type 0
Hands n next first prices x t = (zs : List ℕ) → Chain next first zs → Lists n zs → Handed n next prices x t zs

place_at : (us : List ℕ) (z : ℕ) (vs : List ℕ) → count z us ≡ 0 → place (us ++ z ∷ vs) z ≡ length us
unfolding place
place_at [] z vs h = rw (eq-eqb z z refl)
place_at (u ∷ us) z vs h = let (d, k) = count_none z u us h in rw (ne_eqb u z d) (ap suc (place_at us z vs k))

mem_push : (us : List ℕ) (y z : ℕ) → Mem z (us ++ y ∷ []) → Mem z us ⊎ (z ≡ y)
mem_push [] y z (inl e) = inr e
mem_push [] y z (inr m) = absurd m
mem_push (u ∷ us) y z (inl e) = inl (inl e)
mem_push (u ∷ us) y z (inr m) = elim (mem_push us y z m) [ inl h ↦ inl (inr h) | inr h ↦ inr h ]

pub hand_more : (n : ℕ) (next : List ℕ) (first : ℕ) (prices : List ℕ) (x t : ℕ) → Hands n next first prices x t → x ≢ 0 → x ≤ n → length prices ≡ n → Hands n next first (set prices (x - 1) (n - t)) (get_or next x 0) (t + 1)
hand_more n next first prices x t f some most long zs c l = go (f zs c l).vs (f zs c l).whole (f zs c l).chain
  where
    go : (vs : List ℕ) → (f zs c l).us ++ vs ≡ zs → Chain next x vs → Handed n next (set prices (x - 1) (n - t)) (get_or next x 0) (t + 1) zs
    go [] whole d = absurd (some d)
    go (y ∷ vs) whole (e, low, d) =
        let h = f zs c l in
        let us = h.us in
        let none : count y us ≡ 0 = omega (arith, l.once y, ap (count y) whole, count_append y us (y ∷ vs), count_same y vs) in
        let here : place zs y ≡ t = ap (λ ws. place ws y) (sym whole) ∙ place_at us y vs none ∙ h.many in
        record {
          us = us ++ y ∷ [];
          vs = vs;
          whole = append_assoc us (y ∷ []) vs ∙ whole;
          many = length-append us (y ∷ []) ∙ ap (λ m. m + 1) h.many;
          chain = subst (λ i. Chain next (get_or next i 0) vs) (sym e) d;
          given = λ z p m. elim (cases_eq z y) [
            | inl i ↦ subst (λ v. get_or (set prices (x - 1) (n - t)) (v - 1) 0 ≡ n - place zs v) (e ∙ sym i) (get_or-set_same prices (x - 1) (n - t) 0 (omega arith) ∙ ap (λ m. n - m) (sym here ∙ ap (place zs) (sym e)))
            | inr i ↦ get_or-set_other prices (x - 1) (z - 1) (n - t) 0 (omega arith) ∙ h.given z p (elim (mem_push us y z m) [ inl k ↦ k | inr k ↦ absurd (i k) ])
          ];
        }

prices_are : (n : ℕ) (zs ps : List ℕ) (i m : ℕ) → length ps ≡ m → ((k : ℕ) → k < m → get_or ps k 0 ≡ n - place zs (i + k)) → ps ≡ prices_of n zs i m
unfolding prices_of
prices_are n zs [] i zero e f = refl
prices_are n zs [] i (suc m) e f = absurd (omega arith)
prices_are n zs (p ∷ ps) i zero e f = absurd (omega arith)
prices_are n zs (p ∷ ps) i (suc m) e f =
    let z : i + 0 ≡ i = omega arith in
    ap₂ ◌∷◌ (f 0 (omega arith) ∙ ap (λ j. n - place zs j) z) (prices_are n zs ps (suc i) m (omega arith) (λ k h. f (suc k) (omega arith) ∙ ap (λ j. n - place zs j) (let d : i + suc k ≡ suc i + k = omega arith in d)))

-- all lots have their prices
pub hand_all : (n : ℕ) (next : List ℕ) (first : ℕ) (prices : List ℕ) (x t : ℕ) → Hands n next first prices x t → length prices ≡ n → n ≤ t → Prices n next first prices
hand_all n next first prices x t f long end zs c l = go (f zs c l).vs (f zs c l).whole
  where
    go : (vs : List ℕ) → (f zs c l).us ++ vs ≡ zs → prices ≡ prices_of n zs 1 n
    go [] whole =
        let h = f zs c l in
        let all : h.us ≡ zs = sym (append-nil h.us) ∙ whole in
        prices_are n zs prices 1 n long (λ k p.
        let i : 1 + k - 1 ≡ k = omega arith in
        ap (λ j. get_or prices j 0) (sym i) ∙ h.given (1 + k) (omega arith) (subst (Mem (1 + k)) (sym all) (l.here (1 + k) (omega arith) (omega arith))))
    go (y ∷ vs) whole = let h = f zs c l in absurd (omega (arith, h.many, l.long, ap length whole, length-append h.us (y ∷ vs)))

-- the list ends early only where it is not one of all lots
pub hand_short : (n : ℕ) (next : List ℕ) (first : ℕ) (prices : List ℕ) (x t : ℕ) → Hands n next first prices x t → x ≡ 0 → t < n → Prices n next first prices
hand_short n next first prices x t f e early zs c l = go (f zs c l).vs (f zs c l).whole (f zs c l).chain
  where
    go : (vs : List ℕ) → (f zs c l).us ++ vs ≡ zs → Chain next x vs → prices ≡ prices_of n zs 1 n
    go [] whole d = let h = f zs c l in absurd (omega (arith, h.many, l.long, ap length whole, length-append h.us []))
    go (y ∷ vs) whole d = absurd (omega (arith, d.0, d.1))
