-- Going through a range finds its best and its second. Assumes nothing.
use Rattle.std.proofs.Common.{◌≡◌, ℕ, zero, suc, ◌+◌, ◌-◌, ◌≤◌, Bool, true, false, cond, eqb, ◌≢◌, Some, None, Option, sym, refl, ◌∙◌, subst, inl, inr, arith}
use Rattle.std.proofs.lemmas.Bool.{cases_eq, eqb-true, eqb-false}
use Rattle.leaders.specs.Order.{Strict, Best, IsSecond, best_from, better, best_but, best, second}

module _ (b : ℕ → ℕ → Bool) (p : Strict b) where
  best_step : (i m k : ℕ) → Best b i (i + m) k → (v : Bool) → b k (i + suc m) ≡ v → Best b i (i + suc m) (cond v k (i + suc m))
  best_step i m k h true e = record {
    from = h.from;
    upto = omega (arith, h.upto);
    over = λ j x y d. elim (cases_eq j (i + suc m)) [ inl q ↦ rw q e | inr q ↦ h.over j x (omega arith) d ];
  }
  best_step i m k h false e =
      let back : b (i + suc m) k ≡ true = p.total k (i + suc m) (omega (arith, h.upto)) e in
      record {
        from = omega arith;
        upto = omega arith;
        over = λ j x y d. elim (cases_eq j k) [ inl q ↦ rw q back | inr q ↦ p.transitive (i + suc m) k j back (h.over j x (omega arith) q) ];
      }

  pub best_found : (i m : ℕ) → Best b i (i + m) (best_from b i m)
  unfolding best_from
  best_found i zero = record { from = omega arith; upto = omega arith; over = λ j x y d. absurd (d (omega arith)) }
  best_found i (suc m) = best_step i m (best_from b i m) (best_found i m) (b (best_from b i m) (i + suc m)) refl

  -- o is the best of i..j but for k
  But : ℕ → ℕ → ℕ → Option ℕ → Type 0
  But k i j None = (x : ℕ) → i ≤ x → x ≤ j → x ≡ k
  But k i j (Some s) = (i ≤ s) × (s ≤ j) × (s ≢ k) × ((x : ℕ) → i ≤ x → x ≤ j → x ≢ k → x ≢ s → b s x ≡ true)

  but_one : (k i : ℕ) (v : Bool) → eqb i k ≡ v → But k i (i + 0) (cond v None (Some i))
  unfolding But
  but_one k i true e = λ x h g. let q = eqb-true i k e in omega arith
  but_one k i false e = (omega arith, omega arith, eqb-false i k e, λ x h g d c. absurd (c (omega arith)))

  but_better : (k i m : ℕ) (o : Option ℕ) → But k i (i + m) o → i + suc m ≢ k → But k i (i + suc m) (better b o (i + suc m))
  unfolding But better
  but_better k i m None h d = (omega arith, omega arith, d, λ x u v c e. absurd (c (h x u (omega arith))))
  but_better k i m (Some s) h d = pick (b s (i + suc m)) refl
    where
      pick : (v : Bool) → b s (i + suc m) ≡ v → But k i (i + suc m) (cond v (Some s) (Some (i + suc m)))
      pick true e = (h.0, omega (arith, h.1), h.2, λ x u v c f. elim (cases_eq x (i + suc m)) [ inl q ↦ rw q e | inr q ↦ h.3 x u (omega arith) c f ])
      pick false e =
          let back : b (i + suc m) s ≡ true = p.total s (i + suc m) (omega (arith, h.1)) e in
          (omega arith, omega arith, d, λ x u v c f. elim (cases_eq x s) [ inl q ↦ rw q back | inr q ↦ p.transitive (i + suc m) s x back (h.3 x u (omega arith) c q) ])

  but_same : (k i m : ℕ) (o : Option ℕ) → But k i (i + m) o → i + suc m ≡ k → But k i (i + suc m) o
  unfolding But
  but_same k i m None h e = λ x u v. elim (cases_eq x (i + suc m)) [ inl q ↦ q ∙ e | inr q ↦ h x u (omega arith) ]
  but_same k i m (Some s) h e = (h.0, omega (arith, h.1), h.2, λ x u v c f. h.3 x u (let g : x ≢ i + suc m = λ q. c (q ∙ e) in omega arith) c f)

  but_step : (k i m : ℕ) (o : Option ℕ) → But k i (i + m) o → (v : Bool) → eqb (i + suc m) k ≡ v → But k i (i + suc m) (cond v o (better b o (i + suc m)))
  but_step k i m o h true e = but_same k i m o h (eqb-true (i + suc m) k e)
  but_step k i m o h false e = but_better k i m o h (eqb-false (i + suc m) k e)

  but_found : (k i m : ℕ) → But k i (i + m) (best_but b k i m)
  unfolding best_but
  but_found k i zero = but_one k i (eqb i k) refl
  but_found k i (suc m) = but_step k i m (best_but b k i m) (but_found k i m) (eqb (i + suc m) k) refl

  second_by : (i j k : ℕ) (o : Option ℕ) → i ≤ j → Best b i j k → But k i j o → IsSecond b i j k o
  unfolding But
  second_by i j k None le h u = u i (omega arith) le ∙ sym (u j le (omega arith))
  second_by i j k (Some s) le h u = record { best = h; from = u.0; upto = u.1; other = u.2; over = u.3 }

-- by the ends of the range
range : (i j : ℕ) → i ≤ j → i + (j - i) ≡ j
range i j h = omega arith

pub best_is : (b : ℕ → ℕ → Bool) → Strict b → (i j : ℕ) → i ≤ j → Best b i j (best b i j)
best_is b p i j h = subst (λ z. Best b i z (best b i j)) (range i j h) (best_found b p i (j - i))

pub second_is : (b : ℕ → ℕ → Bool) → Strict b → (i j : ℕ) → i ≤ j → IsSecond b i j (best b i j) (second b i j)
second_is b p i j h =
    second_by b p i j (best b i j) (second b i j) h (best_is b p i j h) (subst (λ z. But b p (best b i j) i z (second b i j)) (range i j h) (but_found b p (best b i j) i (j - i)))
