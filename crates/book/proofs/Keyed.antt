-- Which of two lots of a list of keys leads, by the keys at their places.
use Rattle.std.proofs.Common.{◌≡◌, ℕ, zero, suc, ◌-◌, ◌≤◌, Bool, ltb, List, length, get_or, Some, sym, ap, ◌∙◌, arith}
use Rattle.std.proofs.lemmas.Option.{slice_get-get_or}
use Rattle.leaders.specs.Order.{key_of, leads, leads_lot, beats}

module _ {K : Type 0} (ge : K → K → Bool) (ks : List K) where
  key_at : (i : ℕ) (d : K) → 1 ≤ i → i ≤ length ks → key_of ks i ≡ Some (get_or ks (i - 1) d)
  unfolding key_of
  key_at zero d h g = absurd (omega arith)
  key_at (suc i) d h g = let s : suc i - 1 ≡ i = omega arith in slice_get-get_or ks i d (omega arith) ∙ ap Some (ap (λ z. get_or ks z d) (sym s))

  pub beats_at : (i j : ℕ) (d e : K) → 1 ≤ i → i ≤ length ks → 1 ≤ j → j ≤ length ks → leads ge (get_or ks (i - 1) d) (get_or ks (j - 1) e) (ltb i j) ≡ beats ge ks i j
  unfolding beats leads_lot
  beats_at i j d e p q r s = rw (key_at i d p q, key_at j e r s)
