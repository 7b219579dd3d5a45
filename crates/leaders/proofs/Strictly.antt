-- Keys in an order that is total and transitive give a strict order of lots.
use Rattle.std.proofs.Common.{◌≡◌, ℕ, Bool, true, false, ltb, ◌≢◌, ◌⊎◌, List, Some, None, Option, refl, arith}
use Rattle.std.proofs.lemmas.Bool.Decides.{nat_tests}
use Rattle.leaders.specs.Order.{Strict, key_of, leads_lot, beats}

module _ {K : Type 0} (ge : K → K → Bool) (either : (x y : K) → (ge x y ≡ true) ⊎ (ge y x ≡ true)) (follows : (x y z : K) → ge x y ≡ true → ge y z ≡ true → ge x z ≡ true) where
  itself : (o : Option K) (i : ℕ) → leads_lot ge o o (ltb i i) ≡ false
  unfolding leads_lot
  itself (Some x) i = grind (arith, nat_tests)
  itself None i = grind (arith, nat_tests)

  other : (o p : Option K) (i j : ℕ) → i ≢ j → leads_lot ge o p (ltb i j) ≡ false → leads_lot ge p o (ltb j i) ≡ true
  unfolding leads_lot
  other (Some x) (Some y) i j d e = let t = either x y in grind (arith, nat_tests)
  other (Some x) None i j d e = cc
  other None (Some y) i j d e = refl
  other None None i j d e = grind (arith, nat_tests)

  chain : (o p q : Option K) (i j k : ℕ) → leads_lot ge o p (ltb i j) ≡ true → leads_lot ge p q (ltb j k) ≡ true → leads_lot ge o q (ltb i k) ≡ true
  unfolding leads_lot
  chain (Some x) (Some y) (Some z) i j k d e = let t = follows x y z in let u = follows y z x in let v = follows z x y in grind (arith, nat_tests)
  chain (Some x) (Some y) None i j k d e = refl
  chain (Some x) None (Some z) i j k d e = cc
  chain (Some x) None None i j k d e = refl
  chain None (Some y) q i j k d e = cc
  chain None None (Some z) i j k d e = cc
  chain None None None i j k d e = grind (arith, nat_tests)

  pub keys_order_lots : (ks : List K) → Strict (beats ge ks)
  unfolding beats
  keys_order_lots ks = record {
    irreflexive = λ i. itself (key_of ks i) i;
    total = λ i j. other (key_of ks i) (key_of ks j) i j;
    transitive = λ i j k. chain (key_of ks i) (key_of ks j) (key_of ks k) i j k;
  }
