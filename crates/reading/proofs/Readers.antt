-- The steps of the readers' loops.
use Rattle.std.proofs.Common.{◌≡◌, ℕ, zero, suc, ◌-◌, ◌<◌, Bool, true, false, List, [], ◌∷◌, ap, ◌∙◌, arith}
use Rattle.leaders.specs.Tree.{sooner}

-- the loop of `zero_first`: what is left begins with the bit that is read
module _ (bs rest : List Bool) (b : Bool) (x y : ℕ) (first : bs ≡ b ∷ rest) where
  pub sooner_one : b ≡ true → 0 < y → sooner bs x y ≡ sooner rest x (y - 1)
  unfolding sooner
  sooner_one t h = ap (λ z. sooner z x y) (first ∙ ap (λ c. c ∷ rest) t) ∙ go y h
    where
      go : (y : ℕ) → 0 < y → sooner (true ∷ rest) x y ≡ sooner rest x (y - 1)
      go zero h = absurd (omega arith)
      go (suc y) h = ap (sooner rest x) (let z : y ≡ suc y - 1 = omega arith in z)

  pub sooner_zero : b ≡ false → 0 < x → sooner bs x y ≡ sooner rest (x - 1) y
  unfolding sooner
  sooner_zero t h = ap (λ z. sooner z x y) (first ∙ ap (λ c. c ∷ rest) t) ∙ go x h
    where
      go : (x : ℕ) → 0 < x → sooner (false ∷ rest) x y ≡ sooner rest (x - 1) y
      go zero h = absurd (omega arith)
      go (suc x) h = ap (λ n. sooner rest n y) (let z : x ≡ suc x - 1 = omega arith in z)

  pub sooner_last_one : b ≡ true → y ≡ 0 → sooner bs x y ≡ false
  unfolding sooner
  sooner_last_one t h = ap (sooner bs x) h ∙ ap (λ z. sooner z x 0) (first ∙ ap (λ c. c ∷ rest) t)

  pub sooner_last_zero : b ≡ false → x ≡ 0 → sooner bs x y ≡ true
  unfolding sooner
  sooner_last_zero t h = ap (λ n. sooner bs n y) h ∙ ap (λ z. sooner z 0 y) (first ∙ ap (λ c. c ∷ rest) t)

pub sooner_done : (bs : List Bool) (x y : ℕ) → bs ≡ [] → sooner bs x y ≡ false
unfolding sooner
sooner_done bs x y e = ap (λ z. sooner z x y) e
