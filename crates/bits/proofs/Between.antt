-- Lemmas on the bits from one place up to another: the first of them and the others, the last and those before it.
use Rattle.std.proofs.Common.{◌≡◌, ℕ, zero, suc, ◌+◌, ◌<◌, ◌≤◌, Bool, List, [], ◌∷◌, ◌++◌, take, drop, Some, ap, add-one, arith}
use Rattle.std.specs.List.{slice_get}

-- the first bit, and those after it
pub between_first : (bs : List Bool) (from upto : ℕ) (b : Bool) → from < upto → slice_get bs from ≡ Some b → drop from (take upto bs) ≡ b ∷ drop (from + 1) (take upto bs)
between_first bs from upto b h e = rw (add-one from) (go bs from upto h e)
  where
    go : (bs : List Bool) (i u : ℕ) → i < u → slice_get bs i ≡ Some b → drop i (take u bs) ≡ b ∷ drop (suc i) (take u bs)
    go [] i u h e = absurd (let z : ◌≡◌ {A = ℕ} 0 1 = cc in omega arith)
    go (x ∷ bs) i zero h e = absurd (omega arith)
    go (x ∷ bs) zero (suc u) h e = cc
    go (x ∷ bs) (suc i) (suc u) h e = go bs i u (omega arith) e

-- the last bit, and those before it
pub between_last : (bs : List Bool) (from upto last : ℕ) (b : Bool) → upto ≡ suc last → from ≤ last → slice_get bs last ≡ Some b → drop from (take upto bs) ≡ drop from (take last bs) ++ b ∷ []
between_last bs from upto last b u h e = rw u (go bs from last h e)
  where
    go : (bs : List Bool) (i u : ℕ) → i ≤ u → slice_get bs u ≡ Some b → drop i (take (suc u) bs) ≡ drop i (take u bs) ++ b ∷ []
    go [] i u h e = absurd (let z : ◌≡◌ {A = ℕ} 0 1 = cc in omega arith)
    go (x ∷ bs) zero zero h e = cc
    go (x ∷ bs) zero (suc u) h e = ap (λ ys. x ∷ ys) (go bs zero u (omega arith) e)
    go (x ∷ bs) (suc i) zero h e = absurd (omega arith)
    go (x ∷ bs) (suc i) (suc u) h e = go bs i u (omega arith) e
