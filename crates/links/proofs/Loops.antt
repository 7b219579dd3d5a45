-- Steps of loops over lots: walks along rising numbers, and lists that lots give, joined.
use Rattle.std.proofs.Common.{◌≡◌, ℕ, zero, suc, ◌+◌, ◌-◌, ◌<◌, ◌≤◌, Bool, ◌≢◌, ◌⊎◌, List, [], ◌∷◌, ◌++◌, length, get_or, refl, sym, ap, ◌∙◌, inl, inr, append_assoc, arith}
use Rattle.std.proofs.lemmas.List.{append-nil}
use Rattle.std.proofs.Math.Logic.{∥∥₁_elim}
use Rattle.std.proofs.Math.Bridge.{le_prop}
use Rattle.leaders.specs.Sheet.{spread}
use Rattle.links.specs.Walks.{Chain, Rises}

-- how far a rising walk can go on from x
abbrev pub ahead : ℕ → ℕ → ℕ
ahead n zero = 0
ahead n (suc x) = n - x

less : (n x y : ℕ) → x ≢ 0 → x ≤ n → (y ≡ 0) ⊎ (x < y) → ahead n y < ahead n x
less n zero y d p h = absurd (d refl)
less n (suc x) zero d p h = omega arith
less n (suc x) (suc y) d p h = elim h [ inl e ↦ absurd (omega arith) | inr e ↦ omega arith ]

pub walk_less : (n : ℕ) (next : List ℕ) (x : ℕ) → x ≢ 0 → x ≤ n → ∥ Rises n next ∥₁ → ahead n (get_or next x 0) < ahead n x
walk_less n next x d p h = ∥∥₁_elim h le_prop (λ r. less n x (get_or next x 0) d p (r x p))

pub walk_more : (next : List ℕ) (x s m : ℕ) → x ≢ 0 → ((ys : List ℕ) × Chain next x ys × (s + length ys ≡ m)) → (ys : List ℕ) × Chain next (get_or next x 0) ys × (s + 1 + length ys ≡ m)
walk_more next x s m d ([], e, h) = absurd (d e)
walk_more next x s m d (y ∷ ys, e, h) = (ys, (rw e.0 e.2), omega arith)

pub walk_end : (next : List ℕ) (x s m : ℕ) → x ≡ 0 → ((ys : List ℕ) × Chain next x ys × (s + length ys ≡ m)) → s ≡ m
walk_end next x s m d ([], e, h) = omega arith
walk_end next x s m d (y ∷ ys, e, h) = absurd (omega (arith, e.0, e.1))

pub spread_step : (f : ℕ → List Bool) (n t : ℕ) → t < n → spread f t (n - t) ≡ f t ++ spread f (t + 1) (n - (t + 1))
unfolding spread
spread_step f n t h =
    let e : n - t ≡ suc (n - (t + 1)) = omega arith in
    let i : t + 1 ≡ suc t = omega arith in
    rw (e, i)

pub spread_end : (f : ℕ → List Bool) (n t : ℕ) → n ≤ t → spread f t (n - t) ≡ []
unfolding spread
spread_end f n t h = let e : n - t ≡ 0 = omega arith in rw e

-- a list that lots give, in two parts
pub spread_parts : (f : ℕ → List Bool) (i m r : ℕ) → spread f i (m + r) ≡ spread f i m ++ spread f (i + m) r
unfolding spread
spread_parts f i zero r = let e : 0 + r ≡ r = omega arith in let d : i + 0 ≡ i = omega arith in rw (e, d)
spread_parts f i (suc m) r =
    let e : suc m + r ≡ suc (m + r) = omega arith in
    let d : suc i + m ≡ i + suc m = omega arith in
    rw e (ap (λ w. f i ++ w) (spread_parts f (suc i) m r ∙ ap (λ j. spread f (suc i) m ++ spread f j r) d) ∙ sym (append_assoc (f i) (spread f (suc i) m) (spread f (i + suc m) r)))

-- with one lot more
pub spread_last : (f : ℕ → List Bool) (m : ℕ) → spread f 1 (suc m) ≡ spread f 1 m ++ f (suc m)
unfolding spread
spread_last f m =
    let e : suc m ≡ m + 1 = omega arith in
    let d : 1 + m ≡ suc m = omega arith in
    ap (spread f 1) e ∙ spread_parts f 1 m 1 ∙ ap (λ j. spread f 1 m ++ (f j ++ [])) d ∙ ap (λ w. spread f 1 m ++ w) (append-nil (f (suc m)))
