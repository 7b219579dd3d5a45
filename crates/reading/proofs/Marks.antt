-- Marks: where the numbers of lots begin, found by going forward over zeros.
use Rattle.std.proofs.Common.{◌≡◌, ℕ, zero, suc, ◌+◌, ◌-◌, ◌<◌, Bool, true, false, cond, List, [], ◌∷◌, drop, Some, sym, ap, ◌∙◌, arith}
use Rattle.std.proofs.lemmas.Bool.{ne_eqb}
use Rattle.reading.specs.Place.{after}
use Rattle.reading.specs.Reading.{reach, is_left_first, runner_up_of}

pub after_add : (i m : ℕ) (bs : List Bool) → after (i + m) bs ≡ after i bs + after m (drop (after i bs) bs)
unfolding after
after_add zero m bs = let e : 0 + m ≡ m = omega arith in ap (λ z. after z bs) e ∙ omega arith
after_add (suc i) zero [] = let e : suc i + 0 ≡ suc i = omega arith in rw e
after_add (suc i) (suc m) [] = let e : suc i + suc m ≡ suc (i + suc m) = omega arith in rw e
after_add (suc i) m (true ∷ bs) = let e : suc i + m ≡ suc (i + m) = omega arith in let h = after_add (suc i) m bs in rw e (ap suc (ap (λ z. after z bs) (sym e) ∙ h) ∙ omega arith)
after_add (suc i) m (false ∷ bs) = let e : suc i + m ≡ suc (i + m) = omega arith in rw e (ap suc (after_add i m bs) ∙ omega arith)

-- the second of a range whose best has lots on both sides
pub chosen : (bs : List Bool) (lots i j k a above next : ℕ) (t : Bool) → i < k → k < j → a ≡ (reach bs i (k - 1)).best → above ≡ (reach bs (k + 1) j).above → next ≡ (reach bs (k + 1) j).best → t ≡ is_left_first bs lots k a above → Some (cond t a next) ≡ runner_up_of bs lots i j k
unfolding runner_up_of
chosen bs lots i j k a above next t h g e f n l = rw (ne_eqb i k (omega arith), ne_eqb k j (omega arith), ← e, ← f, ← n, ← l)
