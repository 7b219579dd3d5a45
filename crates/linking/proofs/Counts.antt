-- A run of ones on a tape: how many stand at the front, and what stands behind the zero that ends them.
use Rattle.std.proofs.Common.{◌≡◌, ℕ, zero, suc, ◌+◌, ◌<◌, ◌≤◌, Bool, List, ◌++◌, length, drop, drop-drop, sym, refl, ap, ◌∙◌, arith}
use Rattle.std.specs.List.{prefix_len}
use Rattle.std.proofs.lemmas.List.{length-drop}
use Rattle.leaders.specs.Sheet.{unary}

pub run_length : (d : ℕ) (rest : List Bool) → prefix_len (λ b. b) (unary d ++ rest) ≡ d
unfolding unary
run_length zero rest = refl
run_length (suc d) rest = omega (arith, run_length d rest)

behind : (d : ℕ) (rest : List Bool) → drop (suc d) (unary d ++ rest) ≡ rest
unfolding unary
behind zero rest = refl
behind (suc d) rest = behind d rest

run_long : (d : ℕ) (rest : List Bool) → d < length (unary d ++ rest)
unfolding unary
run_long zero rest = omega arith
run_long (suc d) rest = omega (arith, run_long d rest)

-- the run begins at bit `at`, and `next` is the bit behind its zero
pub run_is : (bs rest : List Bool) (at d ones next : ℕ) → drop at bs ≡ unary d ++ rest → ones ≡ prefix_len (λ b. b) (drop at bs) → (at + ones + 1 ≤ length bs → next ≡ at + ones + 1) → (ones ≡ d) × (drop next bs ≡ rest)
run_is bs rest at d ones next e f n =
    let is : ones ≡ d = f ∙ ap (prefix_len (λ b. b)) e ∙ run_length d rest in
    let long : at + ones + 1 ≤ length bs = omega (arith, is, run_long d rest, ap length e, length-drop at bs) in
    let place : next ≡ at + suc d = omega (arith, is, n long) in
    let step : drop (suc d) (drop at bs) ≡ drop (at + suc d) bs = drop-drop (suc d) at bs in
    (is, ap (λ k. drop k bs) place ∙ sym step ∙ ap (drop (suc d)) e ∙ behind d rest)
