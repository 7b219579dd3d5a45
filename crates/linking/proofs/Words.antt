-- The words before a lot's word, one more.
use Rattle.std.proofs.Common.{◌≡◌, ℕ, suc, ◌+◌, ◌-◌, ◌*◌, ◌<◌, Bool, List, length, set, ap, ◌∙◌, inl, inr, arith, length-append, get_or-set_other, get_or-set_same}
use Rattle.std.proofs.lemmas.Bool.{cases_eq}
use Rattle.leaders.specs.Sheet.{spread, spine_of}
use Rattle.links.proofs.Loops.{spread_last}
use Rattle.linking.specs.Linking.{Starts}

-- the words of the first lots, with one more
pub words_more : (f : ℕ → List Bool) (i : ℕ) → length (spread f 1 (i + 1)) ≡ length (spread f 1 i) + length (f (i + 1))
words_more f i = let e : i + 1 ≡ suc i = omega arith in rw e (ap length (spread_last f i) ∙ length-append (spread f 1 i) (f (suc i)))

pub starts_more : (b : ℕ → ℕ → Bool) (n i at : ℕ) (starts : List ℕ) → i < length starts → at ≡ 2 * n + 2 + length (spread (spine_of b n) 1 i) → Starts b n i starts → Starts b n (i + 1) (set starts i at)
starts_more b n i at starts long e h m p q = elim (cases_eq m (i + 1)) [
  | inl z ↦ let w : m - 1 ≡ i = omega arith in rw w (get_or-set_same starts i at 0 long ∙ e)
  | inr z ↦ get_or-set_other starts i (m - 1) at 0 (omega arith) ∙ h m p (omega arith)
]
