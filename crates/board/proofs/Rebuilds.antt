-- What a rebuild answers and writes.
use Rattle.std.proofs.Common.{◌≡◌, ℕ, Bool, true, List, [], ◌++◌, take, drop, Some, Ok, Err, Option, sym, ap, ◌∙◌, subst, arith}
use Rattle.std.proofs.lemmas.List.{take-append-le, take_all}
use Rattle.std.proofs.lemmas.Bool.{cond-true}
use Rattle.leaders.specs.Order.{Strict, beats, dearer}
use Rattle.leaders.specs.Sheet.{sheet}
use Rattle.leaders.specs.Rebuilt.{rebuilt}
use Rattle.leaders.specs.Refusal.{refusal}
use Rattle.leaders.proofs.Merging.{rebuilt_prices_cast_the_sheet}
use Rattle.rebuilding.specs.Rebuilding.{enough}
use Rattle.board.specs.Pages.{rebuild_reply, Rewritten, Knows}

pub rebuild_done : (lots : Option ℕ) (n prices numbers : ℕ) → lots ≡ Some n → true ≡ enough n prices numbers → Ok n ≡ rebuild_reply lots prices numbers
rebuild_done lots n prices numbers e h = sym (ap (λ l. rebuild_reply l prices numbers) e ∙ cond-true (enough n prices numbers) (Ok n) (Err (refusal 13 [])) (sym h))

pub rewritten : (lots : Option ℕ) (n : ℕ) (bits : List Bool) (before after : List ℕ) → lots ≡ Some n → ((b : ℕ → ℕ → Bool) → Strict b → sheet b n ≡ bits → after ≡ rebuilt b n ++ drop n before) →
    (b : ℕ → ℕ → Bool) → Knows b lots bits → Rewritten b n bits before after
rewritten lots n bits before after e h b k =
    let known : Knows b (Some n) bits = subst (λ l. Knows b l bits) e k in
    let w = h b known.0 known.1 in
    let r = rebuilt_prices_cast_the_sheet b known.0 n in
    let front : take n after ≡ rebuilt b n = ap (take n) w ∙ take-append-le n (rebuilt b n) (drop n before) (omega (arith, r.many)) ∙ take_all n (rebuilt b n) (omega (arith, r.many)) in
    record { defined = w; cast = ap (λ ps. sheet (beats dearer ps) n) front ∙ r.cast ∙ known.1 }
