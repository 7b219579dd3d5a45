-- What a rebuild on a new board that takes its tape first comes to.
use Rattle.std.proofs.Common.{◌≡◌, ℕ, suc, ◌*◌, Bool, true, false, cond, List, [], length, get_or, take, drop, IfOk, IfErr, Some, Ok, Err, Option, Result, sym, ap, ◌∙◌, subst, arith}
use Rattle.std.proofs.lemmas.List.{take-append-le, take_all}
use Rattle.leaders.specs.Order.{Strict, beats, dearer}
use Rattle.leaders.specs.Sheet.{sheet}
use Rattle.leaders.specs.Rebuilt.{rebuilt}
use Rattle.leaders.specs.Refusal.{Refusal, refusal, answered}
use Rattle.leaders.specs.Verdict.{verdict}
use Rattle.leaders.proofs.Merging.{prices_strict, rebuilt_prices_cast_the_sheet}
use Rattle.rebuilding.specs.Rebuilding.{enough}
use Rattle.board.specs.declared.fault.BoardFault.{BoardFault}
use Rattle.board.specs.Faults.{told}
use Rattle.board.specs.Pages.{lots_by, rebuild_reply, Rewritten, Knows}
use Rattle.sale.specs.Promise.{CastByBook, Return, returned, Untouched, Written, Rebuilt}
use Rattle.sale.proofs.Priced.{book_casts, cast_by_book}
use Rattle.sale.proofs.Whole.{cast_when}

-- a tape that is refused: no book casts it
pub not_taken : (bits : List Bool) (w : Return) (e : Refusal) → verdict bits ≡ Err e → w.reply ≡ Err e → Untouched w → Rebuilt bits w
not_taken bits w e h said kept =
    let never : (n : ℕ) → CastByBook bits n → ⊥ = λ n c. let k = (cast_when bits n).1 c in let z : ◌≡◌ {A = ℕ} 0 1 = cc in omega arith in
    record {
      written = λ n c room. absurd (never n c);
      cramped = λ n c room. absurd (never n c);
      declined = λ f k. (said ∙ sym h ∙ k, kept);
    }

module _ (bits : List Bool) (lots : Option ℕ) (ps ws qs vs : List ℕ) (n : ℕ) (is : lots ≡ Some n) (by : CastByBook bits n) where
  reply_is : (v : Bool) → enough n (length ps) (length ws) ≡ v → rebuild_reply lots (length ps) (length ws) ≡ cond v (Ok n) (Err (refusal 13 []))
  reply_is v e = ap (λ l. rebuild_reply l (length ps) (length ws)) is ∙ ap (λ t. cond t (Ok n) (Err (refusal 13 []))) e

  -- with its room it is done
  done : (r : Result ℕ BoardFault) → answered told r ≡ Ok n → IfOk r (λ m. (b : ℕ → ℕ → Bool) → Knows b lots bits → Rewritten b m bits ps qs) → IfOk r (λ m. drop m qs ≡ drop m ps) → IfOk r (λ m. drop (4 * suc m) vs ≡ drop (4 * suc m) ws) →
      Written bits n (returned ps ws qs vs r)
  done (Err f) e w p q = absurd (let z : ◌≡◌ {A = ℕ} 0 1 = cc in omega arith)
  done (Ok m) e w p q =
      let same : m ≡ n = cc in
      let (few, (old, c)) = (cast_by_book bits n).1 by in
      let all : (b : ℕ → ℕ → Bool) → Strict b → sheet b n ≡ bits → Rewritten b n bits ps qs = λ b s k. subst (λ z. Rewritten b z bits ps qs) same (w b (subst (λ l. Knows b l bits) (sym is) (s, k))) in
      let o = beats dearer old in
      let it = all o (prices_strict old) c.cast in
      let r = rebuilt_prices_cast_the_sheet o (prices_strict old) n in
      let front : take n qs ≡ rebuilt o n = ap (take n) it.defined ∙ take-append-le n (rebuilt o n) (drop n ps) (omega (arith, r.many)) ∙ take_all n (rebuilt o n) (omega (arith, r.many)) in
      let many : length (take n qs) ≡ n = ap length front ∙ r.many in
      record {
        reply = ap Ok same;
        defined = λ b s k. (all b s k).defined;
        cast = book_casts bits (take n qs) (omega (arith, many, few)) (λ k. omega (arith, ap (λ z. get_or z k 0) front, r.most k, few)) (ap (sheet (beats dearer (take n qs))) many ∙ it.cast);
        past = subst (λ z. drop z qs ≡ drop z ps) same p;
        rest = subst (λ z. drop (4 * suc z) vs ≡ drop (4 * suc z) ws) same q;
      }

  -- without it, both lists remain
  refused_is : (r : Result ℕ BoardFault) → answered told r ≡ Err (refusal 13 []) → IfErr r (λ _. (qs ≡ ps) × (vs ≡ ws)) → (answered told r ≡ Err (refusal 13 [])) × Untouched (returned ps ws qs vs r)
  refused_is (Ok m) e u = absurd (let z : ◌≡◌ {A = ℕ} 0 1 = cc in omega arith)
  refused_is (Err f) e u = (e, u)

pub taken : (bits : List Bool) (lots : Option ℕ) (ps ws qs vs : List ℕ) (m : ℕ) (r : Result ℕ BoardFault) → verdict bits ≡ Ok m → lots ≡ lots_by (verdict bits) →
    answered told r ≡ rebuild_reply lots (length ps) (length ws) → IfErr r (λ _. (qs ≡ ps) × (vs ≡ ws)) →
    IfOk r (λ k. (b : ℕ → ℕ → Bool) → Knows b lots bits → Rewritten b k bits ps qs) → IfOk r (λ k. drop k qs ≡ drop k ps) → IfOk r (λ k. drop (4 * suc k) vs ≡ drop (4 * suc k) ws) →
    Rebuilt bits (returned ps ws qs vs r)
taken bits lots ps ws qs vs m r h has said kept w p q =
    let lots_are : (n : ℕ) → CastByBook bits n → lots ≡ Some n = λ n c. has ∙ ap lots_by ((cast_when bits n).1 c) in
    record {
      written = λ n c room. done bits lots ps ws qs vs n (lots_are n c) c r (said ∙ reply_is bits lots ps ws qs vs n (lots_are n c) c true room) w p q;
      cramped = λ n c room. refused_is bits lots ps ws qs vs n (lots_are n c) c r (said ∙ reply_is bits lots ps ws qs vs n (lots_are n c) c false room) kept;
      declined = λ e k. absurd (let z : ◌≡◌ {A = ℕ} 0 1 = cc in omega arith);
    }
