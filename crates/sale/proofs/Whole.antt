-- The whole promise, from the ledgers, the sitting and the rebuild, and the theorems on sheets.
use Rattle.std.proofs.Common.{◌≡◌, ℕ, ◌≤◌, Bool, ◌↔◌, List, length, Ok, Err, Result, sym, refl, ap, ◌∙◌, subst, arith}
use Rattle.leaders.specs.Order.{Strict, beats}
use Rattle.leaders.specs.Sheet.{sheet}
use Rattle.leaders.specs.Refusal.{Refusal}
use Rattle.leaders.specs.Verdict.{verdict}
use Rattle.leaders.proofs.Promises.{accepted_exactly_when_cast, equal_sheets_exactly_when_equal_leaders}
use Rattle.ledger.specs.Ledger.{blank}
use Rattle.board.specs.declared.call.BoardReply.TheVariants.{Taken}
use Rattle.board.specs.Pages.{lots_by, Knows}
use Rattle.board.specs.Showing.{take_answer}
use Rattle.board.specs.Sitting.{Sitting, Sat}
use Rattle.board.proofs.Sittings.{some_order, knows_sheet}
use Rattle.ledger.specs.Plays.{Play, ledger_at, order, ByTheLedger}
use Rattle.sale.specs.Promise.{EqualSheets, CastByBook, TakenWhenCast, Led, Declined, ShownBy, Return, Rebuilt, Promise}
use Rattle.sale.proofs.Histories.{after_few, cast_is, ends_in}
use Rattle.sale.proofs.Priced.{cast_by_book}

-- what each of the two lists brings: its keys are ordered, it has a room for each punch, at most 4,000 lots, and it went by the ledger
pub record Kept {K : Type 0} (p : Play K) : Type 0 where
  pub ordered : (ks : List K) → Strict (beats p.terms.at_least ks)
  pub even : length p.before ≡ length p.terms.rooms
  pub most : p.terms.most ≤ 4000
  pub by : ByTheLedger p

equal_sheets : {K L : Type 0} (p : Play K) (q : Play L) → Kept p → Kept q → EqualSheets p q
equal_sheets p q h k f g n m c d =
    let ks = (ledger_at p p.calls).lots in
    let ls = (ledger_at q q.calls).lots in
    let x = ends_in p h.even h.by f n c in
    let y = ends_in q k.even k.by g m d in
    let e = equal_sheets_exactly_when_equal_leaders (order p ks) (order q ls) (h.ordered ks) (k.ordered ls) (length ks) (length ls) in
    (λ z. e.0 (sym x ∙ z ∙ y), λ z. x ∙ e.1 z ∙ sym y)

-- what a take answers, as to the books that cast the bits
answer_when : (v : Result ℕ Refusal) (n : ℕ) → (take_answer v ≡ Ok (Taken n)) ↔ (v ≡ Ok n)
answer_when (Ok m) n = (λ h. let z : m ≡ n = cc in ap Ok z, λ h. let z : m ≡ n = cc in ap (λ k. Ok (Taken k)) z)
answer_when (Err e) n = (λ h. absurd (let z : ◌≡◌ {A = ℕ} 0 1 = cc in omega arith), λ h. absurd (let z : ◌≡◌ {A = ℕ} 0 1 = cc in omega arith))

pub cast_when : (bits : List Bool) (n : ℕ) → (verdict bits ≡ Ok n) ↔ CastByBook bits n
cast_when bits n =
    let a = accepted_exactly_when_cast bits n in
    let c = cast_by_book bits n in
    (λ h. c.0 (a.0 h), λ h. a.1 (c.1 h))

module _ (bits : List Bool) (s : Sitting) (sat : (b : ℕ → ℕ → Bool) → Knows b (lots_by (verdict bits)) bits → Sat b (verdict bits) s) where
  taken_when_cast : TakenWhenCast bits s
  taken_when_cast f g a h n =
      let (b, k) = some_order bits (verdict bits) refl in
      let e = (sat b k).takes f g a h in
      let w = answer_when (verdict bits) n in
      let c = cast_when bits n in
      (λ z. c.0 (w.0 (sym e ∙ z)), λ z. e ∙ w.1 (c.1 z))

  declined : Declined bits s
  declined e h b = subst (λ v. Sat b v s) h (sat b (subst (λ v. Knows b (lots_by v) bits) (sym h) tt))

  led : Led bits s
  led b strict n few e = let w = knows_sheet b strict n few bits e in subst (λ v. Sat b v s) w.0 (sat b w.1)

  shown_by : {K : Type 0} (p : Play K) → Kept p → ShownBy p bits s
  shown_by p h f g n c e =
      let ks = (ledger_at p f).lots in
      let b = order p ks in
      let cast : sheet b (length ks) ≡ bits = sym (cast_is p h.even h.by f g n c).1 ∙ e in
      let few : length ks ≤ 4000 = omega (arith, after_few p.terms (blank p.before) f (omega arith), h.most) in
      led b (h.ordered ks) (length ks) few cast

  pub promise : {K L : Type 0} (p : Play K) (q : Play L) (w : Return) → Kept p → Kept q → length s.answers ≡ length s.calls → Rebuilt bits w → Promise p q bits s w
  promise p q w h k a r = record {
    first = h.by;
    second = k.by;
    equal = equal_sheets p q h k;
    answered = a;
    taken = taken_when_cast;
    led = led;
    declined = declined;
    rebuilt = r;
    shown = shown_by p h;
    shown_too = shown_by q k;
  }
