use Rattle.std.proofs.Common.{◌≡◌, ℕ, zero, suc, ◌+◌, ◌-◌, ◌<◌, ◌≤◌, List, [], ◌∷◌, length, get_or, take, drop, set, unwrap_or, sym, refl, ap, ◌∙◌, arith, rules, tests}
use Rattle.std.proofs.lemmas.Iterator.{YieldsList-from_slice, IsFirst-from_position, index_from_first}
use Rattle.std.proofs.lemmas.List.{length-drop, take_all}
use Rattle.leaders.specs.Verdict.{spent, taken}
use Rattle.reading.specs.declared.path.TheConstants.{MOST_BRACKETS}
use Rattle.reading.proofs.Checks.{next_full, next_none, push_full, push_none}
use Rattle.reading.proofs.path.Path.settle.Goals as goal
use Rattle.reading.proofs.path.Path.settle.Goals.{After-unwrap_or-before, then-next-lt-MOST_BRACKETS, else-next-lt-MOST_BRACKETS}

spent_hit : (x : ℕ) (xs : List ℕ) → 0 < x → spent (x ∷ xs) ≡ 0
unfolding spent
spent_hit zero xs h = absurd (omega arith)
spent_hit (suc x) xs h = refl

spent_miss : (x : ℕ) (xs : List ℕ) → x ≡ 0 → spent (x ∷ xs) ≡ spent xs + 1
unfolding spent
spent_miss zero xs h = omega arith
spent_miss (suc x) xs h = absurd (omega arith)

spent_le : (xs : List ℕ) → spent xs ≤ length xs
unfolding spent
spent_le [] = omega arith
spent_le (zero ∷ xs) = omega (arith, spent_le xs)
spent_le (suc x ∷ xs) = omega arith

-- the place of the first node that has a child place left is the number of those before it, which have none
first : (c : After-unwrap_or-before) → c.unwrap_or-before.result ≡ spent c.args.self.now
unfolding spent
first c =
    let nodes = drop c.self.inside.top c.self.inside.places in
    let rest : take (MOST_BRACKETS - c.self.inside.top) nodes ≡ nodes = take_all (MOST_BRACKETS - c.self.inside.top) nodes (omega (arith, length-drop c.self.inside.top c.self.inside.places)) in
    let found =
    IsFirst-from_position c.position.new.self _ c.position.result (λ x. 0 < x) (λ x. x ≡ 0) c.position.ensures.ran
    (YieldsList-from_slice nodes (c.iter.ensures.rest ∙ rest)) (λ x q k. search (rules, tests)) (λ x q k. search (rules, tests)) in
    c.unwrap_or-before.ensures ∙ ap (λ (xs : List ℕ). unwrap_or c.position.result (length xs)) rest
    ∙ sym (index_from_first spent (λ x. 0 < x) (λ x. x ≡ 0) refl spent_hit spent_miss nodes c.position.result found)
    ∙ ap spent c.self.view_is

pub returns-clause-before : goal.returns-clause-before
returns-clause-before c = first (goal.at.returns-clause-before c).After-unwrap_or-before

pub returns-clause-path : goal.returns-clause-path
returns-clause-path c =
    let st = c.self.inside.places in
    let top = c.self.inside.top in
    let d = c.args.d in
    let next = top + c.unwrap_or-before.result in
    let is : next ≡ top + spent (drop top st) = omega (arith, first (goal.at.returns-clause-path c).After-unwrap_or-before, ap spent c.self.view_is) in
    let some : 1 ≤ top = omega (arith, length-drop top st, ap length c.self.view_is, c.requires) in
    elim c.if-next-lt-MOST_BRACKETS.branch [
      | then-next-lt-MOST_BRACKETS w ↦
          ap (λ z. drop (next - 1) (set z.places (next - 1) d)) w.self-inside-is
          ∙ push_full st next (get_or st next 0 - 1) d (omega arith) (omega arith)
          ∙ ap (λ z. d ∷ z) (sym (next_full st top next is (omega arith) (omega arith)).1)
          ∙ ap (λ z. d ∷ taken z) c.self.view_is
      | else-next-lt-MOST_BRACKETS w ↦
          ap (λ z. drop (next - 1) (set z.places (next - 1) d)) w.self-inside-is
          ∙ push_none st next d (omega arith) (omega (arith, is, spent_le (drop top st), length-drop top st))
          ∙ ap (λ z. d ∷ z) (sym (next_none st top next is (omega arith) (omega arith)))
          ∙ ap (λ z. d ∷ taken z) c.self.view_is
    ]
