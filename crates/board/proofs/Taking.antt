-- A take that answers as the verdict does accepts exactly what some book of prices casts.
use Rattle.std.proofs.Common.{◌≡◌, ℕ, Bool, ◌↔◌, List, Ok, Err, Result, sym, ap, ◌∙◌, arith}
use Rattle.leaders.specs.Refusal.{answered}
use Rattle.leaders.specs.Verdict.{verdict}
use Rattle.leaders.proofs.Promises.{accepted_exactly_when_cast}
use Rattle.board.specs.declared.fault.BoardFault.{BoardFault}
use Rattle.board.specs.Faults.{told}
use Rattle.board.specs.Pages.{CastBySome}

was_ok : (r : Result ℕ BoardFault) (n : ℕ) → answered told r ≡ Ok n → r ≡ Ok n
was_ok (Ok m) n e = let z : m ≡ n = cc in ap Ok z
was_ok (Err f) n e = absurd (let z : ◌≡◌ {A = ℕ} 0 1 = cc in omega arith)

pub taken_when : (r : Result ℕ BoardFault) (bits : List Bool) → answered told r ≡ verdict bits → (n : ℕ) → (r ≡ Ok n) ↔ CastBySome bits n
taken_when r bits e n = (
  λ h. (accepted_exactly_when_cast bits n).0 (sym e ∙ ap (answered told) h),
  λ h. was_ok r n (e ∙ (accepted_exactly_when_cast bits n).1 h),
)
