use Rattle.std.proofs.Common.{ℕ, List, string_bytes, subst, inl, inr}
use Rattle.bits.specs.Bits.{lettered}
use Rattle.packing.specs.Reports.{Loaded}
use Rattle.std.proofs.lemmas.Result.{IfOk-weaker}
use Rattle.packing.proofs.report.report.Goals as goal

pub returns-in-Ok : goal.returns-in-Ok
returns-in-Ok c =
    let sheet = c.in-Ok.ensures in
    IfOk-weaker c.load_text.result _ _ (λ t l. inl (sheet.1, subst (λ (text : List ℕ). Loaded (lettered text) (string_bytes t)) sheet.0 l)) c.load_text.ensures

pub returns-in-Err : goal.returns-in-Err
returns-in-Err c = IfOk-weaker c.fault_text.result _ _ (λ t e. inr (c.in-Err.fault, (c.in-Err.ensures, e))) c.fault_text.ensures
