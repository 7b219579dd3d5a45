use Rattle.std.proofs.Common.{sym, refl, ◌∙◌}
use Rattle.std.proofs.lemmas.Slice.Eq.{slice_eq-Decides}
use Rattle.std.proofs.lemmas.Bool.{both_ways, not-true}
use Rattle.std.proofs.lemmas.Bool.Decides.{Decides-eqb}
use Rattle.panel.proofs.Meanings.{means_not}
use Rattle.panel.proofs.face_panel.FacePanelPanel.shown.Goals as goal

pub returns-then-ne-clause-shown : goal.returns-then-ne-clause-shown
returns-then-ne-clause-shown g c =
    let same = slice_eq-Decides Decides-eqb _ _ _ refl in
    means_not g.F.Face.drawn c.args.self.now.cells c.guess-seen.result c.guess-seen.ensures.read
    (λ e. both_ways _ (not-true _ (sym c.ne.ensures ∙ c.if-ne.true)) (same.1 (c.draw.ensures.cells ∙ e)))
