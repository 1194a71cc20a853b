use Rattle.asg_model.proofs.Common.{◌≡◌, List, length, sym, ap, ◌∙◌, subst, cells_in, Problem, retained, AnswersAs, RetainsCells, Column}
use Rattle.asg_model.proofs.RetainedStores.{retained_view}
use Rattle.asg_model.proofs.instances.Instance.retain.Goals as goal
use Rattle.asg_model.proofs.instances.Instance.retain.Goals.{After-columns-columns}

pub returns-clause-cells : goal.returns-clause-cells
returns-clause-cells g c keeps agree =
    let s = c.self.inside in
    let answers = goal.F-post g c.args.keep.now in
    let columns : length c.columns-columns.result.now ≡ length s.columns.items =
    ap (λ (list : List Column). length list) c.columns-columns.ensures.columns ∙ sym (ap (λ (X : Problem). length X.columns) c.self.view_is) in
    let there = subst (λ (X : Problem). AnswersAs (length X.rows) (length X.columns) answers keeps) (sym c.self.view_is) agree in
    retained_view s.rows.items s.columns.items s.store s.place c.retain_stored.new.store answers keeps c.self.invariant
    (subst (λ n. RetainsCells answers (cells_in n s.store) (cells_in n c.retain_stored.new.store)) columns c.retain_stored.ensures.cells) there
    ∙ ap (λ X. retained X keeps) c.self.view_is
