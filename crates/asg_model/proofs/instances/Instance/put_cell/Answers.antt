use Rattle.asg_model.proofs.Common.{◌<◌, length, IfSome, sym, ap, ◌∙◌, subst, Problem}
use Rattle.asg_model.proofs.EditedInstances.{IsStored-put}
use Rattle.asg_model.proofs.instances.Instance.put_cell.Goals as goal

pub invariant_of-self : goal.invariant_of-self
invariant_of-self c =
    let s = c.self.inside in
    let rows_are = ap length (c.rows-rows.ensures.rows ∙ sym (ap (λ (X : Problem). X.rows) c.self.view_is)) in
    let columns_are = ap length (c.columns-columns.ensures.columns ∙ sym (ap (λ (X : Problem). X.columns) c.self.view_is)) in
    IsStored-put s.rows.items s.columns.items s.store c.put.new.self s.place c.unwrap-r.result c.unwrap-c.result
    (length c.rows-rows.result.now) (length c.columns-columns.result.now) c.args.cell c.put.result
    rows_are columns_are c.self.invariant
    (subst (λ n. c.unwrap-r.result < n) (ap length (sym c.rows-rows.ensures.rows)) (subst (λ o. IfSome o (λ k. k < length c.args.self.now.rows)) c.unwrap-r.ensures c.row_place.ensures.there))
    (subst (λ n. c.unwrap-c.result < n) (ap length (sym c.columns-columns.ensures.columns)) (subst (λ o. IfSome o (λ k. k < length c.args.self.now.columns)) c.unwrap-c.ensures c.column_place.ensures.there))
    c.requires.range c.put.ensures.put c.put.ensures.ordered c.put.ensures.kept c.put.ensures.whole
