use Rattle.asg_model.proofs.Common.{sym, ap, ◌∙◌, active_count}
use Rattle.asg_model.proofs.EditedInstances.{IsStored-dropped}
use Rattle.asg_model.proofs.instances.Instance.drop_row.Goals as goal

pub invariant_of-self : goal.invariant_of-self
invariant_of-self c =
    let s = c.self.inside in
    IsStored-dropped s.rows.items c.drop_row.new.rows.items s.columns.items s.store s.place c.args.id c.self.invariant
    (λ one. c.requires (sym (ap active_count c.self.view_is) ∙ one))
    c.drop_row.ensures
