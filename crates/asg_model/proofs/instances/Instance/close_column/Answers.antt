use Rattle.asg_model.proofs.EditedInstances.{IsStored-closed}
use Rattle.asg_model.proofs.instances.Instance.close_column.Goals as goal

pub invariant_of-self : goal.invariant_of-self
invariant_of-self c =
    let s = c.self.inside in
    IsStored-closed s.rows.items s.columns.items c.close_column.new.columns.items s.store s.place c.args.id c.self.invariant c.close_column.ensures
