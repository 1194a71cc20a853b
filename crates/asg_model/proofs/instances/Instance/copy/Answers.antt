use Rattle.asg_model.proofs.Common.{◌∙◌}
use Rattle.asg_model.proofs.ShapeLemmas.{copy_is_stored}
use Rattle.asg_model.proofs.instances.Instance.copy.Goals as goal

pub invariant_of-result : goal.invariant_of-result
invariant_of-result c =
    let s = c.self.inside in
    copy_is_stored s.rows.items c.in_ok-rows.rows.items s.columns.items c.in_ok-columns.columns.items s.store c.in_ok-store.store s.place
    (c.in_ok-rows.ensures.items ∙ c.as_slice.ensures.value) (c.in_ok-columns.ensures.items ∙ c.as_slice-2.ensures.value) c.in_ok-store.ensures c.self.invariant
