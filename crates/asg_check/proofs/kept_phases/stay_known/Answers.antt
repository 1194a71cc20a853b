use Rattle.asg_check.proofs.Common.{Some, None, ap, ◌∙◌, IfOk-weaker}
use Rattle.asg_model.specs.Edits.{edited}
use Rattle.asg_check.proofs.kept_phases.stay_known.Goals as goal

pub returns-in-Cost : goal.returns-in-Cost
returns-in-Cost c = IfOk-weaker c.stay_for.result _ _ (λ is stay yes X same known. stay yes X (Some _) (same ∙ ap (edited X) c.in-Cost.is) known) c.stay_for.ensures

pub returns-in-Forbid : goal.returns-in-Forbid
returns-in-Forbid c = IfOk-weaker c.stay_for-in-Forbid.result _ _ (λ is stay yes X same known. stay yes X None (same ∙ ap (edited X) c.in-Forbid.is) known) c.stay_for-in-Forbid.ensures
