use Rattle.asg_model.proofs.Common.{length, refl, total_capacity}
use Rattle.asg_model.proofs.ShapeLemmas.{shaped_is_instance, range_in}
use Rattle.asg_model.proofs.laws.shape_law.Goals as goal

pub returns-clause-shaped : goal.returns-clause-shaped
returns-clause-shaped c = shaped_is_instance

pub returns-clause-in_range : goal.returns-clause-in_range
returns-clause-in_range c = λ X place passed. range_in X place (length X.rows) (total_capacity X) refl refl passed
