use Rattle.asg_dual_bounds.proofs.DualBounds.{dual_bound}
use Rattle.asg_dual_bounds.proofs.laws.dual_bound_law.Goals as goal

pub returns : goal.returns
returns c objective X part duals b columns above bound is in_part = dual_bound objective X part duals b above bound columns is in_part
