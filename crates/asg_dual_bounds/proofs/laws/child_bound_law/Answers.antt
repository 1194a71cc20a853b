use Rattle.asg_dual_bounds.proofs.DualBounds.{child_bound}
use Rattle.asg_dual_bounds.proofs.laws.child_bound_law.Goals as goal

pub returns : goal.returns
returns c objective X part duals b answer columns k row_gap column_gap above bound is_given given_in from upto row column is in_child =
    child_bound objective X part duals b above bound answer k row_gap column_gap is_given given_in from upto row column columns is in_child
