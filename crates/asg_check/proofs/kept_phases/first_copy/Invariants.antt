use Rattle.asg_check.proofs.Common.{◌≡◌, ◌≤◌}
use Rattle.std.specs.Prelude.{◌*◌}
use Rattle.asg_square.specs.Labels.{first_copy}
use Rattle.asg_check.proofs.kept_phases.first_copy.Given as goal

abbrev pub invariant-loop-place : goal.invariant-loop-place
invariant-loop-place l = (l.first ≡ first_copy l.inst l.place) × (l.first ≤ 1000 * l.place) × (l.place ≤ l.d)
