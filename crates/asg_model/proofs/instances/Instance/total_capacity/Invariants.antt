use Rattle.asg_model.proofs.Common.{◌≡◌, ◌*◌, ◌≤◌, take}
use Rattle.std.specs.List.{sum_by}
use Rattle.asg_model.proofs.instances.Instance.total_capacity.Given as goal

abbrev pub invariant-loop-place : goal.invariant-loop-place
invariant-loop-place l = (l.total ≡ sum_by (λ column. column.cap) (take l.place l.self.columns)) × (l.total ≤ 1000 * l.place)
