use Rattle.asg_sum_ranks.proofs.Common.{ℕ, ◌<◌, ◌≤◌, branch_at, IsShut}
use Rattle.asg_sum_ranks.proofs.shut_tests.are_shut_by.Given as goal

abbrev pub invariant-children : goal.invariant-children
invariant-children l = (r : ℕ) → (branch_at l.branches l.place).row ≤ r → r < l.row
    → IsShut l.ground.objective l.ground.inst.now l.branches l.least l.place r
