use Rattle.asg_sum_ranks.proofs.Common.{◌≡◌, ℕ, ◌<◌, get_or}
use Rattle.asg_sum_ranks.proofs.branch_tests.agrees.Given as goal

abbrev pub invariant-rows : goal.invariant-rows
invariant-rows l = (i : ℕ) → i < l.k → get_or l.columns i 0 ≡ get_or l.other i 0
