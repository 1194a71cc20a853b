use Rattle.asg_sum_ranks.proofs.Common.{◌≡◌, ℕ, ◌+◌, ◌<◌, get_or}
use Rattle.asg_sum_ranks.proofs.branch_tests.is_behind.Given as goal

abbrev pub invariant-others : goal.invariant-others
invariant-others l = (i : ℕ) → i < l.k → get_or l.banned (i + 1) 0 ≡ get_or l.others i 0
