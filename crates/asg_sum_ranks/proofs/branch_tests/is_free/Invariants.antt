use Rattle.asg_sum_ranks.proofs.Common.{◌≡◌, ℕ, ◌<◌, get_or}
use Rattle.asg_sum_ranks.proofs.branch_tests.is_free.Given as goal

abbrev pub invariant-banned : goal.invariant-banned
invariant-banned l = (i : ℕ) → i < l.k → get_or l.banned i 0 ≡ l.column → ⊥
