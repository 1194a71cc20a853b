use Rattle.asg_sum_ranks.proofs.Common.{◌≡◌, ℕ, ◌<◌, length, get_or, Some, Option}
use Rattle.asg_sum_ranks.proofs.ranking_ends.choice.Given as goal

abbrev pub invariant-rows : goal.invariant-rows
invariant-rows l = (length l.choice ≡ length l.columns)
    × ((i : ℕ) (d : Option ℕ) → i < l.row → get_or l.choice i d ≡ Some (get_or l.columns i 0))
