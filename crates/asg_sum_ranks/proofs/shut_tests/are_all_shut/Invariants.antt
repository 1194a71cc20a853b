use Rattle.asg_sum_ranks.proofs.Common.{ℕ, ◌<◌, AreShut}
use Rattle.asg_sum_ranks.proofs.shut_tests.are_all_shut.Given as goal

abbrev pub invariant-branches : goal.invariant-branches
invariant-branches l = (a : ℕ) → a < l.place
    → AreShut l.ground.objective l.ground.inst.now l.branches l.least a
