use Rattle.asg_sum_ranks.proofs.Common.{AreBranches}
use Rattle.asg_sum_ranks.proofs.tree_tests.are_branches.Given as goal

abbrev pub invariant-branches : goal.invariant-branches
invariant-branches l = AreBranches l.ground.objective l.ground.inst.now l.branches l.place
