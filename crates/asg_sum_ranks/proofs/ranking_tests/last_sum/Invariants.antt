use Rattle.asg_sum_ranks.proofs.Common.{SumsTo}
use Rattle.asg_sum_ranks.proofs.ranking_tests.last_sum.Given as goal

abbrev pub invariant-branches : goal.invariant-branches
invariant-branches l = SumsTo l.ground.objective l.ground.inst.now l.branches l.place l.last
