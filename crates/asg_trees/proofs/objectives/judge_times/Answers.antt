use Rattle.asg_trees.proofs.Common.{subst, bounded_sums, bounded_difference, time_entered, TellsTree}
use Rattle.asg_monoids.specs.Grades.{graded, graded_difference, graded_word}
use Rattle.asg_trees.proofs.objectives.judge_times.Goals as goal

pub returns : goal.returns
returns c =
    subst (λ top. TellsTree (graded (bounded_sums top)) (graded_difference (bounded_sums top) bounded_difference) graded_word time_entered c.args.inst.now c.args.count c.args.answers.now c.args.nodes.now c.in_ok-verdict.verdict)
    c.new-kind.ensures c.in_ok-verdict.ensures
