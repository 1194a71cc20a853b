use Rattle.asg_trees.proofs.Common.{subst, bounded_sums, bounded_difference, plain_word, narrow_top, sum_entered, TellsTree}
use Rattle.asg_trees.proofs.NarrowTrees.{told_narrow}
use Rattle.asg_monoids.specs.laws.NarrowObjectives.{is_sum-narrow}
use Rattle.asg_trees.proofs.objectives.judge_narrow.Goals as goal

pub returns-in-Tree : goal.returns-in-Tree
returns-in-Tree c =
    let X = c.args.inst.now in
    let answers = c.args.answers.now in
    let nodes = c.args.nodes.now in
    told_narrow c.args.objective c.requires.narrow X c.rows-rows.ensures.instance c.requires.passes c.args.count answers nodes c.requires.some c.requires.valid
    (subst (TellsTree (bounded_sums narrow_top) bounded_difference plain_word (sum_entered c.args.objective) X c.args.count answers nodes) c.in-Tree.is c.in_ok-verdict.ensures)

pub judge_sums-requires-clause-sums : goal.judge_sums-requires-clause-sums
judge_sums-requires-clause-sums c = is_sum-narrow c.args.objective c.requires.narrow
