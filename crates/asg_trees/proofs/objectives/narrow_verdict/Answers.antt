use Rattle.asg_trees.proofs.Common.{IfOk, subst, arith, bounded_sums, bounded_difference, plain_word, narrow_top, cost_reach, sum_entered, lies_within, TellsTree}
use Rattle.asg_trees.proofs.objectives.narrow_verdict.Goals as goal

pub start-requires-clause-near : goal.start-requires-clause-near
start-requires-clause-near c = lies_within cost_reach c.args.inst.now (omega arith) c.rows-rows.ensures.instance

pub returns : goal.returns
returns c =
    subst (λ objective. IfOk c.judge_from.result (TellsTree (bounded_sums narrow_top) bounded_difference plain_word (sum_entered objective) c.args.inst.now c.args.count c.args.answers.now c.args.nodes.now))
    c.of-kind.ensures c.judge_from.ensures
