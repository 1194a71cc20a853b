use Rattle.asg_sum_ranks.proofs.Common.{arith}
use Rattle.asg_sum_ranks.proofs.Ends.{is_choice}
use Rattle.asg_sum_ranks.proofs.ranking_ends.choice.Goals as goal

pub returns : goal.returns
returns c = is_choice c.rows.choice c.args.columns.now c.rows.invariant.0 (λ i d below. c.rows.invariant.1 i d (omega arith))
