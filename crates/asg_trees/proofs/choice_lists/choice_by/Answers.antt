use Rattle.asg_trees.proofs.Common.{arith}
use Rattle.asg_trees.proofs.ChoiceLemmas.{is_chosen}
use Rattle.asg_trees.proofs.choice_lists.choice_by.Goals as goal

pub returns : goal.returns
returns c = is_chosen c.loop-row.choice c.args.numbers.now c.loop-row.invariant.0 (λ r d below. c.loop-row.invariant.1 r d (omega arith))
