use Rattle.asg_sum_ranks.proofs.Common.{◌∙◌, arith, get_or_default}
use Rattle.asg_sum_ranks.proofs.branch_tests.is_free.Goals as goal

pub returns : goal.returns
returns c = λ _ (k, within, is). c.banned.invariant k (omega arith) (get_or_default c.args.banned.now k 0 c.args.column within ∙ is)
