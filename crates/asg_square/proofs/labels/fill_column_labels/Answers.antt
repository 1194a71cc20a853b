use Rattle.asg_square.proofs.Common.{length, None, arith, fill_by_all, column_label}
use Rattle.asg_square.proofs.labels.fill_column_labels.Goals as goal

pub returns-clause-labels : goal.returns-clause-labels
returns-clause-labels c =
    fill_by_all (column_label c.args.inst.now) c.loop-c.labels.items (length c.args.labels.now.items) None c.loop-c.invariant.count
    (λ k h. c.loop-c.invariant.done k (omega arith))
