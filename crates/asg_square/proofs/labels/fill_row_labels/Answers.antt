use Rattle.asg_square.proofs.Common.{length, None, arith, fill_by_all, row_label}
use Rattle.asg_square.proofs.labels.fill_row_labels.Goals as goal

pub returns-clause-labels : goal.returns-clause-labels
returns-clause-labels c =
    fill_by_all (row_label c.args.inst.now) c.loop-r.labels.items (length c.args.labels.now.items) None c.loop-r.invariant.0
    (λ k h. c.loop-r.invariant.1 k (omega arith))
