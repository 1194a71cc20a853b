use Rattle.asg_kept_cells.proofs.CopyLemmas.{copies_between}
use Rattle.asg_kept_cells.proofs.copies.copies_at.Goals as goal

pub returns : goal.returns
returns g c =
    let from = c.labels_before-from in
    let to = c.labels_before-to in
    copies_between c.args.square.now.column_labels c.args.square.now.side c.args.column from.result to.result to.ensures.upto from.ensures.labels to.ensures.labels
