use Rattle.asg_kept_cells.proofs.Common.{List, length, get_or, None, sym, ap, ◌∙◌, is_before, Column}
use Rattle.asg_kept_cells.proofs.CopyLemmas.{in_order, labels_before_all}
use Rattle.asg_kept_cells.proofs.copies.copy_count.Goals as goal

pub labels_before-requires : goal.labels_before-requires
labels_before-requires g c = in_order c.args.inst.now c.args.square.now c.requires

pub returns-clause-copies : goal.returns-clause-copies
returns-clause-copies g c k =
    let label = get_or c.args.square.now.column_labels k None in
    sym (labels_before_all c.args.inst.now c.args.square.now c.requires k)
    ∙ sym (ap (λ (columns : List Column). is_before (length columns) label) c.columns.ensures.columns)
    ∙ c.labels_before.ensures.labels k
