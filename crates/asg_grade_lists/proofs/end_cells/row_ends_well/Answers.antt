use Rattle.asg_grade_lists.proofs.Common.{is_some, ap, ◌∙◌, get_or_from_slice_get, cell_at}
use Rattle.asg_grade_lists.proofs.EndLemmas.{columns_more}
use Rattle.asg_grade_lists.proofs.end_cells.row_ends_well.Goals as goal

pub cell_ends_well-requires-clause-value : goal.cell_ends_well-requires-clause-value
cell_ends_well-requires-clause-value c = λ x is.
    let k = c.columns.k in
    get_or_from_slice_get c.row_values-values.result.now k x (0, 0) (c.row_values-values.ensures.each k (ap is_some is) ∙ is)

pub columns-preserved : goal.columns-preserved
columns-preserved c =
    columns_more c.args.grade c.args.row c.args.columns.now (cell_at c.args.square.now c.args.r) c.columns.k c.columns.invariant
    (c.cell_ends_well.ensures c.if-not-cell_ends_well.false)
