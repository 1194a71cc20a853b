use Rattle.asg_grade_lists.proofs.Common.{is_some, ap, ◌∙◌, get_or_from_slice_get, cell_at}
use Rattle.asg_grade_lists.proofs.RiseLemmas.{lower_more}
use Rattle.asg_grade_lists.proofs.rises.none_lower.Goals as goal

pub is_lower-requires-clause-value : goal.is_lower-requires-clause-value
is_lower-requires-clause-value c = λ x is.
    let k = c.columns.k in
    get_or_from_slice_get c.row_values-values.result.now k x (0, 0) (c.row_values-values.ensures.each k (ap is_some is) ∙ is)

pub columns-preserved : goal.columns-preserved
columns-preserved c =
    lower_more c.args.grade c.args.leaves.now (cell_at c.args.square.now c.args.r) c.columns.k c.columns.invariant
    (c.is_lower.ensures c.if-is_lower.false)
