-- Std's order of slices is the order at their first difference.
use Rattle.asg_values.proofs.Common.{int_cmp, is_lt, ap, ◌∙◌, Decides-at, slice_cmp}
use Rattle.asg_values.proofs.LessLists.{Decides-less}
use Rattle.asg_values.proofs.comparison.is_less_list.Goals as goal

pub returns : goal.returns
returns c =
    let xs = c.args.xs.now in
    let ys = c.args.ys.now in
    Decides-at c.is_lt.result (is_lt (slice_cmp int_cmp xs ys)) (c.is_lt.ensures ∙ ap is_lt c.cmp.ensures) (Decides-less xs ys)
