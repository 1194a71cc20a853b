use Rattle.asg_model.proofs.Common.{◌<◌, length, get_or, set, ap, ◌∙◌, arith, get_or_default, map_over_more, closed, no_column}
use Rattle.asg_model.proofs.editing.close_column_of.Goals as goal

pub loop-column-preserved : goal.loop-column-preserved
loop-column-preserved c =
    let l = c.loop-column in
    let x = get_or l.columns l.column-index no_column in
    let within : l.column-index < length l.columns = omega (arith, c.loop-column-test.true, l.auto.columns) in
    ap (set l.columns l.column-index) c.closed.ensures
    ∙ map_over_more (closed c.args.id) c.args.columns.now l.columns l.column-index x c.loop-column-test.true l.invariant (get_or_default l.columns l.column-index no_column x within)
