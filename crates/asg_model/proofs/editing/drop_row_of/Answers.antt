use Rattle.asg_model.proofs.Common.{◌<◌, length, get_or, set, ap, ◌∙◌, arith, get_or_default, map_over_more, dropped, no_row}
use Rattle.asg_model.proofs.editing.drop_row_of.Goals as goal

pub loop-row-preserved : goal.loop-row-preserved
loop-row-preserved c =
    let l = c.loop-row in
    let x = get_or l.rows l.row-index no_row in
    let within : l.row-index < length l.rows = omega (arith, c.loop-row-test.true, l.auto.rows) in
    ap (set l.rows l.row-index) c.dropped.ensures
    ∙ map_over_more (dropped c.args.id) c.args.rows.now l.rows l.row-index x c.loop-row-test.true l.invariant (get_or_default l.rows l.row-index no_row x within)
