-- One more id was read.
use Rattle.asg_model.proofs.Common.{◌^◌, ◌<◌, subst, below_more, get_or_default, Row}
use Rattle.asg_model.proofs.instances.read_row_ids.Goals as goal

pub loop-row-preserved : goal.loop-row-preserved
loop-row-preserved c =
    below_more _ _ c.loop-row.invariant
    (λ d. subst (λ (row : Row). row.id < 2 ^ 32) (get_or_default c.args.rows.now c.loop-row.row-index _ d c.loop-row-test.true) c.tell_fits.ensures)
