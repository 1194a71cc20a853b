-- One more id was read.
use Rattle.asg_model.proofs.Common.{◌^◌, ◌<◌, subst, below_more, get_or_default, Column}
use Rattle.asg_model.proofs.instances.read_column_ids.Goals as goal

pub loop-column-preserved : goal.loop-column-preserved
loop-column-preserved c =
    below_more _ _ c.loop-column.invariant
    (λ d. subst (λ (column : Column). column.id < 2 ^ 32) (get_or_default c.args.columns.now c.loop-column.column-index _ d c.loop-column-test.true) c.tell_fits.ensures)
