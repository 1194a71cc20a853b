use Rattle.asg_table_phases.proofs.RowCosts.{row_by_pairs}
use Rattle.asg_table_phases.proofs.pair_rows.pair_row_fits.Goals as goal

pub returns : goal.returns
returns c = λ told.
    row_by_pairs c.args.inst.now c.columns.ensures.instance c.args.row c.in-Some.parts.firsts.now c.in-Some.parts.seconds.now c.in-Some.ensures.parts c.args.columns.now c.args.raise
    (c.pairs_fit.ensures told)
