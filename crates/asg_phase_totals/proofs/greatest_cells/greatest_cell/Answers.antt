use Rattle.asg_phase_totals.proofs.Common.{◌<◌, value_is, column_within, cell_at}
use Rattle.asg_phase_totals.proofs.GreatestLemmas.{greatest_rows_more}
use Rattle.asg_phase_totals.proofs.greatest_cells.greatest_cell.Goals as goal

pub loop-row-preserved : goal.loop-row-preserved
loop-row-preserved g c =
    let N = g.N.SumNumber in
    let Q = c.args.square.now in
    let l = c.loop-row in
    greatest_rows_more (λ r k. N.present (cell_at Q r k)) Q.side l.row (N.number l.greatest) (N.number c.greater_in_row-greatest.result) l.invariant c.greater_in_row-greatest.ensures
    (λ k x is. value_is g.met.N.SumNumber.present_law (k < Q.side) (cell_at Q l.row k) x is (λ y here. column_within Q l.row k y here))
