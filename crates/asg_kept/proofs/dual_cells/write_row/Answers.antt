use Rattle.asg_kept.proofs.Common.{arith, present_is, column_within, cell_at}
use Rattle.asg_kept.proofs.dual_cells.write_row.Goals as goal

pub map_row-requires-clause-changes : goal.map_row-requires-clause-changes
map_row-requires-clause-changes g c k x is = λ _ _ _ _ _ _ _ _ _.
    let N = g.N.SumNumber in
    let Q = c.args.square.now in
    let here = present_is g.met.N.SumNumber.present_law (cell_at Q c.args.row k) x is in
    let fits = c.requires.fits k (N.number x) here in
    let below = column_within Q c.args.row k x is in
    (omega (arith, below, c.requires.columns), (fits.0, fits.1))
