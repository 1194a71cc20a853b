use Rattle.asg_table_phases.proofs.Common.{arith}
use Rattle.asg_square.specs.laws.Rows.{rows_within}
use Rattle.asg_table_phases.proofs.TableCells.{cells_fit}
use Rattle.asg_table_phases.proofs.table_fits.cells_fit.Goals as goal

pub live_cells_fit-requires : goal.live_cells_fit-requires
live_cells_fit-requires c = omega (arith, rows_within c.args.inst.now c.rows-rows.ensures.instance.well_formed.place_in_range, c.requires.rows)

pub returns : goal.returns
returns c = λ yes.
    cells_fit c.args.objective c.args.inst.now c.args.rows.now c.args.columns.now c.put_tops-copies.new.tops c.requires.rows c.requires.columns c.put_tops-copies.ensures.tops (c.live_cells_fit.ensures yes) (c.free_cells_fit.ensures c.if-not-free_cells_fit.false)
