use Rattle.asg_table_phases.proofs.Common.{slice_index}
use Rattle.std.proofs.Common.{All, take}
use Rattle.asg_table_phases.specs.TableRows.{FitsCost}
use Rattle.asg_table_phases.proofs.row_cells.cells_fit.Given as goal

-- the cells so far fit
abbrev pub invariant-loop-cell : goal.invariant-loop-cell
invariant-loop-cell l =
    All (λ cell. FitsCost l.objective cell.1.a (slice_index l.columns cell.0.1) l.raise) (take l.cell-index l.cells)
