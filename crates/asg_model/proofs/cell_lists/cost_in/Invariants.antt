use Rattle.asg_model.proofs.Common.{◌≡◌, drop, cost_at}
use Rattle.asg_model.proofs.cell_lists.cost_in.Given as goal

-- no cell so far is of the row and column
abbrev pub invariant-loop-cell : goal.invariant-loop-cell
invariant-loop-cell l =
    cost_at l.cells l.row l.col ≡ cost_at (drop l.cell-index l.cells) l.row l.col
