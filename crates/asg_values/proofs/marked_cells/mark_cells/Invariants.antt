use Rattle.asg_values.proofs.Common.{◌≡◌, ℕ, false, ◌||◌, take, get_or, list_any, length, most_columns}
use Rattle.asg_values.specs.Marks.{is_met_at}
use Rattle.asg_values.proofs.marked_cells.mark_cells.Given as goal

-- the columns of the cells so far
abbrev pub invariant-loop-cell : goal.invariant-loop-cell
invariant-loop-cell l = record {
  marked : (c : ℕ) → get_or l.reached c false ≡ (get_or l.initial.reached c false || list_any (is_met_at l.columns l.low l.high c) (take l.cell-index l.cells));
  size : length l.reached ≡ most_columns;
}
