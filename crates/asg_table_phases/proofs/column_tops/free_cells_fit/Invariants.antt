use Rattle.asg_table_phases.proofs.Common.{◌≡◌, ℕ, ◌<◌, ◌≤◌, true, length, slice_index, column_label, row_label, is_free_cell}
use Rattle.asg_table_phases.proofs.column_tops.free_cells_fit.Given as goal

-- the free cells of the rows so far fit
abbrev pub invariant-rows : goal.invariant-rows
invariant-rows l = (r k : ℕ) → r < l.row → k < length l.columns
    → is_free_cell l.inst.place (row_label l.inst r) (column_label l.inst k) ≡ true
    → slice_index l.columns k ≤ slice_index l.rows r
