use Rattle.asg_cell_tables.proofs.Common.{◌≡◌, ℕ, ◌<◌, get_or, None, IsCellTable, table_at, is_present_at, labelled_cell, Entering, is_labelled_within, Whole}
use Rattle.asg_cell_tables.proofs.cells.fill_cells.Given as goal

-- the rows so far are filled
abbrev pub invariant-loop-r : goal.invariant-loop-r
invariant-loop-r g l =
    record {
      side : l.cells.side ≡ l.fn.cells.side;
      table : IsCellTable l.cells;
      cells : Entering l.inst (goal.E-post g l.enter) (λ entered. (s d : ℕ) → s < l.r → d < l.fn.cells.side → table_at l.cells s d ≡ labelled_cell l.inst l.free entered (get_or l.rows s None) (get_or l.columns d None));
      present : (s d : ℕ) → s < l.r → d < l.fn.cells.side → is_present_at l.cells s d ≡ is_labelled_within l.inst Whole (get_or l.rows s None) (get_or l.columns d None);
    }
