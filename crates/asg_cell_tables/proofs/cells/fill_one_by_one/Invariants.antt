use Rattle.asg_cell_tables.proofs.Common.{◌≡◌, get_or, None, IsCellTable, table_at, is_present_at, labelled_cell, Entering, is_labelled_within, Whole}
use Rattle.asg_cell_tables.proofs.TableFilling.{FilledTo}
use Rattle.asg_cell_tables.proofs.cells.fill_one_by_one.Given as goal

-- the columns so far are filled
abbrev pub invariant-loop-c : goal.invariant-loop-c
invariant-loop-c g l =
    record {
      side : l.cells.side ≡ l.fn.cells.side;
      table : IsCellTable l.cells;
      cells : Entering l.inst (goal.E-post g l.enter) (λ entered. FilledTo l.fn.cells.side (table_at l.fn.cells) (table_at l.cells) l.r l.c (λ d. labelled_cell l.inst l.free entered l.row (get_or l.columns d None)));
      present : FilledTo l.fn.cells.side (is_present_at l.fn.cells) (is_present_at l.cells) l.r l.c (λ d. is_labelled_within l.inst Whole l.row (get_or l.columns d None));
    }
