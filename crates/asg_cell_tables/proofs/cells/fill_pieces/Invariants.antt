use Rattle.asg_cell_tables.proofs.Common.{◌≡◌, IsCellTable, table_at, is_present_at, labelled_cell, Entering, is_labelled_within, Whole}
use Rattle.asg_cell_tables.proofs.RowLemmas.{FilledPieces}
use Rattle.asg_cell_tables.proofs.cells.fill_pieces.Given as goal

-- the pieces so far are filled
abbrev pub invariant-loop-number : goal.invariant-loop-number
invariant-loop-number g l =
    record {
      side : l.cells.side ≡ l.fn.cells.side;
      table : IsCellTable l.cells;
      filled : Entering l.inst (goal.E-post g l.enter) (λ entered. FilledPieces l.fn.cells.side (table_at l.fn.cells) (table_at l.cells) l.r l.number l.columns.labels.now (labelled_cell l.inst l.free entered l.row));
      present : FilledPieces l.fn.cells.side (is_present_at l.fn.cells) (is_present_at l.cells) l.r l.number l.columns.labels.now (is_labelled_within l.inst Whole l.row);
    }
