use Rattle.asg_window.proofs.Common.{◌≡◌, MarksFreeBefore}
use Rattle.asg_window.proofs.band_cells.BandCells.make.Given as goal

-- the free cells of the rows so far
abbrev pub invariant-loop-row : goal.invariant-loop-row
invariant-loop-row l =
    record {
      rows : l.bits.rows ≡ l.cells.square.now.side;
      columns : l.bits.columns ≡ l.cells.square.now.side;
      marks : MarksFreeBefore l.cells.square.now l.row 0 l.bits;
    }
