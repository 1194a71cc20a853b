use Rattle.asg_live_cells.proofs.Common.{AreEntriesBefore}
use Rattle.asg_live_cells.proofs.live_cells.row_by_row.Given as goal

-- the live cells of the rows so far
abbrev pub invariant-loop-row : goal.invariant-loop-row
invariant-loop-row l =
    record {
      before : AreEntriesBefore l.square l.limit l.row 0 l.entries.items;
    }
