use Rattle.asg_live_cells.proofs.Common.{◌≡◌, ◌≤◌, MarksMore}
use Rattle.asg_live_cells.proofs.named.enter.Given as goal

-- the marks after the places so far
abbrev pub invariant-loop-place : goal.invariant-loop-place
invariant-loop-place l =
    record {
      from : l.from ≤ l.place;
      rows : l.bits.rows ≡ l.fn.bits.rows;
      columns : l.bits.columns ≡ l.fn.bits.columns;
      marks : MarksMore l.fn.bits l.bits l.entries l.from l.place;
    }
