use Rattle.asg_live_cells.proofs.Common.{◌≡◌, ◌≤◌, MarksFewer}
use Rattle.asg_live_cells.proofs.named.leave.Given as goal

-- the marks after the places so far
abbrev pub invariant-loop-place : goal.invariant-loop-place
invariant-loop-place l =
    record {
      from : l.from ≤ l.place;
      rows : l.bits.rows ≡ l.fn.bits.rows;
      columns : l.bits.columns ≡ l.fn.bits.columns;
      marks : MarksFewer l.fn.bits l.bits l.entries l.from l.place;
    }
