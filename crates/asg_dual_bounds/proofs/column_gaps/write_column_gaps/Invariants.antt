use Rattle.asg_dual_bounds.proofs.Common.{◌≡◌, ℕ, ◌+◌, ◌<◌, ◌≤◌, length, slice_index, AreLeasts, IsColumnGapAt, duals_of}
use Rattle.asg_dual_bounds.proofs.column_gaps.write_column_gaps.Given as goal

-- the leasts and the gaps of the last rows so far
abbrev pub invariant-rows : goal.invariant-rows
invariant-rows l =
    record {
      wide : length l.leasts ≡ l.table.columns;
      leasts : AreLeasts l.table l.done l.duals.falls.now l.room l.leasts;
      count : length l.gaps ≡ length l.fn.gaps;
      gaps : (j : ℕ) → j < l.table.rows → l.table.rows ≤ j + l.done → IsColumnGapAt l.table l.answer j (duals_of l.duals.falls.now l.duals.rises.now l.duals.floor) (slice_index l.gaps j);
    }
