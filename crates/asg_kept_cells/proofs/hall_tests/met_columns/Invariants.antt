use Rattle.asg_kept_cells.proofs.Common.{◌≡◌, ◌/◌, ◌%◌, ◌≤◌, ◌≢◌, list_any, AreMetIn, kept_cells, count_below}
use Rattle.asg_kept_cells.proofs.hall_tests.met_columns.Given as goal

-- the columns so far are counted, and the word of the last one is known
abbrev pub invariant-loop-column : goal.invariant-loop-column
invariant-loop-column g l = record {
  few : l.count ≤ l.column;
  counted : l.count ≡ count_below (λ k. list_any (λ row. kept_cells l.square l.kept row k) l.rows) l.column;
  known : l.column % 64 ≢ 0 → AreMetIn (kept_cells l.square l.kept) l.rows (l.column / 64) l.met;
}
