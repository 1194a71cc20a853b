use Rattle.asg_hall_windows.proofs.Common.{◌≢◌, ℕ, ◌<◌, IsTrue, get_or, absent, Column, IsPassed, KeepsMarks}
use Rattle.asg_hall_windows.proofs.cells.pass_costs.Given as goal

abbrev pub invariant-loop-place : goal.invariant-loop-place
invariant-loop-place l = record {
  kept : KeepsMarks l.initial.reached l.reached;
  passed : (c : ℕ) (d : Column) → c < l.place → IsTrue (get_or l.columns c d).usable → get_or l.costs c absent ≢ absent → IsPassed l.table.stretches.items l.named l.fn.row l.reached c (get_or l.costs c absent);
}
