use Rattle.asg_hall_windows.proofs.Common.{ℕ, ◌<◌, IsRowPassed, KeepsMarks}
use Rattle.asg_hall_windows.proofs.cells.pass_cells.Given as goal

abbrev pub invariant-loop-row : goal.invariant-loop-row
invariant-loop-row l = record {
  kept : KeepsMarks l.initial.reached l.reached;
  passed : (r : ℕ) → r < l.row → IsRowPassed l.inst l.table.stretches.items l.named l.reached r;
}
