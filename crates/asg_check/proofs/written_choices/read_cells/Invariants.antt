use Rattle.asg_check.proofs.Common.{◌≡◌, length, take, drop, read_cells}
use Rattle.asg_check.proofs.Reading.{joined}
use Rattle.asg_check.proofs.written_choices.read_cells.Given as goal

-- what the rows so far chose, and what the rest read of the cells that are left, is what all read
abbrev pub invariant-loop-place : goal.invariant-loop-place
invariant-loop-place l = record {
  over : length l.choice ≡ length l.inst.rows;
  read : joined (take l.place l.choice) (read_cells l.inst (drop l.place l.inst.rows) l.left) ≡ read_cells l.inst l.inst.rows l.cells;
}
