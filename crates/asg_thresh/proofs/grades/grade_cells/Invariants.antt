use Rattle.asg_thresh.proofs.Common.{◌≡◌, ◌+◌, ◌*◌, Grades}
use Rattle.asg_thresh.proofs.grades.grade_cells.Given as goal

-- the cells so far
abbrev pub invariant-loop-column : goal.invariant-loop-column
invariant-loop-column l =
    record {
      side : l.square.side ≡ l.fn.square.side;
      graded : Grades l.fn.square l.square (l.row * l.fn.square.side + l.first) (l.row * l.fn.square.side + l.column);
    }
