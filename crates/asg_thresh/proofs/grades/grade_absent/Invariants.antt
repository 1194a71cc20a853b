use Rattle.asg_thresh.proofs.Common.{◌≡◌, ◌*◌, Grades}
use Rattle.asg_thresh.proofs.grades.grade_absent.Given as goal

-- the cells so far
abbrev pub invariant-loop-row : goal.invariant-loop-row
invariant-loop-row l =
    record {
      side : l.square.side ≡ l.fn.square.side;
      graded : Grades l.fn.square l.square (0) (l.row * l.fn.square.side);
    }
