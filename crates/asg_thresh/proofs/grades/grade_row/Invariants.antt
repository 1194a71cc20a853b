use Rattle.asg_thresh.proofs.Common.{◌≡◌, ◌+◌, ◌*◌, min, Grades}
use Rattle.asg_thresh.proofs.grades.grade_row.Given as goal

-- the cells so far
abbrev pub invariant-loop-number : goal.invariant-loop-number
invariant-loop-number l =
    record {
      side : l.square.side ≡ l.fn.square.side;
      graded : Grades l.fn.square l.square (l.row * l.fn.square.side) (l.row * l.fn.square.side + min (64 * l.number) l.fn.square.side);
    }
