use Rattle.asg_thresh.proofs.Common.{ℕ, ◌*◌, sym, subst, first_part_in_range, Grid, IsSquareOf, grade_of, free_grade, Grades}
use Rattle.asg_thresh.proofs.outcomes.graded_square.Goals as goal

pub of-requires-clause-enters : goal.of-requires-clause-enters
of-requires-clause-enters c r d = first_part_in_range c.args.inst.now c.rows-rows.ensures.instance r d

pub returns : goal.returns
returns c =
    let graded = c.grade_absent.ensures in
    let after = c.grade_absent.new.square in
    let square = c.in_ok-square.ensures.square (grade_of c.args.objective) (λ r d cost v live entered. entered.1) in
    record {
      cells = c.in_ok-square.square.cells;
      square = subst (IsSquareOf c.args.inst.now free_grade (grade_of c.args.objective)) (sym graded.same) square;
      graded = subst (λ (q : Grid ℕ). Grades q after 0 (q.side * q.side)) (sym graded.same) graded;
    }
