use Rattle.asg_live_cells.proofs.Common.{◌≡◌, IfOk-weaker, IsSquareBy, IsSquareOf}
use Rattle.asg_model.specs.declared.parts.Cost.{Cost}
use Rattle.asg_live_cells.specs.Grades.{free_grade, grade_of}
use Rattle.asg_proof.specs.laws.LiveCosts.{first_part_in_range}
use Rattle.asg_live_cells.proofs.grades.graded_square.Goals as goal

pub of-requires-clause-enters : goal.of-requires-clause-enters
of-requires-clause-enters c r d = first_part_in_range c.args.inst.now c.rows-rows.ensures.instance r d

pub returns : goal.returns
returns c =
    let X = c.args.inst.now in
    IfOk-weaker c.of.result
    (IsSquareBy X free_grade (λ cost v. Cost × (v ≡ grade_of cost)))
    (IsSquareOf X free_grade grade_of)
    (λ Q by. by grade_of (λ r d cost v at entered. entered.1))
    c.of.ensures.square
