use Rattle.asg_grade_lists.proofs.Common.{subst, IsRisePhase}
use Rattle.asg_grade_lists.proofs.rises.rise_grade.Goals as goal

pub returns-clause-rises : goal.returns-clause-rises
returns-clause-rises h c =
    let side = h.C.GradedCells.side_of c.args.cells.now in
    let cells = h.C.GradedCells.cells_of c.args.cells.now in
    let g = c.in-Some.grade in
    record {
      steps = c.in-Some.ensures.steps;
      rises =
          subst (λ xs. IsRisePhase g side xs c.args.phase.now.leaves cells) c.enters.ensures.enters
          (subst (λ xs. IsRisePhase g side c.enters.result.now xs cells) c.leaves.ensures.leaves
          (c.in_ok-is_rise.ensures.rises c.if-not-is_rise.false));
    }
