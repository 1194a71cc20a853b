use Rattle.asg_grade_lists.proofs.Common.{arith, BeginWithRise, IsRiseTo}
use Rattle.asg_grade_lists.proofs.RiseLemmas.{begin_is, found_weaker}
use Rattle.asg_grade_lists.proofs.rises.first_grade.Goals as goal

pub returns-clause-rises : goal.returns-clause-rises
returns-clause-rises h c =
    let side = h.C.GradedCells.side_of c.args.cells.now in
    let cells = h.C.GradedCells.cells_of c.args.cells.now in
    let phases = c.args.phases.now in
    found_weaker c.rise_grade.result (λ g. IsRiseTo g side cells c.index-phases-0.result) (λ g. BeginWithRise g side cells phases)
    (λ g rises. begin_is g side c.index-phases-0.result phases cells (omega arith) c.index-phases-0.is rises)
    c.rise_grade.ensures.rises
