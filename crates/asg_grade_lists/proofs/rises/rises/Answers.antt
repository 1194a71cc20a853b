use Rattle.asg_grade_lists.proofs.Common.{[], ◌∷◌, ◌∙◌, subst, CountsRight, phase_of}
use Rattle.asg_grade_lists.proofs.RiseLemmas.{rises_all}
use Rattle.asg_grade_lists.proofs.rises.rises.Goals as goal

pub rows_rise-requires-clause-enters : goal.rows_rise-requires-clause-enters
rows_rise-requires-clause-enters g c = (c.in_ok-counts.ensures.right c.if-not-counts.false).rows ∙ c.side.ensures.side

pub rows_rise-requires-clause-leaves : goal.rows_rise-requires-clause-leaves
rows_rise-requires-clause-leaves g c = (c.in_ok-counts.ensures.right c.if-not-counts.false).columns ∙ c.side.ensures.side

pub returns-clause-rises : goal.returns-clause-rises
returns-clause-rises g c = λ yes.
    rises_all c.args.grade (g.C.GradedCells.side_of c.args.cells.now) c.args.enters.now c.args.leaves.now (g.C.GradedCells.cells_of c.args.cells.now)
    (subst (λ n. CountsRight n (phase_of (0 ∷ []) c.args.enters.now c.args.leaves.now)) c.side.ensures.side (c.in_ok-counts.ensures.right c.if-not-counts.false))
    (c.rows_rise.ensures yes)
