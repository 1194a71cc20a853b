use Rattle.asg_kept.proofs.Common.{ℕ, subst, Reduced, numbered_grid, IsGrid}
use Rattle.asg_kept.proofs.DualLemmas.{dual_is_grid}
use Rattle.asg_kept.proofs.dual_squares.DualSquare.side.Goals as goal

pub returns-clause-grid : goal.returns-clause-grid
returns-clause-grid g c =
    let N = g.N.SumNumber in
    let s = c.self.inside in
    subst (λ (R : Reduced ℕ). IsGrid R.now) c.self.view_is (dual_is_grid (numbered_grid N.cells s.kept.now) c.self.invariant.duals.grid (N.numbers s.rows.items) (N.numbers s.columns.items))
