use Rattle.asg_kept.proofs.Common.{ℕ, subst, KeepsPresence, Reduced, numbered_grid}
use Rattle.asg_kept.proofs.DualPhases.{dual_presence}
use Rattle.asg_kept.proofs.dual_squares.DualSquare.into_base.Goals as goal

pub returns : goal.returns
returns g c =
    subst (λ (R : Reduced ℕ). KeepsPresence R.now (numbered_grid g.N.SumNumber.cells c.self.inside.kept.now)) c.self.view_is
    (dual_presence c.self.invariant.duals)
