use Rattle.asg_kept_phases.proofs.Common.{phases_along}
use Rattle.asg_kept_phases.proofs.CellLemmas.{IsThrough}
use Rattle.asg_kept_phases.proofs.kept_cells.kept_cell.Given as goal

abbrev pub invariant-loop-i : goal.invariant-loop-i
invariant-loop-i g l =
    IsThrough (g.M.Ordered.monoid_of l.m) (g.M.DMonoid.difference l.m) l.r l.k (phases_along l.region l.trails) l.fn.x l.i l.now
