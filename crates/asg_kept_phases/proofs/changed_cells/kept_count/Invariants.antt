use Rattle.asg_kept_phases.proofs.Common.{◌<◌, ◌≤◌, length, AreLeft, phases_along}
use Rattle.asg_kept_phases.proofs.changed_cells.kept_count.Given as goal

abbrev pub invariant-loop-r : goal.invariant-loop-r
invariant-loop-r g l =
    AreLeft (g.M.Ordered.monoid_of l.m) (g.M.DMonoid.difference l.m) (phases_along l.region l.trails) l.side (g.C.ChangedCells.before l.cells) (g.C.ChangedCells.after l.cells) (λ s j. (l.from ≤ s) × (s < l.r)) (length l.trails) l.left
