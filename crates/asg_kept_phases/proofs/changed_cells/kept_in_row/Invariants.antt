use Rattle.asg_kept_phases.proofs.Common.{◌≡◌, ◌<◌, AreLeft, phases_along}
use Rattle.asg_kept_phases.proofs.changed_cells.kept_in_row.Given as goal

abbrev pub invariant-loop-k : goal.invariant-loop-k
invariant-loop-k g l =
    AreLeft (g.M.Ordered.monoid_of l.m) (g.M.DMonoid.difference l.m) (phases_along l.region l.trails) l.side (g.C.ChangedCells.before l.cells) (g.C.ChangedCells.after l.cells) (λ s j. (s ≡ l.r) × (j < l.k)) l.count l.left
