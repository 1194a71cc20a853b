use Rattle.asg_kept_phases.proofs.Common.{◌≡◌, ◌<◌, Some, MendsCells, phases_along, square_cell, column_label}
use Rattle.asg_kept_phases.proofs.mended_cells.mend_row.Given as goal

abbrev pub invariant-loop-k : goal.invariant-loop-k
invariant-loop-k g l =
    MendsCells (g.K.M.Ordered.monoid_of (g.K.Kind.monoid l.kind)) (g.K.M.DMonoid.difference (g.K.Kind.monoid l.kind)) (phases_along l.region l.trails)
    (square_cell l.inst (g.K.M.Ordered.monoid_of (g.K.Kind.monoid l.kind)).unit (g.K.Kind.entered l.kind))
    (λ s j. ((s ≡ l.r) × (j < l.k)) × (column_label l.inst j ≡ Some l.q)) l.fn.square l.square
