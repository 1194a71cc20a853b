use Rattle.asg_algebra.proofs.Common.{KeepsRows}
use Rattle.asg_algebra.proofs.absorbed_cells.match_columns.Given as goal

-- rows kept their columns, and all are absorbed
abbrev pub invariant-rows : goal.invariant-rows
invariant-rows g l = KeepsRows (g.M.Ordered.monoid_of l.m) (g.S.RowSquare.as_reduced l.fn.square) l.fn.matching l.matching
