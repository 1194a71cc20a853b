use Rattle.asg_engine_tests.proofs.Common.{IsReduced, bounded_sums, narrow_top}
use Rattle.asg_engine_tests.proofs.wide_cells.index_after.Given as goal

-- the cells and the index are values after the phases so far
abbrev pub invariant-phases : goal.invariant-phases
invariant-phases l = IsReduced (bounded_sums narrow_top) l.reduced
