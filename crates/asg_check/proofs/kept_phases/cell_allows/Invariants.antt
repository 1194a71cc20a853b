use Rattle.asg_check.proofs.Common.{drop, Some}
use Rattle.asg_check.specs.KnownPhases.{AllowsWords}
use Rattle.asg_order.specs.Monoid.{IsValue}
use Rattle.asg_check.proofs.kept_phases.cell_allows.Given as goal

-- where the cell as it is now allows the phases from here on, it allowed all as it was
abbrev pub invariant-phases : goal.invariant-phases
invariant-phases g l = record {
  value : IsValue (g.M.Ordered.monoid_of l.m) l.now;
  so_far : AllowsWords (g.M.Ordered.monoid_of l.m) (g.M.DMonoid.difference l.m) (g.M.Written.word_of l.m) (drop l.place l.phases) l.row l.column (Some l.now)
      → AllowsWords (g.M.Ordered.monoid_of l.m) (g.M.DMonoid.difference l.m) (g.M.Written.word_of l.m) l.phases l.row l.column (Some l.fn.x);
}
