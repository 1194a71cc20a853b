use Rattle.asg_check.proofs.Common.{ℕ, ◌<◌, ◌≤◌, Some}
use Rattle.asg_check.specs.KnownPhases.{AllowsWords}
use Rattle.asg_check.proofs.kept_phases.cells_allow.Given as goal

-- the cells so far allow the phases
abbrev pub invariant-columns : goal.invariant-columns
invariant-columns g l = (k : ℕ) → l.from ≤ k → k < l.column → AllowsWords (g.M.Ordered.monoid_of l.m) (g.M.DMonoid.difference l.m) (g.M.Written.word_of l.m) l.phases l.row k (Some l.x)
