use Rattle.asg_check.proofs.Common.{◌-◌, length, drop}
use Rattle.asg_check.specs.KnownPhases.{HaveTheIndex}
use Rattle.asg_order.specs.Monoid.{IsValue}
use Rattle.asg_check.proofs.phase_indices.index_of.Given as goal

-- the index is that of the phases from here on
abbrev pub invariant-phases : goal.invariant-phases
invariant-phases g l = record {
  index : HaveTheIndex (g.M.Ordered.monoid_of l.m) (g.M.Written.word_of l.m) l.index (drop (length l.phases - l.back) l.phases);
  value : IsValue (g.M.Ordered.monoid_of l.m) l.index;
}
