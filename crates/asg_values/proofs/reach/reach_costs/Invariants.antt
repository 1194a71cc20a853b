use Rattle.asg_values.proofs.Common.{◌*◌, length}
use Rattle.std.proofs.Common.{min}
use Rattle.asg_values.specs.Marks.{meets, AreMarked}
use Rattle.asg_values.proofs.reach.reach_costs.Given as goal

abbrev pub invariant-loop-number : goal.invariant-loop-number
invariant-loop-number l = AreMarked (meets l.columns l.costs l.low l.high) 0 (min (l.number * 16) (length l.columns)) l.initial.reached l.reached
