use Rattle.asg_values.proofs.Common.{◌≡◌, ℕ, ◌<◌, ◌≤◌, false}
use Rattle.asg_values.specs.Marks.{lies_between}
use Rattle.asg_values.proofs.reach.has_between.Given as goal

abbrev pub invariant-loop-column : goal.invariant-loop-column
invariant-loop-column l = l.has ≡ false → (c : ℕ) → l.first ≤ c → c < l.column → lies_between l.costs l.low l.high c ≡ false
