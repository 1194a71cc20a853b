use Rattle.asg_nodes.proofs.Common.{◌-◌, ◌≤◌, Problem, HasLabelsOf, first_copy}
use Rattle.asg_nodes.proofs.copies.first_copy.Given as goal

-- the copies begin between both
abbrev pub invariant-halves : goal.invariant-halves
invariant-halves g l =
    record {
      order : l.low ≤ l.high;
      within : l.high ≤ l.square.side;
      first : (X : Problem) → HasLabelsOf X l.square → (l.low ≤ first_copy X l.d) × (first_copy X l.d ≤ l.high);
    }

abbrev pub decreases-halves : goal.decreases-halves
decreases-halves g l = l.high - l.low
