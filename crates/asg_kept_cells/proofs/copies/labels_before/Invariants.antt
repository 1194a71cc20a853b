use Rattle.asg_kept_cells.proofs.Common.{◌≡◌, ℕ, ◌-◌, ◌<◌, ◌≤◌, true, false, get_or, None, is_before}
use Rattle.asg_kept_cells.proofs.copies.labels_before.Given as goal

-- the columns before the lower bound have a label before the place, and those from the upper one on
-- have none
abbrev pub invariant-halves : goal.invariant-halves
invariant-halves g l = record {
  order : l.low ≤ l.high;
  upto : l.high ≤ l.square.side;
  before : (k : ℕ) → k < l.low → is_before l.place (get_or l.square.column_labels k None) ≡ true;
  from : (k : ℕ) → l.high ≤ k → is_before l.place (get_or l.square.column_labels k None) ≡ false;
}

abbrev pub decreases-halves : goal.decreases-halves
decreases-halves g l = l.high - l.low
