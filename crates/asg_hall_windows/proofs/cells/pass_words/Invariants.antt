use Rattle.asg_hall_windows.proofs.Common.{ℕ, ◌/◌, ◌<◌, ◌≤◌, IsMarked, KeepsMarks}
use Rattle.asg_hall_windows.proofs.cells.pass_words.Given as goal

-- the column is marked for the windows of the words so far
abbrev pub invariant-loop-number : goal.invariant-loop-number
invariant-loop-number l = record {
  kept : KeepsMarks l.initial.reached l.reached;
  marked : (w : ℕ) → l.fn.from ≤ w / 64 → w / 64 < l.number → IsMarked l.named l.fn.row w → IsMarked l.reached l.fn.column w;
}
