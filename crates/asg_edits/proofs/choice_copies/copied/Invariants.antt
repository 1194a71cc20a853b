use Rattle.asg_edits.proofs.Common.{◌≡◌, length, take}
use Rattle.asg_edits.proofs.choice_copies.copied.Given as goal

-- the rows so far choose alike
abbrev pub invariant-rows : goal.invariant-rows
invariant-rows l = record {
  size : length l.copy ≡ length l.choice;
  same : take l.row l.copy ≡ take l.row l.choice;
}
