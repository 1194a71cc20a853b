use Rattle.asg_trees.proofs.Common.{◌≡◌, ◌++◌, map, take, number_of}
use Rattle.asg_trees.proofs.choice_lists.with_numbers.Given as goal

-- behind the numbers stand those of the rows so far
abbrev pub invariant-loop-row : goal.invariant-loop-row
invariant-loop-row l = l.more.items ≡ l.fn.numbers.items ++ map number_of (take l.row l.choice)
