use Rattle.asg_table_sums.proofs.Common.{ℕ, ◌<◌, IsFull}
use Rattle.asg_table_sums.proofs.fullness.are_full.Given as goal

-- the columns so far don't rise, or are full
abbrev pub invariant-columns : goal.invariant-columns
invariant-columns l = (c : ℕ) → c < l.column → IsFull l.inst l.choice l.rises c
