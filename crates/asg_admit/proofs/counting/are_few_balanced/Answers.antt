use Rattle.asg_admit.proofs.Common.{get_or-replicate}
use Rattle.asg_admit.proofs.counting.are_few_balanced.Goals as goal

pub are_counts_equal-requires-clause-clear_rows : goal.are_counts_equal-requires-clause-clear_rows
are_counts_equal-requires-clause-clear_rows c = λ i h. get_or-replicate 128 i 0 0 h

pub are_counts_equal-requires-clause-clear_columns : goal.are_counts_equal-requires-clause-clear_columns
are_counts_equal-requires-clause-clear_columns c = λ i h. get_or-replicate 128 i 0 0 h
