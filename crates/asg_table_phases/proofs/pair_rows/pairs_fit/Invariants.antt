use Rattle.asg_table_phases.proofs.Common.{◌≡◌, ℕ, ◌+◌, ◌<◌, ◌≤◌, Some, slice_index, slice_index_or, absent, table_cost, Cost, SumPair, sum_entered}
use Rattle.asg_model.specs.Instances.{IsCostInRange}
use Rattle.asg_table_phases.proofs.pair_rows.pairs_fit.Given as goal

-- the pairs of the columns so far fit
abbrev pub invariant-columns : goal.invariant-columns
invariant-columns l = (k : ℕ) (cost : Cost) → k < l.column
    → table_cost l.parts.seconds.now k (slice_index_or l.parts.firsts.now k absent) ≡ Some cost
    → IsCostInRange cost → slice_index l.columns k ≤ sum_entered SumPair cost + l.raise
