use Rattle.asg_values.proofs.Common.{ℕ, ◌<◌, slice_index_or, IsPassed, absent}
use Rattle.asg_values.proofs.negatives.has_negative.Given as goal

-- the parts so far are passed over, or not negative
abbrev pub invariant-loop-column : goal.invariant-loop-column
invariant-loop-column l = (c : ℕ) → c < l.column → IsPassed l.passed (slice_index_or l.parts c absent)
