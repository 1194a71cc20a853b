use Rattle.asg_cell_tables.proofs.Common.{◌≡◌, ℕ, ◌<◌, length, slice_get, Some}
use Rattle.asg_cell_tables.proofs.pieces.fill_with.Given as goal

-- the values so far
abbrev pub invariant-loop-k : goal.invariant-loop-k
invariant-loop-k g l =
    record {
      count : length l.values ≡ length l.fn.values;
      values : (k : ℕ) → k < l.k → slice_get l.values k ≡ Some l.value;
    }
