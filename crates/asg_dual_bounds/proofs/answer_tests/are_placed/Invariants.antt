use Rattle.asg_dual_bounds.proofs.Common.{◌≡◌, ℕ, ◌<◌, IsSome, slice_index, number_in}
use Rattle.asg_dual_bounds.proofs.answer_tests.are_placed.Given as goal

-- the rows so far have numbers and columns of their own
abbrev pub invariant-rows : goal.invariant-rows
invariant-rows l =
    record {
      own : (r : ℕ) → r < l.row → slice_index l.row_of (slice_index l.columns r) ≡ r;
      there : (r : ℕ) → r < l.row → IsSome (number_in l.table r (slice_index l.columns r));
    }
