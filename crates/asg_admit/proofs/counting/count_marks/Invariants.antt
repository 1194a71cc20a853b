use Rattle.asg_admit.proofs.Common.{◌≡◌, ℕ, ◌+◌, ◌<◌, length, slice_index, has_mark, count_below}
use Rattle.asg_admit.proofs.counting.count_marks.Given as goal

-- the marks so far are counted
abbrev pub invariant-loop-k : goal.invariant-loop-k
invariant-loop-k l =
    record {
      size : length l.counts ≡ length l.fn.counts;
      counts : (i : ℕ) → i < length l.fn.counts → slice_index l.counts i ≡ count_below (has_mark l.marks (l.first + i)) l.k;
    }
