use Rattle.asg_dual_bounds.proofs.Common.{◌≡◌, ℕ, ◌<◌, length, slice_index, Bars, absent}
use Rattle.asg_dual_bounds.proofs.gaps.bar_all.Given as goal

-- the columns so far are barred, and all else is as it was
abbrev pub invariant-places : goal.invariant-places
invariant-places l =
    record {
      count : length l.low ≡ length l.fn.low;
      below : (c : ℕ) → slice_index l.fn.low c < absent → slice_index l.low c < absent;
      bars : Bars l.columns l.place l.fn.low l.low;
    }
