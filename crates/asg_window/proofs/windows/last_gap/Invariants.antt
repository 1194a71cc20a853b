use Rattle.asg_window.proofs.Common.{◌-◌, ◌<◌, ◌≤◌, length, slice_index_or, Gap}
use Rattle.asg_window.proofs.windows.last_gap.Given as goal

abbrev pub invariant-gaps : goal.invariant-gaps
invariant-gaps l =
    record {
      within : l.place < length l.gaps;
      begun : (d : Gap) → (slice_index_or l.gaps l.place d).low ≤ l.grade;
    }

abbrev pub decreases-gaps : goal.decreases-gaps
decreases-gaps l = length l.gaps - l.place
