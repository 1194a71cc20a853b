use Rattle.asg_admit.proofs.Common.{ℕ, ◌<◌, ◌≤◌, ◌⊎◌, slice_index}
use Rattle.asg_admit.proofs.blocks.next_mark.Given as goal

-- none of the marks so far stands before the least
abbrev pub invariant-loop-i : goal.invariant-loop-i
invariant-loop-i l =
    record {
      after : l.from < l.least;
      within : l.least ≤ l.next;
      apart : (i : ℕ) → i < l.i → (slice_index l.marks i ≤ l.from) ⊎ (l.least ≤ slice_index l.marks i);
    }
