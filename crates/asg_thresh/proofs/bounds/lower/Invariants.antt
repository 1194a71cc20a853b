use Rattle.asg_thresh.proofs.Common.{◌≡◌, ℕ, ◌<◌, ◌≤◌, length, get_or}
use Rattle.asg_thresh.proofs.bounds.lower.Given as goal

-- the grades so far are lowered, the others are as they were
abbrev pub invariant-loop-k : goal.invariant-loop-k
invariant-loop-k l =
    record {
      end : l.k-end ≡ length l.fn.leasts;
      kept : (j : ℕ) → get_or l.leasts j 0 ≤ get_or l.fn.leasts j 0;
      lowered : (j : ℕ) → j < l.k → get_or l.leasts j 0 ≤ get_or l.grades j 0;
    }
