use Rattle.asg_match.proofs.Common.{◌≡◌, ℕ, ◌<◌, length, get_or, Matches}
use Rattle.asg_match.proofs.matching.Matching.copy_columns.Given as goal

-- the columns of the rows so far
abbrev pub invariant-loop-row : goal.invariant-loop-row
invariant-loop-row l =
    record {
      end : l.row-end ≡ length l.self;
      same : (r : ℕ) → r < l.row → Matches l.self r (get_or l.columns r 0);
    }
