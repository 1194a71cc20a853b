use Rattle.asg_match.proofs.Common.{◌≡◌, ℕ, ◌<◌, length, Matches}
use Rattle.asg_match.proofs.pruning.prune.Given as goal

abbrev pub invariant-loop-row : goal.invariant-loop-row
invariant-loop-row g l =
    record {
      side : length l.matching ≡ length l.fn.matching;
      end : l.row-end ≡ length l.fn.matching;
      done : (r c : ℕ) → r < l.row → Matches l.matching r c → g.A.Allowed.allows l.allowed r c;
      only : (r c : ℕ) → Matches l.matching r c → Matches l.fn.matching r c;
      kept : (r c : ℕ) → Matches l.fn.matching r c → g.A.Allowed.allows l.allowed r c → Matches l.matching r c;
    }
